use mathlib.Core.Path.{ap, ◌∙◌}
use Rattle.plan.specs.Read.{shelf_days}
use Rattle.plan.proofs.Rows.{pool_lent}
use Rattle.plan.proofs.Run.{accepted_is}
use Rattle.plan.proofs.accept.Goals as goal

pub returns : goal.returns
returns c = let start = c in
    accepted_is start.args.rows.now start.args.s _ _ _ c.teams-teams.ensures c.days-days.ensures (c.shelf-shelf.ensures ∙ ap (shelf_days start.args.s.m) (pool_lent start.args.rows.now)) start.requires.1 _ c.glue-glue.ensures
