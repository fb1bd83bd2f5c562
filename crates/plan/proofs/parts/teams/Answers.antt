use Prim.Native.Nat.{◌+◌}
use borrow.Author.Rules.{rules}
use Rattle.plan.specs.Progress.{row_at}
use Rattle.plan.proofs.Filling.{filled_all}
use Rattle.plan.proofs.Run.{team_row}
use Rattle.plan.proofs.parts.teams.Goals as goal

pub returns : goal.returns
returns c = filled_all _ _ _ _ _ c.filled.ensures (λ k. row_at c.args.rows.now (k + 1)) (λ i x l k. search rules) _ c.blank.ensures _ (team_row _ _)
