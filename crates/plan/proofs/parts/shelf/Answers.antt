use mathlib.Core.Path.{refl}
use borrow.Author.Rules.{rules}
use Rattle.row.specs.Row.{row_team}
use Rattle.row.specs.Days.{shelf_of}
use Rattle.plan.proofs.Filling.{filled_all}
use Rattle.plan.proofs.parts.shelf.Goals as goal

pub returns : goal.returns
returns c = filled_all _ _ _ _ _ c.filled.ensures (shelf_of (row_team c.args.pool.now)) (λ i x l k. search rules) _ c.always.ensures _ (λ i l. refl)
