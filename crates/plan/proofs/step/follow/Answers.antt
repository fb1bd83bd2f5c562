use mathlib.Core.Path.{refl, sym, ◌∙◌}
use native.Mathlib.Omega.{arith}
use Rattle.judge.proofs.Numbered.{numbered_some}
use Rattle.plan.proofs.Steps.{row_le}
use Rattle.plan.proofs.Following.{follow_refused, follow_few, follow_end, follow_row, follow_on}
use borrow.Author.Rules.{rules}
use Rattle.plan.proofs.step.follow.Goals as goal

pub overflow_mul-start : goal.overflow_mul-start
overflow_mul-start c = let start = c in let l = row_le start.args.s.n start.args.command start.requires.1 in omega (arith, l, c.row_of-start.ensures)

pub overflow_add-start : goal.overflow_add-start
overflow_add-start c = let start = c in let l = row_le start.args.s.n start.args.command start.requires.1 in omega (arith, l, c.row_of-start.ensures)

pub returns-in-Err : goal.returns-in-Err
returns-in-Err c = follow_refused _ _ _ _ _ c.row_of-start.ensures _ (c.into-number.ensures ∙ c.in-Err.ensures) (λ z. numbered_some c.in-Err.fault (sym c.into-number.ensures ∙ z))

pub returns-then-is_end : goal.returns-then-is_end
returns-then-is_end c = follow_end _ _ _ _ _ c.row_of-start.ensures _ c.in_default.ensures refl (sym c.is_end.ensures ∙ c.if-is_end.true)

pub overflow_mul-start-2 : goal.overflow_mul-start-2
overflow_mul-start-2 c = let l = follow_row _ _ _ _ _ c.row_of-start.ensures _ c.in_default.ensures refl _ c.changed_state-next.ensures _ c.row_of-start-2.ensures c.requires.1 in omega arith

pub overflow_add-start-2 : goal.overflow_add-start-2
overflow_add-start-2 c = let l = follow_row _ _ _ _ _ c.row_of-start.ensures _ c.in_default.ensures refl _ c.changed_state-next.ensures _ c.row_of-start-2.ensures c.requires.1 in omega arith

pub change-requires : goal.change-requires
change-requires c = (search rules, follow_few _ _ _ _ _ c.row_of-start.ensures _ c.in_default.ensures refl c.requires.1 _ c.changed_state-next.ensures)

pub returns : goal.returns
returns c = follow_on _ _ _ _ _ c.row_of-start.ensures _ c.in_default.ensures refl _ c.changed_state-next.ensures _ c.row_of-start-2.ensures
    (sym c.is_end.ensures ∙ c.if-is_end.false) c.requires.0 c.requires.1 _ (search rules) c.change.ensures

pub slice_bounds-change-end : goal.slice_bounds-change-end
slice_bounds-change-end c = let l = follow_row _ _ _ _ _ c.row_of-start.ensures _ c.in_default.ensures refl _ c.changed_state-next.ensures _ c.row_of-start-2.ensures c.requires.1 in let long = c.requires.0 in omega arith
