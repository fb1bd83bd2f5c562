use mathlib.Core.Path.{◌≡◌, sym, ◌∙◌}
use lib.ListN.{length}
use Rattle.holding.proofs.Fits.{move_below, fits_none, fits_many, fits_more, fits_stop, fits_twice, fits_all, in_list, step_is, list_end}
use borrow.Author.Rules.{rules}
use Rattle.holding.proofs.Holding.fits.Goals as goal

pub returns-then-count-gt64 : goal.returns-then-count-gt64
returns-then-count-gt64 c = fits_many _ _ c.if-count-gt64.true

pub loop-step-init : goal.loop-step-init
loop-step-init c = fits_none _ _

pub returns-then-not-may_move : goal.returns-then-not-may_move
returns-then-not-may_move c = let moves = c.args.moves in fits_stop _ moves _ c.loop-step.seen c.loop-step.invariant _ (step_is moves _ c.loop-step-test.true) _ c.may_move.ensures c.if-not-may_move.true (in_list moves _ c.loop-step-test.true)

pub member-requires : goal.member-requires
member-requires c = move_below _ _ _ (sym c.may_move.ensures ∙ c.if-not-may_move.false)

pub returns-then-member : goal.returns-then-member
returns-then-member c = let moves = c.args.moves in fits_twice _ moves _ c.loop-step.seen c.loop-step.invariant _ (step_is moves _ c.loop-step-test.true) _ c.member.ensures c.if-member.true (in_list moves _ c.loop-step-test.true)

pub with-seen-requires : goal.with-seen-requires
with-seen-requires c = move_below _ _ _ (sym c.may_move.ensures ∙ c.if-not-may_move.false)

pub loop-step-preserved : goal.loop-step-preserved
loop-step-preserved c = fits_more _ _ _ c.loop-step.seen c.loop-step.invariant _ (step_is c.args.moves _ c.loop-step-test.true) _ _ _ c.may_move.ensures c.if-not-may_move.false c.member.ensures c.if-member.false c.with-seen.ensures

pub returns : goal.returns
returns c = let long : length c.args.moves.list ≡ 64 = search (rules, c.well_formed) in
    fits_all _ _ _ c.loop-step.seen c.loop-step.invariant (list_end c.args.moves _ long c.if-count-gt64.false c.loop-step.auto.step-index-end c.loop-step-test.false) c.if-count-gt64.false
