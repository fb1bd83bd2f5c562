use mathlib.Core.Path.{◌≡◌, ◌∙◌}
use native.Mathlib.Omega.{arith}
use lib.ListN.{length}
use Rattle.std.proofs.lemmas.List.{get_or_default}
use Rattle.sets.proofs.Through.{ahead_all, through_none, through_done, through_next}
use Rattle.caps.proofs.Classes.{counts_none, counts_few, counts_rests, counts_put, counts_skip}
use borrow.Author.Rules.{rules}
use Rattle.caps.proofs.class_counts.Goals as goal

pub loop-g-init : goal.loop-g-init
loop-g-init c = rw (c.into_iter-g-iterator.ensures.into_iter_gives, c.members-g-items.ensures) (through_none _ _ _ _ (ahead_all _ _ _ _ c.all_below.ensures c.both.ensures) (counts_none _ _))

pub overflow_add-counts : goal.overflow_add-counts
overflow_add-counts c = let h = c.loop-g.invariant in let few = counts_few _ _ _ _ h.holds c.from-c.result c.if-c-lt16.true in omega (arith, h.top, c.requires)

pub loop-g-preserved-then-c-lt16 : goal.loop-g-preserved-then-c-lt16
loop-g-preserved-then-c-lt16 c = let next = c.in-Some.ensures.steps in
    let long : length c.args.class.now ≡ 64 = search rules in
    let is = c.from-c.ensures ∙ get_or_default c.args.class.now c.in-Some.g 0 255 (let l = next.some in omega arith) in
    through_next _ _ _ _ _ c.loop-g.invariant next.low next.some _ next.is _ (counts_rests _ _ _ _)
    (λ member h. counts_put _ _ _ c.loop-g.counts h member _ _ is c.if-c-lt16.true (search rules))

pub loop-g-preserved : goal.loop-g-preserved
loop-g-preserved c = let next = c.in-Some.ensures.steps in
    let long : length c.args.class.now ≡ 64 = search rules in
    let is = c.from-c.ensures ∙ get_or_default c.args.class.now c.in-Some.g 0 255 (let l = next.some in omega arith) in
    through_next _ _ _ _ _ c.loop-g.invariant next.low next.some _ next.is _ (counts_rests _ _ _ _)
    (λ member h. counts_skip _ _ _ c.loop-g.counts h member (rw is at c.if-c-lt16.false))

pub returns : goal.returns
returns c = through_done _ _ _ _ _ c.loop-g.invariant c.in-None.ensures.steps.0 (omega arith) c.requires (counts_rests _ _ _ _)
