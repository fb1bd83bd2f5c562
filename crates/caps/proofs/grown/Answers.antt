use mathlib.Core.Path.{refl}
use native.Mathlib.Omega.{arith}
use lib.ListN.{get_or}
use mir.Val.{Fits}
use mir.Syntax.{w8}
use Rattle.sets.proofs.Growing.{growing_take, growing_skip}
use Rattle.caps.proofs.Joining.{caps_join}
use borrow.Author.Rules.{rules}
use Rattle.caps.proofs.grown.Goals as goal

pub overflow_add-counts : goal.overflow_add-counts
overflow_add-counts c = let (is, room) = c.in-Some-open_class.ensures in
    let f : Fits w8 (get_or c.args.cap c.in-Some-open_class.k 0) = search rules in
    let (_, few) = rw (← is) at room in
    omega (arith, f, few)

pub loop-g-preserved-in-Some-open_class : goal.loop-g-preserved-in-Some-open_class
loop-g-preserved-in-Some-open_class c = let h = c.loop-g.invariant in
    let next = c.in-Some.ensures.steps in
    let there = next.low.member next.some in
    let (l, _, out) = h.ahead c.in-Some.g there in
    let (is, room) = c.in-Some-open_class.ensures in
    let (small, few) = rw (← is) at room in
    growing_take _ _ _ _ _ _ _ _ h _ _ next.is there _ c.with-larger.ensures (omega (arith, c.if-room-eq0.false)) _
    (caps_join _ _ c.args.cap c.loop-g.counts _ _ _ _ is small l out few refl _ c.with-larger.ensures)

pub loop-g-preserved : goal.loop-g-preserved
loop-g-preserved c = growing_skip _ _ _ _ _ _ _ _ c.loop-g.invariant _ _ c.in-Some.ensures.steps.is
