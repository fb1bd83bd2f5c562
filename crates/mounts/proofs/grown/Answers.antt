use Prim.Native.Nat.{◌<◌}
use mathlib.Core.Path.{sym, ◌∙◌, subst}
use mathlib.Core.Bool.{Bool, not}
use native.Mathlib.Omega.{arith}
use lib.Dec.{T}
use Rattle.sets.proofs.Growing.{growing_done}
use Rattle.mounts.proofs.Agreeing.{grown_worded}
use Rattle.mounts.proofs.Growth.{grows_start, grows_out, grows_take, grows_skip}
use Rattle.mounts.proofs.grown.Goals as goal

pub loop-g-init : goal.loop-g-init
loop-g-init c = rw (c.into_iter-g-iterator.ensures.into_iter_gives, c.members-g-items.ensures) (grows_start _ _ _ _ _ c.requires _ _ c.begin-begun.ensures.held c.candidates.ensures)

pub returns-then-room-eq0 : goal.returns-then-room-eq0
returns-then-room-eq0 c = grown_worded _ _ _ _ _ _ _ _ _ _ _ _ c.requires c.begin-begun.ensures.words c.either.ensures (growing_done _ _ _ _ _ _ _ _ c.loop-g.invariant.growing)

pub join-requires : goal.join-requires
join-requires c = let h = c.loop-g.invariant in
    let next = c.in-Some.ensures.steps in
    (h.matched, next.some, grows_out _ _ _ _ _ _ _ _ _ h _ (next.low.member next.some))

pub loop-g-preserved-then-member : goal.loop-g-preserved-then-member
loop-g-preserved-then-member c = let next = c.in-Some.ensures.steps in
    let room : 0 < c.loop-g.room = omega (arith, c.if-room-eq0.false) in
    grows_take _ _ _ _ _ _ _ _ _ c.loop-g.invariant _ (next.low.member next.some) _ c.join.ensures _ next.is c.requires (subst T (sym c.if-member.true ∙ c.member.ensures) tt) _ c.with-larger.ensures room

pub loop-g-preserved : goal.loop-g-preserved
loop-g-preserved c = let next = c.in-Some.ensures.steps in
    grows_skip _ _ _ _ _ _ _ _ _ c.loop-g.invariant _ (next.low.member next.some) _ c.join.ensures _ next.is (subst (λ (b : Bool). T (not b)) (sym c.if-member.false ∙ c.member.ensures) tt)

pub returns : goal.returns
returns c = grown_worded _ _ _ _ _ _ _ _ _ _ _ _ c.requires c.begin-begun.ensures.words c.either.ensures (growing_done _ _ _ _ _ _ _ _ c.loop-g.invariant.growing)
