use Prim.Native.Nat.{◌<◌}
use mathlib.Core.Path.{◌≡◌, sym, ◌∙◌, subst⁻¹}
use mathlib.Core.Bool.{Bool, not}
use native.Mathlib.Omega.{arith}
use lib.Dec.{T}
use lib.ListN.{length, get_or-replicate}
use Rattle.std.proofs.Common.{length-take, get_or-take}
use Rattle.matroid.proofs.Waves.{rooted_none, rooted_skip}
use Rattle.sets.proofs.Below.{none_there}
use Rattle.exchange.proofs.Words.{roots_take}
use borrow.Author.Rules.{rules}
use Rattle.exchange.proofs.search.roots.Goals as goal
use Rattle.exchange.proofs.search.roots.Goals.{else-member, then-member}

pub loop-t-init : goal.loop-t-init
loop-t-init c = (search rules, λ owner ready. rooted_none _ _ _ _ _ _ none_there)

pub loop-t-preserved : goal.loop-t-preserved
loop-t-preserved c = let s = c.args.s in
    let below : c.loop-t.t < s.n = omega (arith, c.loop-t-test.true, length-take s.n s.valuations) in (
      elim c.if-member.branch [ then-member w ↦ rw w.to-is (w.assign.ensures.long ∙ c.loop-t.invariant.0) | else-member w ↦ rw w.to-is c.loop-t.invariant.0 ],
      λ owner ready. elim c.if-member.branch [
        | then-member w ↦ rw (w.seen-is, w.to-is) (roots_take s owner _ ready _ _ _ _ _ _ c.loop-t.to w.assign.new.table _ _ below ready.valuations_long (get_or-take s.n s.valuations c.loop-t.t _ below) (c.loop-t.invariant.1 owner ready)
            (sym c.member.ensures ∙ w.if-member.true) w.gains_of-free.ensures w.minus-fresh.ensures w.assign.ensures w.either-seen.ensures)
        | else-member w ↦ rw (w.seen-is, w.to-is) (rooted_skip _ _ _ _ _ _ _ (c.loop-t.invariant.1 owner ready) (subst⁻¹ (λ (b : Bool). T (not b)) (sym c.member.ensures ∙ w.if-member.false) tt))
      ],
    )

pub returns : goal.returns
returns c = let s = c.args.s in
    let long : length s.valuations ≡ 12 = search (rules, c.well_formed) in
    let e : c.loop-t.t ≡ s.n = omega (arith, c.loop-t-test.false, c.loop-t.auto.t-end, length-take s.n s.valuations, c.requires.1) in
    λ owner ready. record { rooted = rw e at (c.loop-t.invariant.1 owner ready); apart = λ x l. get_or-replicate 64 x 255 0 l }
