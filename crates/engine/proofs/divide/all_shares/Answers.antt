use Prim.Native.Nat.{◌<◌}
use mathlib.Core.Path.{sym, ◌∙◌}
use native.Mathlib.Omega.{arith}
use Rattle.std.proofs.Common.{length-take, get_or-take}
use Rattle.sets.specs.Bits.{bit}
use Rattle.engine.proofs.Dividing.{some_present, sharing_here, sharing_away}
use Rattle.engine.proofs.divide.all_shares.Goals as goal
use Rattle.engine.proofs.divide.all_shares.Goals.{else-member, then-member}

pub share_of-one-requires : goal.share_of-one-requires
share_of-one-requires c = let s = c.args.s in
    let below : c.loop-t.t < s.n = omega (arith, c.loop-t-test.true, length-take s.n s.valuations) in
    let some = some_present _ (bit c.args.here) _ _ c.requires below (sym c.member.ensures ∙ c.if-member.true) c.size_below-p.ensures in
    (c.requires.small, some.0, some.1)

pub loop-t-preserved : goal.loop-t-preserved
loop-t-preserved c = let s = c.args.s in
    let here = bit c.args.here in
    let below : c.loop-t.t < s.n = omega (arith, c.loop-t-test.true, length-take s.n s.valuations) in
    elim c.if-member.branch [
      | then-member w ↦ sharing_here s here c.requires _ c.loop-t.shares c.loop-t.invariant below _ _ _ _ _ (sym c.member.ensures ∙ w.if-member.true) c.size_below-p.ensures (get_or-take s.n s.valuations c.loop-t.t _ below) w.share_of-one.ensures w.shares-is
      | else-member w ↦ rw w.shares-is (sharing_away s here c.requires _ c.loop-t.shares c.loop-t.invariant below (sym c.member.ensures ∙ w.if-member.false))
    ]
