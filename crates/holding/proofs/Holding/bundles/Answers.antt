use Prim.Native.Nat.{◌<◌}
use mathlib.Core.Path.{◌≡◌, ◌∙◌}
use native.Mathlib.Omega.{arith}
use lib.ListN.{length}
use Rattle.std.proofs.Common.{length-take, get_or-take}
use Rattle.std.proofs.lemmas.List.{get_or_default}
use Rattle.holding.specs.Give.{holder_of}
use Rattle.holding.proofs.Words.{bundles_none, bundles_skip, bundles_put, bundles_all}
use borrow.Author.Rules.{rules}
use Rattle.holding.proofs.Holding.bundles.Goals as goal
use Rattle.holding.proofs.Holding.bundles.Goals.{else-t-lt12, then-t-lt12}

pub loop-g-init : goal.loop-g-init
loop-g-init c = bundles_none _

pub loop-g-preserved : goal.loop-g-preserved
unfolding holder_of
loop-g-preserved c = let self = c.args.self in
    let end = c.instruments-end.result in
    let long : length self.owner ≡ 64 = search rules in
    let g = c.loop-g.g in
    let taken = length-take end self.owner in
    let below : g < end = omega (arith, c.loop-g-test.true) in
    let is : c.from-t.result ≡ holder_of self g = c.from-t.ensures ∙ get_or-take end self.owner g 0 below ∙ get_or_default self.owner g 0 255 (omega (arith, c.instruments-end.ensures)) in
    elim c.if-t-lt12.branch [
      | then-t-lt12 w ↦ bundles_put self g c.loop-g.words c.loop-g.invariant _ _ _ is w.if-t-lt12.true w.with.ensures w.words-is
      | else-t-lt12 w ↦ rw w.words-is (bundles_skip self g c.loop-g.words c.loop-g.invariant _ is w.if-t-lt12.false)
    ]

pub returns : goal.returns
returns c = let self = c.args.self in
    let long : length self.owner ≡ 64 = search rules in
    let taken = length-take c.instruments-end.result self.owner in
    let e : c.loop-g.g ≡ c.instruments-end.result = omega (arith, c.loop-g-test.false, c.loop-g.auto.g-end, c.instruments-end.ensures) in
    bundles_all self _ _ long c.instruments-end.ensures (rw e at c.loop-g.invariant)
