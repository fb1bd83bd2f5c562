use Prim.Native.Nat.{◌<◌}
use mathlib.Core.Path.{◌≡◌}
use native.Mathlib.Omega.{arith}
use lib.ListN.{length}
use lib.Seq.{get_or-take, length-take-le}
use Rattle.builder.proofs.Pages.{pages_none, pages_more, share_mono}
use borrow.Author.Rules.{rules}
use Rattle.builder.proofs.write.write_pages.Goals as goal

pub loop-t-init : goal.loop-t-init
loop-t-init c = (search rules, pages_none _ _ _)

pub share_start-requires : goal.share_start-requires
share_start-requires c = let args = c.args in
    let long : length args.shares ≡ 12 = search rules in
    let few = length-take-le args.n args.shares (omega (arith, c.requires.2)) in
    let l = c.loop-t-test.true in
    (c.requires.1, omega (arith, c.requires.2))

pub overflow_cast-t : goal.overflow_cast-t
overflow_cast-t c = let args = c.args in
    let long : length args.shares ≡ 12 = search rules in
    let few = length-take-le args.n args.shares (omega (arith, c.requires.2)) in
    let l = c.loop-t-test.true in
    omega (arith, c.requires.2)

pub write_page-requires : goal.write_page-requires
write_page-requires c = let args = c.args in
    let long : length args.shares ≡ 12 = search rules in
    let few = length-take-le args.n args.shares (omega (arith, c.requires.2)) in
    let l = c.loop-t-test.true in
    let inside : c.loop-t.t < args.n = omega arith in
    let before = share_mono args.m c.loop-t.t args.n inside in
    (omega (arith, c.requires.0, c.share_start.ensures, c.loop-t.invariant.1.long), c.requires.1)

pub loop-t-preserved : goal.loop-t-preserved
loop-t-preserved c = let args = c.args in
    let at = c.loop-t in
    let long : length args.shares ≡ 12 = search rules in
    let few = length-take-le args.n args.shares (omega (arith, c.requires.2)) in
    let l = c.loop-t-test.true in
    let inside : at.t < args.n = omega arith in
    (search rules, pages_more _ at.buffer _ _ _ args.shares at.invariant.1 (rw (c.share_start.ensures, get_or-take args.n args.shares at.t _ inside) at c.write_page.ensures))

pub returns : goal.returns
returns c = let args = c.args in
    let long : length args.shares ≡ 12 = search rules in
    let few = length-take-le args.n args.shares (omega (arith, c.requires.2)) in
    let inside = c.loop-t.invariant.0 in
    let past = c.loop-t-test.false in
    let e : c.loop-t.t ≡ args.n = omega arith in rw e at c.loop-t.invariant.1
