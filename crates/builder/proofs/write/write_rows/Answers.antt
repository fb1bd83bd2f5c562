use Prim.Native.Nat.{◌<◌}
use mathlib.Core.Path.{◌≡◌}
use native.Mathlib.Omega.{arith}
use lib.ListN.{length}
use lib.Seq.{get_or-take, length-take-le}
use Rattle.builder.proofs.Rowing.{row_none, rows_more}
use borrow.Author.Rules.{rules}
use Rattle.builder.proofs.write.write_rows.Goals as goal

pub loop-g-init : goal.loop-g-init
loop-g-init c = (search rules, row_none _ _ _)

pub overflow_cast-g : goal.overflow_cast-g
overflow_cast-g c = let args = c.args in
    let long : length args.table ≡ 64 = search rules in
    let few = length-take-le args.m args.table (omega (arith, c.requires.1)) in
    let l = c.loop-g-test.true in
    omega (arith, c.requires.1)

pub write_three-requires : goal.write_three-requires
write_three-requires c = let args = c.args in
    let long : length args.table ≡ 64 = search rules in
    let few = length-take-le args.m args.table (omega (arith, c.requires.1)) in
    let l = c.loop-g-test.true in
    omega (arith, c.requires.0, c.loop-g.invariant.1.long)

pub loop-g-preserved : goal.loop-g-preserved
loop-g-preserved c = let args = c.args in
    let at = c.loop-g in
    let long : length args.table ≡ 64 = search rules in
    let few = length-take-le args.m args.table (omega (arith, c.requires.1)) in
    let l = c.loop-g-test.true in
    let inside : at.g < args.m = omega arith in
    (search rules, rows_more _ at.buffer _ _ _ _ args.table at.invariant.1 (rw (get_or-take args.m args.table at.g 0 inside) at c.write_three.ensures))

pub returns : goal.returns
returns c = let args = c.args in
    let long : length args.table ≡ 64 = search rules in
    let few = length-take-le args.m args.table (omega (arith, c.requires.1)) in
    let inside = c.loop-g.invariant.0 in
    let past = c.loop-g-test.false in
    let e : c.loop-g.g ≡ args.m = omega arith in rw e at c.loop-g.invariant.1
