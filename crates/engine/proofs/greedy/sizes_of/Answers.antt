use Prim.Native.Nat.{◌<◌}
use mathlib.Core.Path.{◌≡◌, refl}
use native.Mathlib.Omega.{arith}
use lib.ListN.{length}
use Rattle.std.proofs.Common.{length-take, get_or-take}
use Rattle.sets.proofs.Each.{tabled_next, tabled_all}
use Rattle.holding.specs.Count.{table}
use borrow.Author.Rules.{rules}
use Rattle.engine.proofs.greedy.sizes_of.Goals as goal

pub loop-t-preserved : goal.loop-t-preserved
loop-t-preserved c = let n = c.args.n in
    let bundles = c.args.bundles in
    let t = c.loop-t.t in
    let below : t < n = omega (arith, c.loop-t-test.true, length-take n bundles) in
    tabled_next 12 _ 0 _ _ c.loop-t.invariant (omega (arith, c.requires)) _ (rw (get_or-take n bundles t 0 below) at c.size.ensures)

pub returns : goal.returns
unfolding table
returns c = let long : length c.args.bundles ≡ 12 = search (rules, c.well_formed) in
    let e : c.loop-t.t ≡ c.args.n = omega (arith, c.loop-t-test.false, c.loop-t.auto.t-end, length-take c.args.n c.args.bundles, c.requires) in
    tabled_all 12 _ 0 c.args.n _ (rw e at c.loop-t.invariant) _ (λ u _. refl)
