use Prim.Native.Nat.{min}
use mathlib.Core.Path.{◌≡◌, ◌∙◌}
use native.Mathlib.Omega.{arith}
use lib.ListN.{length}
use Rattle.std.proofs.Common.{length-take}
use Rattle.holding.proofs.Counting.{total_is}
use borrow.Author.Rules.{rules}
use Rattle.holding.proofs.Holding.total.Goals as goal

pub returns : goal.returns
returns c = let long : length c.args.self.sizes ≡ 12 = search rules in
    let taken = length-take c.teams-end.result c.args.self.sizes in
    let e : c.loop-size.size-index ≡ min c.args.self.n 12 = omega (arith, c.teams-end.ensures, c.loop-size-test.false, c.loop-size.auto.size-index-end) in
    c.loop-size.invariant.0 ∙ total_is c.args.self c.requires _ e
