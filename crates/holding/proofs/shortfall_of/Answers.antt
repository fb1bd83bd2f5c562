use Prim.Native.Nat.{◌<◌, ◌-◌}
use mathlib.Core.List.{[], ◌∷◌}
use mathlib.Core.Path.{◌≡◌}
use native.Mathlib.Omega.{arith}
use lib.ListN.{length, take, get_or}
use Rattle.std.proofs.Common.{length-take, length-append, get_or-take}
use Rattle.std.proofs.lemmas.Slice.Zip.{zip_turn}
use Rattle.holding.proofs.Tallying.{lacks_none, lacks_more}
use borrow.Author.Rules.{rules}
use Rattle.holding.proofs.shortfall_of.Goals as goal

pub loop-share-init : goal.loop-share-init
loop-share-init c = (lacks_none _ _, search rules)

pub loop-share-preserved : goal.loop-share-preserved
loop-share-preserved c = let shares = c.args.shares in
    let sizes = c.args.sizes in
    let end = c.teams-end.result in
    let t = length c.loop-share.yielded in
    let (low, _, share, size) = zip_turn (take end shares) (take end sizes) c.loop-share.yielded c.into_iter-share-iterator.result c.loop-share.share-iterator c.next.new.self c.next.result (search rules) (search rules) c.loop-share.yielded_by (c.in-Some.share, c.in-Some.size) c.in-Some.is c.next.ensures.steps in
    let below : t < end = omega (arith, length-take end shares) in
    let lacks : c.saturating_sub.result ≡ get_or shares t 0 - get_or sizes t 0 = rw (← get_or-take end shares t 0 below, ← get_or-take end sizes t 0 below, ← share 0, ← size 0) c.saturating_sub.ensures in
    rw (length-append c.loop-share.yielded ((c.in-Some.share, c.in-Some.size) ∷ [])) (lacks_more _ _ t _ _ c.loop-share.invariant.0 lacks, omega (arith, c.loop-share.invariant.1, c.saturating_sub.type_inv))
