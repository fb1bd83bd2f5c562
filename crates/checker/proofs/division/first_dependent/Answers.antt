use mathlib.Core.Path.{◌≡◌}
use mathlib.Core.Logic.{◌≢◌}
use lib.ListN.{length, take}
use Rattle.std.proofs.Common.{rules, tests}
use Rattle.std.proofs.lemmas.Iterator.{IsFirst-from_position, YieldsList-from_slice, YieldsList-from_zip}
use Rattle.matroid.specs.Set.{size}
use Rattle.matroid.specs.Matroid.{worth}
use Rattle.sets.specs.Bits.{bit}
use Rattle.kinds.specs.Valuations.{matroid_of}
use Rattle.checker.proofs.Divided.{dependent_first}
use Rattle.checker.proofs.division.first_dependent.Goals as goal

pub returns : goal.returns
returns c = let args = c.args in
    let pre = c.requires in
    let long_words : length args.bundles ≡ 12 = search (rules, c.well_formed) in
    dependent_first args.m args.n args.valuations args.bundles pre.2 long_words pre.0 pre.1 c.position.result
    (IsFirst-from_position c.position.new.self _ c.position.result (λ p. worth (matroid_of args.m p.0) (bit p.1) ≢ size 64 (bit p.1)) (λ p. worth (matroid_of args.m p.0) (bit p.1) ≡ size 64 (bit p.1)) c.position.ensures.ran (YieldsList-from_zip (YieldsList-from_slice (take args.n args.valuations) (cc)) (YieldsList-from_slice (take args.n args.bundles) (cc))) (λ x q k. search (rules, tests)) (λ x q k. search (rules, tests)))
