use lib.ListN.{length, take}
use Rattle.std.proofs.Common.{◌≡◌, ◌<◌, ◌≤◌, rules, tests}
use Rattle.std.proofs.lemmas.Iterator.{IsFirst-from_position, YieldsList-from_slice, YieldsList-from_zip}
use Rattle.engine.proofs.Leveling.{first_is}
use Rattle.engine.proofs.level.first_short.Goals as goal

pub returns : goal.returns
returns c = let sizes = c.args.sizes in
    let shares = c.args.shares in
    let n = c.args.n in
    let long_sizes : length sizes ≡ 12 = search (rules, c.well_formed) in
    let long_shares : length shares ≡ 12 = search (rules, c.well_formed) in
    first_is sizes shares n long_sizes long_shares c.requires c.position.result
    (IsFirst-from_position c.position.new.self _ c.position.result (λ p. p.0 < p.1) (λ p. p.1 ≤ p.0) c.position.ensures.ran (YieldsList-from_zip (YieldsList-from_slice (take n sizes) (cc)) (YieldsList-from_slice (take n shares) (cc))) (λ x q k. search (rules, tests)) (λ x q k. search (rules, tests)))
