use lib.ListN.{take}
use Rattle.std.proofs.Common.{◌≡◌, rules, tests}
use Rattle.std.specs.Bool.{⊤}
use Rattle.std.proofs.lemmas.Iterator.{cases_from_all, YieldsList-from_slice}
use Rattle.matroid.specs.Matroid.{worth}
use Rattle.sets.specs.Bits.{bit}
use Rattle.kinds.specs.Valuations.{matroid_of}
use Rattle.engine.proofs.Filling.{worthless_none, worthless_all}
use Rattle.engine.proofs.fill.worthless.Goals as goal

pub returns-then-set-eq0 : goal.returns-then-set-eq0
returns-then-set-eq0 c = λ _. worthless_none _ _ c.if-set-eq0.true

pub returns-else-set-eq0 : goal.returns-else-set-eq0
returns-else-set-eq0 c = let s = c.args.s in
    worthless_all s c.args.set c.requires c.all.result
    (cases_from_all _ _ c.all.result (λ v. worth (matroid_of s.m v) (bit c.args.set) ≡ 0) (λ v. ⊤) c.all.ensures.ran (YieldsList-from_slice (take s.n s.valuations) (cc)) (λ x q k. search (rules, tests)) (λ x q k. tt))
