use mathlib.Core.Path.{refl, sym}
use mathlib.Core.Logic.{inl, inr}
use Rattle.mounts.proofs.Placing.{placed_same, settled}
use Rattle.mounts.proofs.Sweeping.{near_there, none_free}
use Rattle.mounts.proofs.matching.Matching.join.Goals as goal

pub returns-then-self-eq0 : goal.returns-then-self-eq0
returns-then-self-eq0 c = let (h, small, out) = c.requires in
    record { matched = h; either = inr (refl, none_free _ _ h c.if-self-eq0.true _ small out) }

pub returns : goal.returns
returns c = let (low, some) = c.in-Some.ensures in
    let (fit, there) = near_there _ _ _ _ low some c.both.ensures in
    let (h, small, out) = c.requires in
    record {
      matched = placed_same (λ k. sym (c.with-self.ensures k)) (λ k. sym (c.without-self.ensures k)) (settled _ _ _ _ h _ _ small out (h.low _ there) fit there);
      either = inl c.with-self.ensures;
    }
