-- The zeros below a word's lowest one tell its least member.
use mathlib.Core.Path.{◌≡◌, refl, ap, ◌∙◌, subst, subst⁻¹}
use mathlib.Core.Bool.{Bool, not}
use Prim.Native.Nat.{ℕ, zero, suc, ◌/◌, ◌%◌, ◌<◌}
use native.Mathlib.Omega.{arith}
use lib.Dec.{T, eqb}
use lib.Count.{count_trailing_zeros, under, trailing_le}
use Rattle.sets.specs.Bits.{bit}
use Rattle.sets.specs.Lowest.{Lowest}
use Rattle.sets.proofs.Words.{bit_half, bit_zero}

-- the zeros below the lowest one
pub trailing_least : (w s k : ℕ) → k < count_trailing_zeros w s → T (not (bit s k))
unfolding count_trailing_zeros
trailing_least zero s k l = absurd (omega arith)
trailing_least (suc w) s k l = go (s % 2) refl k (λ (k : ℕ) (l : k < count_trailing_zeros w (s / 2)). trailing_least w (s / 2) k l) l
  where
    go : (d : ℕ) → s % 2 ≡ d → (k : ℕ) → ((k : ℕ) → k < count_trailing_zeros w (s / 2) → T (not (bit (s / 2) k))) → k < under d (count_trailing_zeros w (s / 2)) → T (not (bit s k))
    go zero e zero rest l = subst⁻¹ (λ (b : Bool). T (not b)) (bit_zero s ∙ ap (λ (n : ℕ). eqb n 1) e) tt
    go zero e (suc k) rest l = subst (λ (b : Bool). T (not b)) (bit_half s k) (rest k (omega arith))
    go (suc d) e k rest l = absurd (omega arith)

-- and the lowest one
pub trailing_member : (w s : ℕ) → count_trailing_zeros w s < w → T (bit s (count_trailing_zeros w s))
unfolding count_trailing_zeros
trailing_member zero s l = absurd (omega arith)
trailing_member (suc w) s l = go (s % 2) refl (λ (l : count_trailing_zeros w (s / 2) < w). trailing_member w (s / 2) l) l
  where
    go : (d : ℕ) → s % 2 ≡ d → (count_trailing_zeros w (s / 2) < w → T (bit (s / 2) (count_trailing_zeros w (s / 2)))) → under d (count_trailing_zeros w (s / 2)) < suc w → T (bit s (under d (count_trailing_zeros w (s / 2))))
    go zero e rest l = subst T (bit_half s (count_trailing_zeros w (s / 2))) (rest (omega arith))
    go (suc d) e rest l = let odd : s % 2 ≡ 1 = omega arith in subst⁻¹ T (bit_zero s ∙ ap (λ (n : ℕ). eqb n 1) odd) tt

-- so a count of the zeros finds the least member
pub trailing_lowest : (s : ℕ) → Lowest s (count_trailing_zeros 64 s)
trailing_lowest s = record { top = trailing_le 64 s; least = trailing_least 64 s; member = trailing_member 64 s }
