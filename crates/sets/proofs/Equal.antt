-- Words with the same members are equal.
use Prim.Native.Nat.{ℕ, zero, suc, ◌/◌, ◌%◌, ◌^◌, ◌<◌}
use mathlib.Core.Path.{◌≡◌, refl, sym, ◌∙◌}
use native.Mathlib.Omega.{arith}
use native.Mathlib.Nat.{pow-suc}
use lib.Dec.{eqb}
use Rattle.sets.specs.Bits.{bit}
use Rattle.sets.proofs.Words.{bit_half, bit_zero}

-- two digits that pass the same test are equal
same_digit : (x y : ℕ) → x < 2 → y < 2 → eqb x 1 ≡ eqb y 1 → x ≡ y
same_digit zero zero a b e = refl
same_digit zero (suc zero) a b e = let z : ◌≡◌ {A = ℕ} 0 1 = cc in z
same_digit zero (suc (suc y)) a b e = absurd (omega arith)
same_digit (suc zero) zero a b e = let z : ◌≡◌ {A = ℕ} 1 0 = cc in z
same_digit (suc zero) (suc zero) a b e = refl
same_digit (suc zero) (suc (suc y)) a b e = absurd (omega arith)
same_digit (suc (suc x)) y a b e = absurd (omega arith)

pub same_word : (w a b : ℕ) → a < 2 ^ w → b < 2 ^ w → ((j : ℕ) → bit a j ≡ bit b j) → a ≡ b
same_word zero a b la lb h = omega arith
same_word (suc w) a b la lb h =
    let p = pow-suc 2 w in
    let half = same_word w (a / 2) (b / 2) (omega arith) (omega arith) (λ j. bit_half a j ∙ h (suc j) ∙ sym (bit_half b j)) in
    let last = same_digit (a % 2) (b % 2) (omega arith) (omega arith) (sym (bit_zero a) ∙ h 0 ∙ bit_zero b) in
    omega arith
