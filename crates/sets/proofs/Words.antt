-- Operations on words as operations on the sets that they stand for.
use mathlib.Core.Path.{◌≡◌, refl, sym, ap, ap₂, ◌∙◌}
use mathlib.Core.Bool.{Bool, true, false, ◌&&◌, ◌||◌, not}
use Prim.Native.Nat.{ℕ, zero, suc, ◌+◌, ◌-◌, ◌*◌, ◌/◌, ◌%◌, ◌^◌, ◌<◌, min, max}
use native.Mathlib.Nat.{mod-lt, div-eq_of_lt, one-mul, pow-suc, mod-one, mod-eq_of_lt, add_comm, lt_of_lt_of_le, div-one}
use native.Mathlib.Omega.{arith}
use native.Mathlib.Decide.{dec_lt}
use lib.Dec.{eqb, ltb}
use lib.Arith.{digits_mod}
use lib.Bits.{bit_and, bit_or, bit_xor, differ, and_step, or_step, xor_step, and_shr, or_shr, xor_shr, shifted_even}
use lib.Pow.{pow-lt, pow_pos, pow_mono, pow-add, high, shl-shr, mod-pow-add, shr-shr, ones_lt, ones_split}
use lib.Count.{ones, ones_cat}
use borrow.Author.Tests.{eq-eqb, ne_eqb, lt-ltb, le-ltb}
use Rattle.matroid.specs.Set.{◌∪◌, ◌∩◌, ◌∖◌, only, under, one, size}
use Rattle.sets.specs.Bits.{bit}

-- ---- one binary digit

-- an operation on digits that has the table of an operation on tests
digit : (f : ℕ → ℕ → ℕ) (b : Bool → Bool → Bool) → eqb (f 0 0) 1 ≡ b false false → eqb (f 0 1) 1 ≡ b false true → eqb (f 1 0) 1 ≡ b true false → eqb (f 1 1) 1 ≡ b true true
    → (x y : ℕ) → x < 2 → y < 2 → eqb (f x y) 1 ≡ b (eqb x 1) (eqb y 1)
digit f b p q r s zero zero lx ly = p
digit f b p q r s zero (suc zero) lx ly = q
digit f b p q r s zero (suc (suc y)) lx ly = absurd (omega arith)
digit f b p q r s (suc zero) zero lx ly = r
digit f b p q r s (suc zero) (suc zero) lx ly = s
digit f b p q r s (suc zero) (suc (suc y)) lx ly = absurd (omega arith)
digit f b p q r s (suc (suc x)) y lx ly = absurd (omega arith)

-- two digits differ in one digit
differ_lt : (x y : ℕ) → x < 2 → y < 2 → differ x y < 2
differ_lt zero y p q = q
differ_lt (suc zero) zero p q = omega arith
differ_lt (suc zero) (suc y) p q = omega arith
differ_lt (suc (suc x)) y p q = absurd (omega arith)

mod_two : (a : ℕ) → a % 2 < 2
mod_two a = omega arith

-- ---- the operations on two words

-- an operation on words that goes digit by digit, f on digits and b on tests
module _ (op f : ℕ → ℕ → ℕ) (b : Bool → Bool → Bool)
    (shr : (x y k : ℕ) → op x y / 2 ^ k ≡ op (x / 2 ^ k) (y / 2 ^ k))
    (step : (x y : ℕ) → op x y ≡ op (x / 2) (y / 2) * 2 + f (x % 2) (y % 2))
    (small : (x y : ℕ) → x < 2 → y < 2 → f x y < 2)
    (table : (x y : ℕ) → x < 2 → y < 2 → eqb (f x y) 1 ≡ b (eqb x 1) (eqb y 1)) where
  last_digit : (x y : ℕ) → op x y % 2 ≡ f (x % 2) (y % 2)
  last_digit x y = ap (λ (n : ℕ). n % 2) (step x y) ∙ digits_mod (op (x / 2) (y / 2)) (small (x % 2) (y % 2) (mod_two x) (mod_two y))

  bit_by_digits : (x y j : ℕ) → bit (op x y) j ≡ b (bit x j) (bit y j)
  unfolding bit
  bit_by_digits x y j =
      ap (λ (n : ℕ). eqb (n % 2) 1) (shr x y j)
      ∙ ap (λ (n : ℕ). eqb n 1) (last_digit (x / 2 ^ j) (y / 2 ^ j))
      ∙ table (x / 2 ^ j % 2) (y / 2 ^ j % 2) (mod_two (x / 2 ^ j)) (mod_two (y / 2 ^ j))

-- the ones of either word, of both, and of one and not the other
pub bit_either : (a b j : ℕ) → bit (bit_or a b) j ≡ (bit a ∪ bit b) j
bit_either = bit_by_digits bit_or max ◌||◌ or_shr or_step (λ x y p q. omega arith) (digit max ◌||◌ refl refl refl refl)

pub bit_both : (a b j : ℕ) → bit (bit_and a b) j ≡ (bit a ∩ bit b) j
bit_both = bit_by_digits bit_and min ◌&&◌ and_shr and_step (λ x y p q. omega arith) (digit min ◌&&◌ refl refl refl refl)

bit_differ : (a b j : ℕ) → bit (bit_xor a b) j ≡ (not (bit a j) && bit b j || bit a j && not (bit b j))
bit_differ = bit_by_digits bit_xor differ (λ p q. not p && q || p && not q) xor_shr xor_step differ_lt (digit differ (λ p q. not p && q || p && not q) refl refl refl refl)

pub bit_minus : (a b j : ℕ) → bit (bit_xor a (bit_and a b)) j ≡ (bit a ∖ bit b) j
bit_minus a b j = bit_differ a (bit_and a b) j ∙ rw (bit_both a b j) (table (bit a j) (bit b j))
  where
    table : (p q : Bool) → (not p && (p && q) || p && not (p && q)) ≡ (p && not q)
    table true q = refl
    table false q = refl

-- ---- the word of one instrument, and of those below m

-- the digits of 2 ^ k below k are 0
pow_digit : (d j : ℕ) → 2 ^ (suc d + j) / 2 ^ j % 2 ≡ 0
pow_digit d j = ap (λ (n : ℕ). n / 2 ^ j % 2) (pow-add 2 (suc d) j) ∙ ap (λ (n : ℕ). n % 2) (shl-shr (2 ^ suc d) j ∙ sym (one-mul (2 ^ suc d))) ∙ shifted_even 1 d

-- a word below 2 ^ j has no digit j
pub bit_high : (s j : ℕ) → s < 2 ^ j → bit s j ≡ false
unfolding bit
bit_high s j l = ap (λ (n : ℕ). eqb (n % 2) 1) (div-eq_of_lt l)

pub bit_only : (k j : ℕ) → bit (2 ^ k) j ≡ only k j
unfolding bit
bit_only k j = go (dec_lt j k) (dec_lt k j)
  where
    go : Dec (j < k) → Dec (k < j) → eqb (2 ^ k / 2 ^ j % 2) 1 ≡ eqb j k
    go (yes h) q =
        let e : k ≡ suc (k - suc j) + j = omega arith in
        ap (λ (n : ℕ). eqb n 1) (ap (λ (n : ℕ). 2 ^ n / 2 ^ j % 2) e ∙ pow_digit (k - suc j) j) ∙ sym (ne_eqb j k (omega arith))
    go (no p) (yes h) = bit_high (2 ^ k) j (pow-lt h) ∙ sym (ne_eqb j k (omega arith))
    go (no p) (no q) =
        let e : k ≡ j = omega arith in
        ap (λ (n : ℕ). eqb (n / 2 ^ j % 2) 1) (ap (λ (n : ℕ). 2 ^ n) e ∙ sym (one-mul (2 ^ j))) ∙ ap (λ (n : ℕ). eqb (n % 2) 1) (shl-shr 1 j) ∙ sym (eq-eqb j k (sym e))

pub bit_below : (m j : ℕ) → bit (2 ^ m - 1) j ≡ under m j
unfolding bit
bit_below m j = go (dec_lt j m)
  where
    go : Dec (j < m) → eqb ((2 ^ m - 1) / 2 ^ j % 2) 1 ≡ ltb j m
    go (yes h) =
        let d = m - suc j in
        let e : m ≡ suc d + j = omega arith in
        let odd : (2 ^ suc d - 1) % 2 ≡ 1 = let p = pow_pos d in let t = pow-suc 2 d in omega arith in
        ap (λ (n : ℕ). eqb ((2 ^ n - 1) / 2 ^ j % 2) 1) e
        ∙ ap (λ (n : ℕ). eqb (n / 2 ^ j % 2) 1) (ones_split (suc d) j)
        ∙ ap (λ (n : ℕ). eqb (n % 2) 1) (high (2 ^ suc d - 1) j (ones_lt j))
        ∙ ap (λ (n : ℕ). eqb n 1) odd
        ∙ sym (lt-ltb j m h)
    go (no h) = bit_high (2 ^ m - 1) j (lt_of_lt_of_le (ones_lt m) (pow_mono (omega arith))) ∙ sym (le-ltb j m (omega arith))

-- ---- the number of ones

ones_digit : (x : ℕ) → x < 2 → ones x ≡ one (eqb x 1)
unfolding ones
ones_digit zero p = refl
ones_digit (suc zero) p = refl
ones_digit (suc (suc x)) p = absurd (omega arith)

ones_low : (m s : ℕ) → ones (s % 2 ^ m) ≡ size m (bit s)
unfolding bit ones
ones_low zero s = ap ones (mod-one s)
ones_low (suc m) s =
    ap (λ (n : ℕ). ones (s % 2 ^ n)) (omega arith)
    ∙ ap ones (mod-pow-add s 1 m)
    ∙ ones_cat m (s / 2 ^ m % 2) (s % 2 ^ m) (mod-lt s (pow_pos m))
    ∙ ap₂ (λ (x y : ℕ). x + y) (ones_digit (s / 2 ^ m % 2) (mod_two (s / 2 ^ m))) (ones_low m s)
    ∙ add_comm (one (eqb (s / 2 ^ m % 2) 1)) (size m (λ (k : ℕ). eqb (s / 2 ^ k % 2) 1))

-- the ones of a word are counted as the members of its set
pub ones_size : (m s : ℕ) → s < 2 ^ m → ones s ≡ size m (bit s)
ones_size m s h = ap ones (sym (mod-eq_of_lt h)) ∙ ones_low m s

-- ---- one digit less

pub bit_half : (s j : ℕ) → bit (s / 2) j ≡ bit s (suc j)
unfolding bit
bit_half s j = ap (λ (n : ℕ). eqb (n % 2) 1) (shr-shr s 1 j ∙ ap (λ (n : ℕ). s / 2 ^ n) (omega arith))

pub bit_zero : (s : ℕ) → bit s 0 ≡ eqb (s % 2) 1
unfolding bit
bit_zero s = ap (λ (n : ℕ). eqb (n % 2) 1) (div-one s)
