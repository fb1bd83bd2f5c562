-- The word of a set, and a word that a loop gathers: the members of a set below k.
use Prim.Native.Nat.{ℕ, zero, suc, ◌+◌, ◌*◌, ◌/◌, ◌%◌, ◌^◌, ◌≤◌, ◌<◌}
use mathlib.Core.Path.{◌≡◌, refl, sym, ap, ◌∙◌}
use mathlib.Core.Bool.{Bool, true, false, ◌&&◌, ◌||◌, and-true, and-false, or-false}
use mathlib.Core.Logic.{◌≢◌}
use native.Mathlib.Omega.{arith}
use native.Mathlib.Decide.{dec_lt, ℕ_discrete}
use native.Mathlib.Nat.{pow-suc, lt_of_lt_of_le}
use lib.Dec.{eqb, ltb}
use lib.Pow.{pow_mono}
use borrow.Author.Tests.{lt-ltb, le-ltb, eq-eqb, ne_eqb}
use Rattle.matroid.specs.Set.{Set, one, with}
use Rattle.sets.specs.Bits.{bit, word}
use Rattle.sets.proofs.Words.{bit_half, bit_zero}
use Rattle.sets.proofs.Below.{bit_none}
use Rattle.sets.proofs.Equal.{same_word}

-- ---- the word of a set

pub word_lt : (m : ℕ) (A : Set) → word m A < 2 ^ m
word_lt zero A = omega arith
word_lt (suc m) A = go (A 0) (word_lt m (λ k. A (suc k))) (pow-suc 2 m)
  where
    go : (b : Bool) → word m (λ k. A (suc k)) < 2 ^ m → 2 ^ suc m ≡ 2 ^ m * 2 → one b + 2 * word m (λ k. A (suc k)) < 2 ^ suc m
    go true l p = omega arith
    go false l p = omega arith

pub bit_word : (m : ℕ) (A : Set) (j : ℕ) → bit (word m A) j ≡ (ltb j m && A j)
bit_word zero A j = bit_none j ∙ sym (ap (λ (b : Bool). b && A j) (le-ltb j 0 (omega arith)))
bit_word (suc m) A zero = bit_zero (word (suc m) A) ∙ go (A 0) ∙ sym (ap (λ (b : Bool). b && A 0) (lt-ltb 0 (suc m) (omega arith)))
  where
    go : (b : Bool) → eqb ((one b + 2 * word m (λ k. A (suc k))) % 2) 1 ≡ b
    go true = eq-eqb ((1 + 2 * word m (λ k. A (suc k))) % 2) 1 (omega arith)
    go false = ne_eqb ((0 + 2 * word m (λ k. A (suc k))) % 2) 1 (omega arith)
bit_word (suc m) A (suc j) =
    sym (bit_half (word (suc m) A) j) ∙ ap (λ (w : ℕ). bit w j) (go (A 0)) ∙ bit_word m (λ k. A (suc k)) j ∙ ap (λ (b : Bool). b && A (suc j)) (later (dec_lt j m))
  where
    go : (b : Bool) → (one b + 2 * word m (λ k. A (suc k))) / 2 ≡ word m (λ k. A (suc k))
    go true = omega arith
    go false = omega arith

    later : Dec (j < m) → ltb j m ≡ ltb (suc j) (suc m)
    later (yes l) = lt-ltb j m l ∙ sym (lt-ltb (suc j) (suc m) (omega arith))
    later (no d) = le-ltb j m (omega arith) ∙ sym (le-ltb (suc j) (suc m) (omega arith))

-- ---- a word that a loop gathers

-- the word holds the members of A below k
pub record Gathered (A : Set) (k w : ℕ) : Type 0 where
  pub at : (j : ℕ) → bit w j ≡ (ltb j k && A j)

pub gathered_none : (A : Set) → Gathered A 0 0
gathered_none A = record { at = λ j. rw (le-ltb j 0 (omega arith)) (bit_none j) }

module _ (A : Set) (k w : ℕ) (h : Gathered A k w) where
  -- the others below k + 1 are those below k
  sooner : (j : ℕ) → Dec (j < k) → j ≢ k → ltb j k ≡ ltb j (k + 1)
  sooner j (yes b) d = rw (lt-ltb j k b, lt-ltb j (k + 1) (omega arith)) refl
  sooner j (no c) d = rw (le-ltb j k (omega arith), le-ltb j (k + 1) (omega arith)) refl

  -- below k + 1 there is what was below k, and k where it is in A
  next : (j : ℕ) → Dec (j ≡ k) → (b : Bool) → b ≡ A k → (bit w j || (eqb j k && b)) ≡ (ltb j (k + 1) && A j)
  next j (yes e) b is = rw (h.at j, e, le-ltb k k (omega arith), eq-eqb k k refl, lt-ltb k (k + 1) (omega arith), is) refl
  next j (no d) b is = rw (h.at j, ne_eqb j k d) (or-false (ltb j k && A j) ∙ ap (λ (x : Bool). x && A j) (sooner j (dec_lt j k) d))

  pub gathered_take : (w' : ℕ) → A k ≡ true → ((j : ℕ) → bit w' j ≡ with (bit w) k j) → Gathered A (k + 1) w'
  gathered_take w' e takes = record { at = λ j. takes j ∙ ap (λ (x : Bool). bit w j || x) (sym (and-true (eqb j k))) ∙ next j (ℕ_discrete j k) true (sym e) }

  pub gathered_skip : A k ≡ false → Gathered A (k + 1) w
  gathered_skip e = record { at = λ j. sym (ap (λ (x : Bool). bit w j || x) (and-false (eqb j k)) ∙ or-false (bit w j)) ∙ next j (ℕ_discrete j k) false (sym e) }

-- a word of 64 bits that holds the members below k is the word of the set
pub gathered_all : (A : Set) (k w : ℕ) → k ≤ 64 → w < 2 ^ 64 → Gathered A k w → w ≡ word k A
gathered_all A k w l fits h = same_word 64 w (word k A) fits (lt_of_lt_of_le (word_lt k A) (pow_mono l)) (λ j. h.at j ∙ sym (bit_word k A j))
