-- A word that a loop gathers by a test, and what it is where the test decides a set.
use Prim.Native.Nat.{ℕ, ◌+◌, ◌^◌, ◌≤◌, ◌<◌}
use mathlib.Core.Path.{◌≡◌, refl}
use mathlib.Core.Bool.{Bool, true, false, ◌&&◌, or-true, or-false}
use mathlib.Core.Logic.{◌↔◌}
use native.Mathlib.Omega.{arith}
use native.Mathlib.Decide.{dec_lt, ℕ_discrete}
use lib.Dec.{T, T_not, ltb}
use borrow.Author.Tests.{lt-ltb, le-ltb, eq-eqb, ne_eqb}
use Rattle.matroid.specs.Taut.{T→false}
use Rattle.matroid.specs.Set.{Set, with}
use Rattle.sets.specs.Bits.{bit, word}
use Rattle.sets.specs.Chosen.{Chosen}
use Rattle.sets.proofs.Below.{none_there}
use Rattle.sets.proofs.Gathering.{gathered_all}

pub chosen_none : (answers : ℕ → Bool → Type 0) → Chosen 0 answers 0
chosen_none answers = record { at = λ i l. absurd (omega arith); rest = λ i _. none_there i }

module _ (answers : ℕ → Bool → Type 0) (k w : ℕ) (h : Chosen k answers w) where
  pub chosen_take : (w' : ℕ) → answers k true → ((j : ℕ) → bit w' j ≡ with (bit w) k j) → Chosen (k + 1) answers w'
  chosen_take w' t is = record {
    at = λ i l. elim (ℕ_discrete i k) [
      | yes e ↦ rw (is i, e, eq-eqb k k refl, or-true (bit w k)) t
      | no d ↦ rw (is i, ne_eqb i k d, or-false (bit w i)) (h.at i (omega arith))
    ];
    rest = λ i l. rw (is i, ne_eqb i k (omega arith), or-false (bit w i)) (h.rest i (omega arith));
  }

  pub chosen_skip : answers k false → Chosen (k + 1) answers w
  chosen_skip f = record {
    at = λ i l. elim (ℕ_discrete i k) [
      | yes e ↦ rw (e, T→false (bit w k) (h.rest k (omega arith))) f
      | no d ↦ h.at i (omega arith)
    ];
    rest = λ i l. h.rest i (omega arith);
  }

-- where the test answers as a set has it, the word holds the members below m of the set
module _ (answers : ℕ → Bool → Type 0) (A : Set) (m w : ℕ) (h : Chosen m answers w) (is : (i : ℕ) (b : Bool) → i < m → answers i b → b ≡ A i) where
  pub chosen_bits : (j : ℕ) → bit w j ≡ (ltb j m && A j)
  chosen_bits j = go (dec_lt j m)
    where
      go : Dec (j < m) → bit w j ≡ (ltb j m && A j)
      go (yes l) = rw (lt-ltb j m l) (is j (bit w j) l (h.at j l))
      go (no d) = rw (le-ltb j m (omega arith)) (T→false (bit w j) (h.rest j (omega arith)))

  -- and is the word of them
  pub chosen_word : m ≤ 64 → w < 2 ^ 64 → w ≡ word m A
  chosen_word l fits = gathered_all A m w l fits (record { at = chosen_bits })

-- where the test answers whether a fact holds, the word holds the numbers below m of which it does
pub chosen_holds : (answers : ℕ → Bool → Type 0) (P : ℕ → Type 0) (m w : ℕ) → Chosen m answers w → ((i : ℕ) (b : Bool) → i < m → answers i b → T b ↔ P i) → (j : ℕ) → T (bit w j) ↔ ((j < m) × P j)
chosen_holds answers P m w h is j = go (dec_lt j m)
  where
    go : Dec (j < m) → T (bit w j) ↔ ((j < m) × P j)
    go (yes l) = let same = is j (bit w j) l (h.at j l) in (λ t. (l, same.0 t), λ (_, p). same.1 p)
    go (no d) = (λ t. absurd (T_not (bit w j) (h.rest j (omega arith)) t), λ (l, _). absurd (d l))
