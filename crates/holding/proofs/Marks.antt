-- A word that a loop fills in rising order: the numbers below k that pass a test.
use Prim.Native.Nat.{ℕ, ◌+◌}
use mathlib.Core.Path.{◌≡◌, refl, sym, ap, ◌∙◌}
use mathlib.Core.Bool.{Bool, true, false, ◌&&◌, or-true, or-false}
use mathlib.Core.Logic.{◌≢◌}
use native.Mathlib.Omega.{arith}
use native.Mathlib.Decide.{ℕ_discrete, dec_lt}
use lib.Dec.{ltb}
use borrow.Author.Tests.{lt-ltb, le-ltb, eq-eqb, ne_eqb}
use Rattle.matroid.specs.Set.{Set, with}
use Rattle.sets.specs.Bits.{bit}
use Rattle.sets.proofs.Below.{bit_none}

-- the word holds the numbers below k that pass the test
abbrev pub Marks : (test : Set) (k word : ℕ) → Type 0
Marks test k word = (j : ℕ) → bit word j ≡ (ltb j k && test j)

-- below 0 there is none
pub marks_none : (test : Set) → Marks test 0 0
marks_none test j = rw (le-ltb j 0 (omega arith)) (bit_none j)

module _ (test : Set) (k word : ℕ) (marks : Marks test k word) where
  -- below k + 1, apart from k, is below k
  other : (j : ℕ) → j ≢ k → ltb j (k + 1) ≡ ltb j k
  other j d = elim (dec_lt j k) [
    | yes l ↦ lt-ltb j (k + 1) (omega arith) ∙ sym (lt-ltb j k l)
    | no n ↦ le-ltb j (k + 1) (omega arith) ∙ sym (le-ltb j k (omega arith))
  ]

  -- k passes the test and joins the word
  pub marks_put : (next : ℕ) → test k ≡ true → ((j : ℕ) → bit next j ≡ with (bit word) k j) → Marks test (k + 1) next
  marks_put next passes is j = is j ∙ go (ℕ_discrete j k)
    where
      go : Dec (j ≡ k) → with (bit word) k j ≡ (ltb j (k + 1) && test j)
      go (yes e) = rw (e, eq-eqb k k refl, lt-ltb k (k + 1) (omega arith), passes) (or-true (bit word k))
      go (no d) = rw (ne_eqb j k d, other j d) (or-false (bit word j) ∙ marks j)

  -- k fails the test
  pub marks_skip : test k ≡ false → Marks test (k + 1) word
  marks_skip fails j = marks j ∙ go (ℕ_discrete j k)
    where
      go : Dec (j ≡ k) → (ltb j k && test j) ≡ (ltb j (k + 1) && test j)
      go (yes e) = rw (e, le-ltb k k (omega arith), lt-ltb k (k + 1) (omega arith), fails) refl
      go (no d) = ap (λ (b : Bool). b && test j) (sym (other j d))
