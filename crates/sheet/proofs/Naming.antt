-- The loop that puts each instrument of a row into the word of what it goes to.
use Prim.Native.Nat.{ℕ, ◌+◌, ◌<◌, ◌≤◌}
use mathlib.Core.Path.{◌≡◌, refl, sym, ap, ◌∙◌}
use mathlib.Core.Bool.{Bool, ◌&&◌, true, or-true, or-false}
use mathlib.Core.Logic.{◌≢◌}
use mathlib.Core.List.{List}
use native.Mathlib.Omega.{arith}
use native.Mathlib.Decide.{ℕ_discrete, dec_lt}
use lib.Dec.{eqb, ltb}
use lib.ListN.{length, get_or, set, replicate, length-set, get_or-replicate}
use lib.Seq.{get_or-set_same, get_or-set_other}
use lib.Pow.{pow_pos}
use borrow.Author.Tests.{lt-ltb, le-ltb, eq-eqb, ne_eqb}
use Rattle.matroid.specs.Set.{with}
use Rattle.sets.specs.Bits.{bit}
use Rattle.sets.proofs.Words.{bit_high}
use Rattle.sets.specs.Bundles.{Bundles}

-- no instrument is in any word at first
pub words_none : (D : ℕ → ℕ) → Bundles 0 D (replicate 12 0)
words_none D = record { long = refl; at = λ t l j. rw (get_or-replicate {A = ℕ} 12 t 0 0 l, le-ltb j 0 (omega arith)) (bit_high 0 j (pow_pos j)) }

module _ (D : ℕ → ℕ) (g : ℕ) (words : List ℕ) (w : Bundles g D words) where
  -- below g + 1, apart from g, is below g
  other : (j : ℕ) → j ≢ g → ltb j (g + 1) ≡ ltb j g
  other j d = elim (dec_lt j g) [
    | yes l ↦ lt-ltb j (g + 1) (omega arith) ∙ sym (lt-ltb j g l)
    | no n ↦ le-ltb j (g + 1) (omega arith) ∙ sym (le-ltb j g (omega arith))
  ]

  -- a word that g does not go to stays
  away : (t : ℕ) → D g ≢ t → (j : ℕ) → Dec (j ≡ g) → (ltb j g && eqb (D j) t) ≡ (ltb j (g + 1) && eqb (D j) t)
  away t d j (yes e) = rw (e, le-ltb g g (omega arith), lt-ltb g (g + 1) (omega arith), ne_eqb (D g) t d) refl
  away t d j (no d') = ap (λ (b : Bool). b && eqb (D j) t) (sym (other j d'))

  -- an instrument that goes to none of the twelve changes no word
  pub words_skip : 12 ≤ D g → Bundles (g + 1) D words
  words_skip h = record { long = w.long; at = λ t l j. w.at t l j ∙ away t (λ e. omega arith) j (ℕ_discrete j g) }

  -- an instrument joins the word of what it goes to
  pub words_put : (k word : ℕ) (next : List ℕ) → k ≡ D g → k < 12 → ((j : ℕ) → bit word j ≡ with (bit (get_or words k 0)) g j) → next ≡ set words k word → Bundles (g + 1) D next
  words_put k word next is small h e = rw e (record { long = length-set words k word ∙ w.long; at = λ t l j. go t l j (ℕ_discrete t k) })
    where
      wide : length words ≡ 12
      wide = w.long

      -- in its own word
      own : (j : ℕ) → Dec (j ≡ g) → with (bit (get_or words k 0)) g j ≡ (ltb j (g + 1) && eqb (D j) k)
      own j (yes e) = rw (e, w.at k small g, eq-eqb g g refl, lt-ltb g (g + 1) (omega arith), eq-eqb (D g) k (sym is)) (or-true (ltb g g && true))
      own j (no d) = rw (w.at k small j, ne_eqb j g d, other j d) (or-false (ltb j g && eqb (D j) k))

      go : (t : ℕ) → t < 12 → (j : ℕ) → Dec (t ≡ k) → bit (get_or (set words k word) t 0) j ≡ (ltb j (g + 1) && eqb (D j) t)
      go t l j (yes same) = rw (same, get_or-set_same words k word 0 (omega arith)) (h j ∙ own j (ℕ_discrete j g))
      go t l j (no differ) = rw (get_or-set_other words k t word 0 differ) (w.at t l j ∙ away t (λ e. differ (sym e ∙ sym is)) j (ℕ_discrete j g))

-- words go by what is named below m
pub words_agree : (m : ℕ) (D E : ℕ → ℕ) (words : List ℕ) → ((g : ℕ) → g < m → D g ≡ E g) → Bundles m D words → Bundles m E words
words_agree m D E words h w = record { long = w.long; at = λ t l j. w.at t l j ∙ go t j (dec_lt j m) }
  where
    go : (t j : ℕ) → Dec (j < m) → (ltb j m && eqb (D j) t) ≡ (ltb j m && eqb (E j) t)
    go t j (yes l) = rw (h j l) refl
    go t j (no n) = rw (le-ltb j m (omega arith)) refl
