-- The loop of `words`: what is left of the set is still to come, and its words are 0.
use Prim.Native.Nat.{ℕ, ◌≤◌, ◌<◌}
use mathlib.Core.Path.{◌≡◌, refl, sym, ◌∙◌, subst, subst⁻¹}
use mathlib.Core.Bool.{not}
use mathlib.Core.Logic.{◌≢◌}
use mathlib.Core.List.{List}
use native.Mathlib.Omega.{arith}
use native.Mathlib.Decide.{dec_lt, ℕ_discrete}
use lib.Dec.{T, T_not, not_T}
use lib.ListN.{length, get_or, set, replicate, length-set, length-replicate, get_or-replicate, get_or-eq_default}
use lib.Seq.{get_or-set_same, get_or-set_other}
use borrow.Author.Tests.{eq-eqb, ne_eqb}
use Rattle.matroid.specs.Taut.{both, and_left}
use Rattle.matroid.specs.Set.{without}
use Rattle.matroid.specs.SetLaws.{ne→eqb, without_ne}
use Rattle.sets.specs.Bits.{bit}
use Rattle.sets.specs.Lowest.{Lowest}
use Rattle.std.proofs.lemmas.List.{get_or_default}
use Rattle.sets.proofs.Below.{bit_none}
use Rattle.mounts.specs.Mounts.{word_of, fits_of}
use Rattle.mounts.specs.Matching.{Worded}

-- a table of zeros
pub zero_at : (n j : ℕ) → Dec (j < n) → get_or {A = ℕ} (replicate n 0) j 0 ≡ 0
zero_at n j (yes l) = get_or-replicate n j 0 0 l
zero_at n j (no d) = get_or-eq_default {A = ℕ} (replicate n 0) 0 {n = j} (let e = length-replicate {A = ℕ} n 0 in omega arith)

module _ (named first second third fourth : List ℕ) (of : ℕ) where
  abbrev Fits : List ℕ → ℕ → Type 0
  Fits words j = (k : ℕ) → bit (get_or words j 0) k ≡ fits_of named first second third fourth j k

  pub record Wording (words : List ℕ) (left : ℕ) : Type 0 where
    pub wide : length words ≡ 64
    pub done : (j : ℕ) → j < 64 → T (bit of j) → T (not (bit left j)) → Fits words j
    pub rest : (j : ℕ) → T (bit left j) → get_or words j 0 ≡ 0

  pub wording_none : Wording (replicate 64 0) of
  wording_none = record {
    wide = length-replicate {A = ℕ} 64 0;
    done = λ j l t out. absurd (T_not (bit of j) out t);
    rest = λ j t. zero_at 64 j (dec_lt j 64);
  }

  module _ (words : List ℕ) (left g : ℕ) (h : Wording words left) (low : Lowest left g) where
    pub wording_done : 64 ≤ g → Worded named first second third fourth of words
    wording_done full = record { at = λ j l t. h.done j l t (low.least j (omega arith)) }

    module _ (some : g < 64) (long : length named ≡ 64) (next : ℕ) (is : (j : ℕ) → bit next j ≡ without (bit left) g j) where
      -- what is not left after g was not left before, but for g
      before : (j : ℕ) → j ≢ g → T (not (bit next j)) → T (not (bit left j))
      before j ne out = not_T (bit left j) (λ t. T_not (bit next j) out (subst⁻¹ T (is j) (both (bit left j) _ t (ne→eqb j g ne))))

      still : (j : ℕ) → T (bit next j) → T (bit left j)
      still j t = and_left (bit left j) _ (subst T (is j) t)

      pub wording_skip : get_or named g 0 ≡ 255 → Wording words next
      wording_skip e = record {
        wide = h.wide;
        done = λ j l t out. elim (ℕ_discrete j g) [ yes same ↦ rw same unnamed | no ne ↦ h.done j l t (before j ne out) ];
        rest = λ j t. h.rest j (still j t);
      }
        where
          unnamed : Fits words g
          unnamed k = rw (h.rest g (low.member some), eq-eqb (get_or named g 255) 255 (sym (get_or_default named g 0 255 (omega arith)) ∙ e)) (bit_none k)

      pub wording_take : get_or named g 0 ≢ 255 → Wording (set words g (word_of (get_or first g 0) (get_or second g 0) (get_or third g 0) (get_or fourth g 0))) next
      wording_take ne = record {
        wide = length-set words g _ ∙ h.wide;
        done = λ j l t out. elim (ℕ_discrete j g) [
          | yes same ↦ rw same fits
          | no other ↦ λ k. rw (get_or-set_other words g j word 0 other) (h.done j l t (before j other out) k)
        ];
        rest = λ j t. get_or-set_other words g j word 0 (without_ne (bit left) g j (subst T (is j) t)) ∙ h.rest j (still j t);
      }
        where
          word : ℕ
          word = word_of (get_or first g 0) (get_or second g 0) (get_or third g 0) (get_or fourth g 0)

          fits : Fits (set words g (word_of (get_or first g 0) (get_or second g 0) (get_or third g 0) (get_or fourth g 0))) g
          fits k =
              let wide = h.wide in
              rw (
                get_or-set_same words g (word_of (get_or first g 0) (get_or second g 0) (get_or third g 0) (get_or fourth g 0)) 0 (omega arith),
                ne_eqb (get_or named g 255) 255 (λ e. ne (get_or_default named g 0 255 (omega arith) ∙ e)),
              ) refl
