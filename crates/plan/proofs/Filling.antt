-- A table whose first entries a function gives: how a loop fills it, and what it is where the function is known.
use Prim.Native.Nat.{ℕ, ◌+◌, ◌-◌, ◌≤◌, ◌<◌}
use mathlib.Core.Path.{◌≡◌, sym, ap, ◌∙◌, subst, subst⁻¹}
use mathlib.Core.Bool.{cond}
use mathlib.Core.List.{List, [], ◌∷◌, ◌++◌}
use native.Mathlib.Omega.{arith}
use native.Mathlib.Decide.{ℕ_discrete}
use lib.Dec.{ltb}
use lib.ListN.{length, get_or, set, take, drop, replicate, length-set, length-append, length-replicate, get_or-append, get_or-replicate}
use lib.Seq.{get_or-set_same, get_or-set_other, get_or-append-add}
use Rattle.std.proofs.lemmas.List.{take-replicate, drop-replicate}
use Rattle.matroid.specs.Cuts.{each}
use Rattle.sets.proofs.Each.{Tabled, tabled_all}
use Rattle.plan.specs.Entries.{Entries}

module _ {X : Type 0} (w : ℕ) (none : X) (gives : ℕ → X → Type 0) where
  pub filled_none : Entries w 0 none gives (replicate w none)
  filled_none = record {
    long = length-replicate w none;
    given = λ i d l. absurd (omega arith);
    rest = λ i d _ l. get_or-replicate {A = X} w i none d l;
  }

  module _ (k : ℕ) (row : List X) (h : Entries w k none gives row) where
    pub filled_next : k < w → (x : X) → gives k x → Entries w (k + 1) none gives (set row k x)
    filled_next room x is = record {
      long = length-set row k x ∙ h.long;
      given = λ i d l. elim (ℕ_discrete i k) [
        | yes e ↦ let wide = h.long in rw e (subst (gives k) (sym (get_or-set_same row k x d (omega arith))) is)
        | no o ↦ subst (gives i) (sym (get_or-set_other row k i x d o)) (h.given i d (omega arith))
      ];
      rest = λ i d low high. get_or-set_other row k i x d (omega arith) ∙ h.rest i d (omega arith) high;
    }

    -- by what the function gives
    pub filled_all : (f : ℕ → X) → ((i : ℕ) (x : X) → i < k → gives i x → x ≡ f i) → (d : X) → none ≡ d → (g : ℕ → X) → ((i : ℕ) → i < w → g i ≡ cond (ltb i k) (f i) d) → row ≡ each w (λ i. g i ∷ [])
    filled_all f is d same g all = tabled_all w f d k row filled g all
      where
        filled : Tabled w f d k row
        filled = record {
          long = h.long;
          done = λ i l. is i (get_or row i d) l (h.given i d l);
          rest = λ i low high. h.rest i d low high ∙ same;
        }

-- The first n entries of a table of w, lent and put back.
module _ {X : Type 0} (w n : ℕ) (few : n ≤ w) (none : X) (gives : ℕ → X → Type 0) where
  pub front_none : Entries n 0 none gives (take n (replicate w none))
  front_none = subst⁻¹ (Entries n 0 none gives) (take-replicate n w none few) (filled_none n none gives)

  pub front_put : (row : List X) → Entries n n none gives row → Entries w n none gives (row ++ drop n (replicate w none))
  front_put row h = rw (drop-replicate n w none) record {
    long = let wide = h.long in length-append row (replicate (w - n) none) ∙ (rw (length-replicate (w - n) none) (omega arith));
    given = λ i d l. subst⁻¹ (gives i) (get_or-append row (replicate (w - n) none) d i (let wide = h.long in omega arith)) (h.given i d l);
    rest = λ i d low high. let wide = h.long in
        let e : i ≡ length row + (i - n) = omega arith in
        ap (λ (k : ℕ). get_or (row ++ replicate (w - n) none) k d) e ∙ get_or-append-add row (replicate (w - n) none) (i - n) d
        ∙ get_or-replicate {A = X} (w - n) (i - n) none d (omega arith);
  }
