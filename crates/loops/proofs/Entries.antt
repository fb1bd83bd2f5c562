-- Tables whose entries a loop replaces in rising order.
use Prim.Native.Nat.{ℕ, ◌+◌, ◌≤◌, ◌<◌}
use mathlib.Core.Path.{◌≡◌, refl, ◌∙◌, subst⁻¹}
use mathlib.Core.List.{List}
use native.Mathlib.Omega.{arith}
use native.Mathlib.Decide.{ℕ_discrete}
use lib.ListN.{length, get_or, set, length-set}
use lib.Seq.{get_or-set_same, get_or-set_other}

-- the entries below i are F's, and the others are as they were
pub record Replaced (F : ℕ → ℕ) (before : List ℕ) (i : ℕ) (l : List ℕ) : Type 0 where
  pub long : length l ≡ length before
  pub done : (k : ℕ) → k < i → get_or l k 0 ≡ F k
  pub ahead : (k : ℕ) → i ≤ k → get_or l k 0 ≡ get_or before k 0

module _ (F : ℕ → ℕ) (before : List ℕ) where
  pub replaced_none : Replaced F before 0 before
  replaced_none = record { long = refl; done = λ k l. absurd (omega arith); ahead = λ k l. refl }

  -- F's value at i is stored there
  pub replaced_next : (i v : ℕ) (l : List ℕ) → Replaced F before i l → i < length before → v ≡ F i → Replaced F before (i + 1) (set l i v)
  replaced_next i v l r below here = record {
    long = simp length-set r.long;
    done = λ k b. elim (ℕ_discrete k i) [
      | yes e ↦ subst⁻¹ (λ (x : ℕ). get_or (set l i v) x 0 ≡ F x) e (get_or-set_same l i v 0 (omega (arith, r.long)) ∙ here)
      | no d ↦ get_or-set_other l i k v 0 d ∙ r.done k (omega arith)
    ];
    ahead = λ k b. get_or-set_other l i k v 0 (λ e. absurd (omega arith)) ∙ r.ahead k (omega arith);
  }
