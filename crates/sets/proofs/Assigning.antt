-- The loop of `assign`.
use Prim.Native.Nat.{ℕ, ◌≤◌, ◌<◌}
use mathlib.Core.Path.{◌≡◌, refl, ap, ◌∙◌, subst, subst⁻¹}
use mathlib.Core.Bool.{not}
use mathlib.Core.List.{List}
use native.Mathlib.Omega.{arith}
use native.Mathlib.Decide.{ℕ_discrete}
use lib.Dec.{T, T_not, not_T}
use lib.ListN.{length, get_or, set, length-set}
use lib.Seq.{get_or-set_same, get_or-set_other}
use Rattle.matroid.specs.Taut.{both, and_left}
use Rattle.matroid.specs.Set.{without}
use Rattle.matroid.specs.SetLaws.{ne→eqb}
use Rattle.sets.specs.Bits.{bit}
use Rattle.sets.specs.Lowest.{Lowest}
use Rattle.sets.specs.Assigned.{Assigned}

-- The table so far: the members that are left are still to come.
pub record Assigning (table : List ℕ) (s value left : ℕ) (r : List ℕ) : Type 0 where
  pub long : length r ≡ length table
  pub ahead : (k : ℕ) → T (bit left k) → T (bit s k)
  pub new : (k d : ℕ) → k < 64 → T (bit s k) → T (not (bit left k)) → get_or r k d ≡ value
  pub old : (k d : ℕ) → T (not (bit s k)) → get_or r k d ≡ get_or table k d

pub assigning_none : (table : List ℕ) (s value : ℕ) → Assigning table s value s table
assigning_none table s value = record {
  long = refl;
  ahead = λ k t. t;
  new = λ k d l t out. absurd (T_not (bit s k) out t);
  old = λ k d out. refl;
}

module _ (table : List ℕ) (s value left g : ℕ) (r : List ℕ) (h : Assigning table s value left r) (low : Lowest left g) where
  pub assigning_done : 64 ≤ g → Assigned table s value r
  assigning_done full = record { long = h.long; new = λ k d l t. h.new k d l t (low.least k (omega arith)); old = h.old }

  pub assigning_next : length table ≡ 64 → g < 64 → (next : ℕ) → ((k : ℕ) → bit next k ≡ without (bit left) g k) → Assigning table s value next (set r g value)
  assigning_next wide l next is = record {
    long = length-set r g value ∙ h.long;
    ahead = λ k t. h.ahead k (and_left (bit left k) _ (subst T (is k) t));
    new = λ k d b t out. go k d b t out (ℕ_discrete k g);
    old = λ k d out. get_or-set_other r g k value d (λ same. T_not (bit s k) out (h.ahead k (subst⁻¹ T (ap (bit left) same) (low.member l)))) ∙ h.old k d out;
  }
    where
      within : g < length r
      within = let long = h.long in omega arith

      go : (k d : ℕ) → k < 64 → T (bit s k) → T (not (bit next k)) → Dec (k ≡ g) → get_or (set r g value) k d ≡ value
      go k d b t out (yes same) = rw same (get_or-set_same r g value d within)
      go k d b t out (no other) =
          let gone = not_T (bit left k) (λ u. T_not (bit next k) out (subst⁻¹ T (is k) (both (bit left k) _ u (ne→eqb k g other)))) in
          get_or-set_other r g k value d other ∙ h.new k d b t gone
