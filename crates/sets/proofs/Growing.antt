-- The loops of `grown`: an independent set takes in members of another, least first.
use Prim.Native.Nat.{ℕ, ◌+◌, ◌-◌, ◌≤◌, ◌<◌}
use mathlib.Core.Path.{◌≡◌, ap, subst, subst⁻¹, fun_ext}
use mathlib.Core.Bool.{Bool, ◌&&◌, ◌||◌, not}
use mathlib.Core.Logic.{◌⊎◌, inl, inr}
use native.Mathlib.Omega.{arith}
use lib.Dec.{T, eqb, eqb→eq, ltb→lt}
use Rattle.matroid.specs.Taut.{both, and_left, and_right, or_cases, follows₂}
use Rattle.matroid.specs.Set.{under, with, without, size}
use Rattle.matroid.specs.SetLaws.{size_with}
use Rattle.matroid.specs.Matroid.{Matroid}
use Rattle.sets.specs.Bits.{bit}
use Rattle.sets.specs.Joining.{Grown}

-- a set is itself, with nothing added
pub grown_same : {m : ℕ} (M : Matroid m) (set from most : ℕ) → Grown M set from most set
grown_same M set from most = record { indep = λ i. i; old = λ j t. t; new = λ j t. inl t; few = omega arith }

-- The set so far, what is left of the other, and how many may still join; where the first set was independent, so is this one, and Q holds.
pub record Growing {m : ℕ} (M : Matroid m) (set from most larger left room : ℕ) (Q : Type 0) : Type 0 where
  pub old : (j : ℕ) → T (bit set j) → T (bit larger j)
  pub new : (j : ℕ) → T (bit larger j) → T (bit set j) ⊎ T (bit from j)
  pub ahead : (j : ℕ) → T (bit left j) → (j < m) × T (bit from j) × T (not (bit larger j))
  pub few : size m (bit larger) + room ≤ size m (bit set) + most
  pub indep : M.Indep (bit set) → M.Indep (bit larger) × Q

pub growing_none : {m : ℕ} (M : Matroid m) (set from most left : ℕ) (Q : Type 0) → ((j : ℕ) → bit left j ≡ ((bit from j && under m j) && not (bit set j)))
    → Q → Growing M set from most set left most Q
growing_none {m} M set from most left Q is q = record {
  old = λ j t. t;
  new = λ j t. inl t;
  ahead = λ j t.
      let u = subst T (is j) t in
      let v = and_left (bit from j && under m j) _ u in
      (ltb→lt j m (and_right (bit from j) _ v), and_left (bit from j) _ v, and_right (bit from j && under m j) _ u);
  few = omega arith;
  indep = λ i. (i, q);
}

module _ {m : ℕ} (M : Matroid m) (set from most larger left room : ℕ) (Q : Type 0) (h : Growing M set from most larger left room Q) where
  pub growing_done : Grown M set from most larger
  growing_done = record { indep = λ i. (h.indep i).0; old = h.old; new = h.new; few = let l = h.few in omega arith }

  module _ (g next : ℕ) (is-next : (j : ℕ) → bit next j ≡ without (bit left) g j) where
    -- g is passed over
    pub growing_skip : Growing M set from most larger next room Q
    growing_skip = record { old = h.old; new = h.new; ahead = λ j t. h.ahead j (and_left (bit left j) _ (subst T (is-next j) t)); few = h.few; indep = h.indep }

    -- g joins
    pub growing_take : T (bit left g) → (more : ℕ) → ((j : ℕ) → bit more j ≡ with (bit larger) g j) → 0 < room → (Q' : Type 0)
        → (M.Indep (bit larger) → Q → M.Indep (with (bit larger) g) × Q') → Growing M set from most more next (room - 1) Q'
    growing_take there more is some Q' step = record {
      old = λ j t. subst⁻¹ T (is j) (follows₂ (λ a b. a) (λ a b. a || b) tt (bit larger j) (eqb j g) (h.old j t));
      new = λ j t. elim (or_cases (bit larger j) (eqb j g) (subst T (is j) t)) [
        | inl before ↦ h.new j before
        | inr e ↦ inr (subst⁻¹ (λ (k : ℕ). T (bit from k)) (eqb→eq j g e) (h.ahead g there).1)
      ];
      ahead = λ j t.
          let u = subst T (is-next j) t in
          let (l, f, out) = h.ahead j (and_left (bit left j) _ u) in
          (l, f, subst⁻¹ (λ (b : Bool). T (not b)) (is j) (follows₂ (λ a b. not a && not b) (λ a b. not (a || b)) tt (bit larger j) (eqb j g) (both (not (bit larger j)) _ out (and_right (bit left j) _ u))));
      few =
          let (l, _, out) = h.ahead g there in
          let grows = size_with m (bit larger) g l out in
          let same = ap (size m) (fun_ext is) in
          let before = h.few in
          omega arith;
      indep = λ i.
          let (j, q) = h.indep i in
          let (next-indep, q') = step j q in
          (subst⁻¹ M.Indep (fun_ext is) next-indep, q');
    }
