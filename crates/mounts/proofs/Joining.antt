-- What may join an independent set of MOUNTS, and what a set is worth.
use Prim.Native.Nat.{ℕ, suc, ◌≤◌, ◌<◌}
use mathlib.Core.Path.{◌≡◌, subst, subst⁻¹}
use mathlib.Core.Bool.{Bool, not}
use mathlib.Core.Logic.{inl, inr}
use native.Mathlib.Omega.{arith}
use native.Mathlib.Nat.{le_refl}
use native.Mathlib.Decide.{dec_lt}
use lib.Dec.{T, T_not, not_T}
use lib.ListN.{get_or}
use Rattle.matroid.specs.Taut.{decide_T, both, and_left, and_right}
use Rattle.matroid.specs.Set.{Set, ◌∖◌, with, size}
use Rattle.matroid.specs.SetLaws.{with_cases, with_new}
use Rattle.matroid.specs.Matroid.{worth}
use Rattle.matroid.proofs.Rank.{maximal_is_worth}
use Rattle.sets.specs.Bits.{bit}
use Rattle.sets.specs.Chosen.{Chosen}
use Rattle.sets.specs.Joining.{MayJoin}
use Rattle.mounts.specs.declared.matching.Matching.{Matching}
use Rattle.mounts.specs.declared.matching.Freed.{Freed}
use Rattle.mounts.specs.Mounts.{Mounted}
use Rattle.mounts.specs.Transversal.{mounted_in, transversal}
use Rattle.mounts.proofs.Widths.{narrower, wider}
use Rattle.mounts.specs.Matching.{Meets, Leads, Closed, Greatest}
use Rattle.mounts.proofs.Placing.{old_in, placed_mounted}
use Rattle.mounts.proofs.Reaching.{blocked, moving_start, reachable}

module _ (fits : ℕ → Set) (m : ℕ) (small : m ≤ 64) where
  module _ (A : Set) (held : Matching) (h : Greatest fits m A held) where
    -- a largest part that can be mounted has as many members as A is worth
    pub greatest_worth : size m (bit held.taken) ≡ worth (transversal fits m) A
    unfolding transversal
    greatest_worth = maximal_is_worth (transversal fits m) (record {
      within = record { at = λ g l t. (h.within g t).1 };
      indep = narrower fits m {B = bit held.taken} small (record { at = λ g l t. t }) (placed_mounted fits _ _ _ h.matched);
      stuck = h.stuck;
    })

    -- and it is all of an independent A
    pub greatest_all : Mounted fits m A → (g : ℕ) → g < m → T (A g) → T (bit held.taken g)
    greatest_all M g l a = elim (decide_T (bit held.taken g)) [
      | inl t ↦ t
      | inr out ↦ absurd (h.stuck g l a out (mounted_in M (λ k l' t. (l', into k t, M.fit k l' (into k t)))))
    ]
      where
        into : (k : ℕ) → T (with (bit held.taken) g k) → T (A k)
        into k t = elim (with_cases (bit held.taken) g k t) [ inl old ↦ (h.within k old).1 | inr e ↦ subst⁻¹ (λ (x : ℕ). T (A x)) e a ]

-- The instruments below g that fit a mount that can be freed.
pub record Near (fits : ℕ → Set) (s : Freed) (g joins : ℕ) : Type 0 where
  pub below : (j : ℕ) → T (bit joins j) → j < g
  pub some : (j : ℕ) → T (bit joins j) → (c : ℕ) × (T (bit s.set c) × T (fits j c))
  pub none : (j : ℕ) → j < g → T (not (bit joins j)) → (c : ℕ) → T (bit s.set c) → T (not (fits j c))

-- as a test picks them
pub near_chosen : (fits : ℕ → Set) (s : Freed) (m joins : ℕ) (answers : ℕ → Bool → Type 0) → Chosen m answers joins
    → ((g : ℕ) (b : Bool) → g < m → answers g b → Meets b (fits g) (bit s.set)) → Near fits s m joins
near_chosen fits s m joins answers h meets = record {
  below = below;
  some = λ j t. let l = below j t in (meets j (bit joins j) l (h.at j l)).some t;
  none = λ j l out. (meets j (bit joins j) l (h.at j l)).none out;
}
  where
    below : (j : ℕ) → T (bit joins j) → j < m
    below j t = elim (dec_lt j m) [ yes l ↦ l | no d ↦ absurd (T_not (bit joins j) (h.rest j (omega arith)) t) ]

module _ (fits : ℕ → Set) (m : ℕ) (small : m ≤ 64) (A : Set) (held : Matching) (s : Freed) (h : Greatest fits m A held) (leads : Leads fits held s) (closed : Closed fits held s) where
  -- an instrument that fits a mount that can be freed may join, and no other
  pub mounts_gains : (joins r : ℕ) → Near fits s m joins → ((j : ℕ) → bit r j ≡ (bit joins ∖ A) j) → (transversal fits m).Indep A → MayJoin (transversal fits m) A r
  unfolding transversal
  mounts_gains joins r near is M = record {
    at = λ j. (
      λ t.
          let u = subst T (is j) t in
          let there = and_left (bit joins j) _ u in
          let l = near.below j there in
          (l, (and_right (bit joins j) _ u, joins_all j l (fresh j l (and_right (bit joins j) _ u)) (near.some j there))),
      λ (l, (out, more)). subst⁻¹ T (is j) (both (bit joins j) _ (must j l out more) out),
    );
  }
    where
      fresh : (j : ℕ) → j < m → T (not (A j)) → T (not (bit held.taken j))
      fresh j l out = not_T (bit held.taken j) (λ t. T_not (A j) out (h.within j t).1)

      all_taken : (j k : ℕ) → k < m → T (with A j k) → T (with (bit held.taken) j k)
      all_taken j k l t = elim (with_cases A j k t) [
        | inl a ↦ old_in (bit held.taken) j k (greatest_all fits m small A held h M k l a)
        | inr e ↦ subst⁻¹ (λ (x : ℕ). T (with (bit held.taken) j x)) e (with_new (bit held.taken) j)
      ]

      joins_all : (j : ℕ) → j < m → T (not (bit held.taken j)) → (c : ℕ) × (T (bit s.set c) × T (fits j c)) → Mounted fits m (with A j)
      joins_all j l out (c, (there, fit)) =
          narrower fits m small (record { at = all_taken j })
          (reachable (suc (get_or s.depth c 0)) fits held s leads _ _ _ _ (moving_start fits held s (bit held.taken) j c h.matched (omega arith) out there fit) (le_refl (suc (get_or s.depth c 0))))

      into : (j : ℕ) → j < m → (k : ℕ) → T (with (bit held.taken) j k) → (k < m) × T (with A j k)
      into j l k t = elim (with_cases (bit held.taken) j k t) [
        | inl old ↦ ((h.within k old).0, old_in A j k (h.within k old).1)
        | inr e ↦ (omega arith, subst⁻¹ (λ (x : ℕ). T (with A j x)) e (with_new A j))
      ]

      must : (j : ℕ) → j < m → T (not (A j)) → Mounted fits m (with A j) → T (bit joins j)
      must j l out more = elim (decide_T (bit joins j)) [
        | inl t ↦ t
        | inr never ↦ absurd (blocked fits held s h.matched leads closed j (omega arith) (fresh j l out) (near.none j l never) (wider fits m (into j l) more))
      ]
