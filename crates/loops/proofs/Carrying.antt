-- The loop of `carried`: the forest so far, what is left of the set, and how many may still join.
use Prim.Native.Nat.{ℕ, ◌+◌, ◌-◌, ◌≤◌, ◌<◌}
use mathlib.Core.Path.{◌≡◌, ap, subst, subst⁻¹, fun_ext}
use mathlib.Core.Bool.{true, false, not, ◌&&◌}
use mathlib.Core.Logic.{◌⊎◌, inl, inr}
use native.Mathlib.Omega.{arith}
use native.Mathlib.Decide.{ℕ_discrete}
use lib.Dec.{T, lt→ltb, T_not}
use Rattle.matroid.specs.Taut.{both, and_left, decide_T}
use Rattle.matroid.specs.Set.{under, with, without, size}
use Rattle.matroid.specs.SetLaws.{ne→eqb, size_within, size_without}
use Rattle.sets.specs.Bits.{bit}
use Rattle.sets.specs.Lowest.{Lowest}
use Rattle.sets.proofs.Growing.{Growing, growing_none, growing_done, growing_take, growing_skip}
use Rattle.loops.specs.Net.{Net, LoopFree}
use Rattle.loops.specs.Groups.{joined, apart}
use Rattle.loops.specs.Graphic.{graphic}
use Rattle.loops.specs.Forests.{groups_of, Forest, Holds, Carried, CarriedOn}
use Rattle.loops.proofs.Accepting.{carried_free, carried_never, carried_accept, apart_still, apart_never}

pub record Carrying (N : Net) (m : ℕ) (last : Forest) (from most left room : ℕ) (forest : Forest) : Type 0 where
  pub growing : Growing (graphic N m) last.gauges from most forest.gauges left room (Carried N m forest)
  -- a gauge of the set is still to come, or it joins no two groups
  pub passed : (g : ℕ) → g < m → T (bit from g) → T (bit left g) ⊎ (T (apart (groups_of forest.groups) (N.end_a g) (N.end_b g)) → ⊥)
  -- with room for all there is room for what is left
  pub spare : size m (bit from) ≤ most → size m (bit left) ≤ room

module _ (N : Net) (m : ℕ) (last : Forest) (from most : ℕ) (c : Carried N m last) where
  open N use {end_a, end_b}

  independent : (graphic N m).Indep (bit last.gauges)
  unfolding graphic
  independent = carried_free N m last c

  -- at first all of the set is left
  pub carrying_none : (left : ℕ) → ((j : ℕ) → bit left j ≡ ((bit from j && under m j) && not (bit last.gauges j))) → Carrying N m last from most left most last
  carrying_none left is = record {
    growing = growing_none (graphic N m) last.gauges from most left (Carried N m last) is c;
    passed = λ g l t. elim (decide_T (bit last.gauges g)) [
      | inl held ↦ inr (carried_never N m last c g l held)
      | inr out ↦ inl (subst⁻¹ T (is g) (both (bit from g && under m g) _ (both (bit from g) _ t (lt→ltb g m l)) out))
    ];
    spare = λ enough.
        let fewer = size_within m {A = bit left} {B = bit from} (record { at = λ j l t. and_left (bit from j) _ (and_left (bit from j && under m j) _ (subst T (is j) t)) }) in
        omega arith;
  }

  module _ (left room : ℕ) (forest : Forest) (h : Carrying N m last from most left room forest) (g : ℕ) (low : Lowest left g) where
    so_far : Carried N m forest
    so_far = (h.growing.indep independent).1

    -- nothing is left
    pub carrying_done : m ≤ 64 → 64 ≤ g → CarriedOn N m last from most forest
    carrying_done small full = record {
      grown = growing_done (graphic N m) _ _ _ _ _ _ _ h.growing;
      forest = so_far;
      all = λ enough j l t. elim (h.passed j l t) [ inl more ↦ absurd (T_not (bit left j) (low.least j (omega arith)) more) | inr never ↦ never ];
    }

    module _ (some : g < 64) where
      there : T (bit left g)
      there = low.member some

      below : g < m
      below = (h.growing.ahead g there).0

      -- there is no room left
      pub carrying_full : room ≡ 0 → CarriedOn N m last from most forest
      carrying_full none = record {
        grown = growing_done (graphic N m) _ _ _ _ _ _ _ h.growing;
        forest = so_far;
        all = λ enough j l t.
            let few = h.spare enough in
            let one_left = size_without m (bit left) g below there in
            absurd (omega arith);
      }

      module _ (next : ℕ) (is : (j : ℕ) → bit next j ≡ without (bit left) g j) where
        -- what is left but g is left still
        rest : (j : ℕ) → T (bit left j) → (j ≡ g → ⊥) → T (bit next j)
        rest j t other = subst⁻¹ T (is j) (both (bit left j) _ t (ne→eqb j g other))

        fewer : size m (bit next) + 1 ≡ size m (bit left)
        fewer = let one_left = size_without m (bit left) g below there in let same = ap (size m) (fun_ext is) in omega arith

        module _ (a b : ℕ) (is-a : a ≡ end_a g) (is_b : b ≡ end_b g) where
          -- g joins no two groups
          pub carrying_skip : apart (groups_of forest.groups) a b ≡ false → Carrying N m last from most next room forest
          carrying_skip test = record {
            growing = growing_skip (graphic N m) _ _ _ _ _ _ _ h.growing g next is;
            passed = λ j l t. elim (ℕ_discrete j g) [
              | yes e ↦ inr (λ u. subst T (rw (is-a, is_b) at test) (rw e at u))
              | no other ↦ elim (h.passed j l t) [ inl more ↦ inl (rest j more other) | inr never ↦ inr never ]
            ];
            spare = λ enough. let s = h.spare enough in let f = fewer in omega arith;
          }

          -- g is accepted
          pub carrying_take : apart (groups_of forest.groups) a b ≡ true → 0 < room → (after : Forest)
              → ((j : ℕ) → bit after.gauges j ≡ with (bit forest.gauges) g j) → Holds after.groups (joined (groups_of forest.groups) a b)
              → Carrying N m last from most next (room - 1) after
          unfolding graphic
          carrying_take test some-room after more held =
              let holds = rw (is-a, is_b) at held in
              let accepted = carried_accept N m forest so_far g below (subst⁻¹ T (rw (is-a, is_b) at test) tt) after more holds in
              record {
                growing = growing_take (graphic N m) _ _ _ _ _ _ _ h.growing g next is there after.gauges more some-room (Carried N m after) (λ i q. (free accepted, accepted));
                passed = λ j l t. elim (ℕ_discrete j g) [
                  | yes e ↦ inr (λ u. apart_never forest.groups after.groups (end_a g) (end_b g) holds (rw e at u))
                  | no other ↦ elim (h.passed j l t) [
                    | inl left-still ↦ inl (rest j left-still other)
                    | inr never ↦ inr (λ u. never (apart_still forest.groups after.groups (end_a g) (end_b g) holds (end_a j) (end_b j) u))
                  ]
                ];
                spare = λ enough. let s = h.spare enough in let f = fewer in omega arith;
              }
            where
              free : Carried N m after → (graphic N m).Indep (with (bit forest.gauges) g)
              free q = subst (LoopFree N m) (fun_ext more) (carried_free N m after q)
