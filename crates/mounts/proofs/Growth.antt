-- The loop of `grown`: the matching takes in candidates, least first.
use Prim.Native.Nat.{ℕ, ◌-◌, ◌≤◌, ◌<◌}
use mathlib.Core.Path.{◌≡◌, subst, subst⁻¹}
use mathlib.Core.Bool.{◌&&◌, not}
use mathlib.Core.Logic.{inl, inr}
use lib.Dec.{T, T_not, not_T}
use Rattle.matroid.specs.Set.{Set, under, with, without}
use Rattle.matroid.specs.SetLaws.{with_cases, with_new}
use Rattle.sets.specs.Bits.{bit}
use Rattle.sets.proofs.Growing.{Growing, growing_none, growing_take, growing_skip}
use Rattle.mounts.specs.declared.matching.Matching.{Matching}
use Rattle.mounts.specs.Transversal.{transversal}
use Rattle.mounts.specs.Matching.{Matched, Joined, Greatest}
use Rattle.mounts.proofs.Placing.{old_in, placed_mounted}
use Rattle.mounts.proofs.Widths.{narrower}
use Rattle.mounts.proofs.Joining.{greatest_all}

module _ (fits : ℕ → Set) (m : ℕ) (set from most : ℕ) where
  -- all members below m are on mounts
  abbrev All : (larger : ℕ) → Matching → Type 0
  All larger held = (k : ℕ) → k < m → T (bit larger k) → T (bit held.taken k)

  -- Those on mounts are members; where the first set was independent, all members are on mounts.
  pub record Grows (held : Matching) (larger left room : ℕ) : Type 0 where
    pub matched : Matched fits held
    pub inside : (k : ℕ) → T (bit held.taken k) → T (bit larger k)
    pub growing : Growing (transversal fits m) set from most larger left room (All larger held)

  pub grows_start : (small : m ≤ 64) (held : Matching) (left : ℕ) → Greatest fits m (bit set) held → ((j : ℕ) → bit left j ≡ ((bit from j && under m j) && not (bit set j))) → Grows held set left most
  unfolding transversal
  grows_start small held left h is =
      let start = growing_none (transversal fits m) set from most left (Unit {0}) is tt in
      record {
        matched = h.matched;
        inside = λ k t. (h.within k t).1;
        growing = record { old = start.old; new = start.new; ahead = start.ahead; few = start.few; indep = λ i. (i, greatest_all fits m small (bit set) held h i) };
      }

  module _ (held : Matching) (larger left room : ℕ) (h : Grows held larger left room) (g : ℕ) (there : T (bit left g)) where
    -- a candidate has no mount yet
    pub grows_out : T (not (bit held.taken g))
    grows_out = not_T (bit held.taken g) (λ t. let (_, _, out) = h.growing.ahead g there in T_not (bit larger g) out (h.inside g t))

    module _ (r : Matching) (joined : Joined fits held g r) (next : ℕ) (is-next : (j : ℕ) → bit next j ≡ without (bit left) g j) where
      -- g has a mount: it has joined
      pub grows_take : (small : m ≤ 64) → T (bit r.taken g) → (more : ℕ) → ((j : ℕ) → bit more j ≡ with (bit larger) g j) → 0 < room → Grows r more next (room - 1)
      unfolding transversal
      grows_take small on more is some = elim joined.either [
        | inr (same, _) ↦ absurd (T_not (bit held.taken g) grows_out (subst (λ (x : Matching). T (bit x.taken g)) same on))
        | inl taken ↦ record {
          matched = joined.matched;
          inside = λ k t. subst⁻¹ T (is k) (elim (with_cases (bit held.taken) g k (subst T (taken k) t)) [
            | inl old ↦ old_in (bit larger) g k (h.inside k old)
            | inr e ↦ subst⁻¹ (λ (x : ℕ). T (with (bit larger) g x)) e (with_new (bit larger) g)
          ]);
          growing = growing_take (transversal fits m) set from most larger left room (All larger held) h.growing g next is-next there more is some (All more r) (λ i all.
              let now : (k : ℕ) → k < m → T (with (bit larger) g k) → T (bit r.taken k) = λ k l t. subst⁻¹ T (taken k) (elim (with_cases (bit larger) g k t) [
                | inl old ↦ old_in (bit held.taken) g k (all k l old)
                | inr e ↦ subst⁻¹ (λ (x : ℕ). T (with (bit held.taken) g x)) e (with_new (bit held.taken) g)
              ]) in
              (narrower fits m small (record { at = now }) (placed_mounted fits _ _ _ joined.matched), λ k l t. now k l (subst T (is k) t)));
        }
      ]

      -- g has none: the matching is as it was
      pub grows_skip : T (not (bit r.taken g)) → Grows r larger next room
      grows_skip off = elim joined.either [
        | inl taken ↦ absurd (T_not (bit r.taken g) off (subst⁻¹ T (taken g) (with_new (bit held.taken) g)))
        | inr (same, _) ↦ subst⁻¹ (λ (x : Matching). Grows x larger next room) same (record {
          matched = h.matched;
          inside = h.inside;
          growing = growing_skip (transversal fits m) set from most larger left room (All larger held) h.growing g next is-next;
        })
      ]
