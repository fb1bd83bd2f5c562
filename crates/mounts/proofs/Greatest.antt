-- The loop of `greatest`: the members of A below n have been gone through.
use Prim.Native.Nat.{ℕ, ◌+◌, ◌≤◌, ◌<◌}
use mathlib.Core.Path.{◌≡◌, ap, ◌∙◌, subst, subst⁻¹}
use mathlib.Core.Bool.{not}
use mathlib.Core.Logic.{inl, inr}
use native.Mathlib.Omega.{arith}
use native.Mathlib.Decide.{dec_lt, ℕ_discrete}
use lib.Dec.{T, T_not, not_T, ltb→lt, lt→ltb}
use lib.ListN.{length, replicate, length-replicate}
use Rattle.matroid.specs.Set.{Set, under, with}
use Rattle.matroid.specs.SetLaws.{with_cases, with_new}
use Rattle.sets.specs.Bits.{bit}
use Rattle.sets.proofs.Below.{bit_none}
use Rattle.sets.proofs.Through.{Rests}
use Rattle.mounts.specs.declared.matching.Matching.{Matching}
use Rattle.mounts.specs.Mounts.{Mounted}
use Rattle.mounts.specs.Transversal.{mounted_in}
use Rattle.mounts.specs.Matching.{Matched, Joined, Greatest}
use Rattle.mounts.proofs.Placing.{old_in}
use Rattle.mounts.proofs.Widths.{wider}

-- no instrument has a mount
pub matched_none : (fits : ℕ → Set) (held : Matching) → held.taken ≡ 0 → ((c : ℕ) → bit held.free c ≡ under 32 c) → held.on ≡ replicate 32 0 → Matched fits held
matched_none fits held none free on = record {
  long = ap length on ∙ length-replicate {A = ℕ} 32 0;
  low = λ c t. ltb→lt c 32 (subst T (free c) t);
  user = λ c l used. absurd (T_not (bit held.free c) used (subst⁻¹ T (free c) (lt→ltb c 32 l)));
  mounted = λ g l t. absurd (subst T (ap (λ (w : ℕ). bit w g) none ∙ bit_none g) t);
  single = λ c d l _ used. absurd (T_not (bit held.free c) used (subst⁻¹ T (free c) (lt→ltb c 32 l)));
}

module _ (fits : ℕ → Set) (m : ℕ) (A : Set) where
  -- as many of the members below n as can be are on mounts
  pub record Upto (held : Matching) (n : ℕ) : Type 0 where
    pub matched : Matched fits held
    pub within : (g : ℕ) → T (bit held.taken g) → (g < n) × T (A g)
    pub stuck : (g : ℕ) → g < n → T (A g) → T (not (bit held.taken g)) → Mounted fits m (with (bit held.taken) g) → ⊥

  pub upto_none : (held : Matching) → Matched fits held → held.taken ≡ 0 → Upto held 0
  upto_none held h none = record {
    matched = h;
    within = λ g t. absurd (subst T (ap (λ (w : ℕ). bit w g) none ∙ bit_none g) t);
    stuck = λ g l. absurd (omega arith);
  }

  pub upto_rests : (held : Matching) (g : ℕ) → Rests A g (Upto held)
  upto_rests held g n le none h = record {
    matched = h.matched;
    within = λ k t. let (l, a) = h.within k t in (omega arith, a);
    stuck = λ k l a. elim (dec_lt k n) [ yes before ↦ h.stuck k before a | no d ↦ absurd (T_not (A k) (none k (omega arith) l) a) ];
  }

  -- an instrument that has not been gone through has no mount
  pub upto_out : (held : Matching) (n g : ℕ) → Upto held n → n ≤ g → T (not (bit held.taken g))
  upto_out held n g h le = not_T (bit held.taken g) (λ t. let (l, _) = h.within g t in absurd (omega arith))

  module _ (held r : Matching) (g : ℕ) (h : Upto held g) (joined : Joined fits held g r) (below : g < m) (small : m ≤ 64) (member : T (A g)) where
    -- g has joined
    took : ((j : ℕ) → bit r.taken j ≡ with (bit held.taken) g j) → Upto r (g + 1)
    took is = record {
      matched = joined.matched;
      within = λ k t. elim (with_cases (bit held.taken) g k (subst T (is k) t)) [
        | inl old ↦ (let (l, _) = h.within k old in omega arith, (h.within k old).1)
        | inr e ↦ (omega arith, subst⁻¹ (λ (x : ℕ). T (A x)) e member)
      ];
      stuck = λ k l a out M. elim (ℕ_discrete k g) [
        | yes e ↦ T_not (bit r.taken k) out (subst⁻¹ T (is k) (subst⁻¹ (λ (x : ℕ). T (with (bit held.taken) g x)) e (with_new (bit held.taken) g)))
        | no ne ↦ h.stuck k (omega arith) a (not_T (bit held.taken k) (λ t. T_not (bit r.taken k) out (later k t))) (mounted_in M (λ j l t. (l, more k j t, M.fit j l (more k j t))))
      ];
    }
      where
        later : (j : ℕ) → T (bit held.taken j) → T (bit r.taken j)
        later j t = subst⁻¹ T (is j) (old_in (bit held.taken) g j t)

        more : (k j : ℕ) → T (with (bit held.taken) k j) → T (with (bit r.taken) k j)
        more k j t = elim (with_cases (bit held.taken) k j t) [
          | inl old ↦ old_in (bit r.taken) k j (later j old)
          | inr e ↦ subst⁻¹ (λ (x : ℕ). T (with (bit r.taken) k x)) e (with_new (bit r.taken) k)
        ]

    -- it cannot
    left_out : (Mounted fits 64 (with (bit held.taken) g) → ⊥) → Upto held (g + 1)
    left_out never = record {
      matched = h.matched;
      within = λ k t. let (l, a) = h.within k t in (omega arith, a);
      stuck = λ k l a out M. elim (ℕ_discrete k g) [
        | yes e ↦ never (wider fits m below_m (subst (λ (x : ℕ). Mounted fits m (with (bit held.taken) x)) e M))
        | no ne ↦ h.stuck k (omega arith) a out M
      ];
    }
      where
        below_m : (j : ℕ) → T (with (bit held.taken) g j) → (j < m) × T (with (bit held.taken) g j)
        below_m j t = (elim (with_cases (bit held.taken) g j t) [ inl old ↦ (let (l, _) = h.within j old in omega arith) | inr e ↦ omega arith ], t)

    pub upto_next : Upto r (g + 1)
    upto_next = elim joined.either [ inl is ↦ took is | inr (same, never) ↦ subst⁻¹ (λ (x : Matching). Upto x (g + 1)) same (left_out never) ]

  pub upto_done : (held : Matching) → Upto held m → Greatest fits m A held
  upto_done held h = record { matched = h.matched; within = h.within; stuck = h.stuck }
