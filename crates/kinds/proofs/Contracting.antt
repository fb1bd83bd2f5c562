-- A matroid contracted by G and restricted to K: what a set is worth, what may join, and what is grown.
use Prim.Native.Nat.{ℕ, ◌+◌, ◌≤◌, ◌<◌}
use mathlib.Core.Path.{◌≡◌, sym, ap, ◌∙◌, subst, subst⁻¹, fun_ext}
use mathlib.Core.Bool.{Bool, true, false, ◌&&◌, ◌||◌, not}
use mathlib.Core.Logic.{◌⊎◌, inl, inr, ◌↔◌}
use native.Mathlib.Omega.{arith}
use lib.Dec.{T, eqb, T_not}
use borrow.Author.Tests.{eqb-true, eqb-false}
use Rattle.matroid.specs.Taut.{decide_T, both, and_left, and_right, or_cases, follows₂}
use Rattle.matroid.specs.Set.{Set, none, ◌∪◌, ◌∩◌, ◌∖◌, complement, only, with, size, Within}
use Rattle.matroid.specs.SetLaws.{within₃, within_refl, inter_right, inter_most, with_least, with_new, size_with, size_within, size_split, size_same}
use Rattle.matroid.specs.Matroid.{Matroid, worth}
use Rattle.matroid.specs.Build.{restrict, contracted, contract_where}
use Rattle.matroid.proofs.Rank.{worth_indep, indep_worth}
use Rattle.matroid.proofs.Building.{worth_restrict, contracted_yes, contracted_no, contracted_indep}
use Rattle.sets.specs.Bits.{bit}
use Rattle.sets.proofs.Below.{bit_none}
use Rattle.sets.specs.Joining.{MayJoin, Grown}
use Rattle.kinds.proofs.Truncating.{joins_none}

-- ---- whether the glued set is independent

-- the empty word's set is independent
pub stands_empty : {m : ℕ} (M : Matroid m) (G : ℕ) → G ≡ 0 → M.Indep (bit G)
stands_empty {m} M G e = M.part {B = none} (record { at = λ j l t. subst T (ap (λ (g : ℕ). bit g j) e ∙ bit_none j) t }) M.empty

-- by its worth
pub stands_yes : {m : ℕ} (M : Matroid m) (G : Set) (w used : ℕ) → w ≡ worth M G → used ≡ size m G → eqb w used ≡ true → M.Indep G
stands_yes M G w used ew eu t = indep_worth M G (sym ew ∙ eqb-true w used t ∙ eu)

pub stands_no : {m : ℕ} (M : Matroid m) (G : Set) (w used : ℕ) → w ≡ worth M G → used ≡ size m G → eqb w used ≡ false → M.Indep G → ⊥
stands_no M G w used ew eu t i = eqb-false w used t (ew ∙ worth_indep M G i ∙ sym eu)

module _ {m : ℕ} (M : Matroid m) (G K : Set) where
  abbrev N : Matroid m
  N = restrict (contracted M G) K

  -- ---- where G is not independent

  pub worth_nothing : (S : Set) → (M.Indep G → ⊥) → worth N S ≡ 0
  worth_nothing S d = worth_restrict (contracted M G) K S ∙ contracted_no M G d (S ∩ K)

  -- only a set without members is independent
  empty_only : (M.Indep G → ⊥) → (A : Set) → N.Indep A → size m A ≤ 0
  empty_only d A i = go (M.decide G) i.0
    where
      go : (e : Dec (M.Indep G)) → (contract_where M G e).Indep A → size m A ≤ 0
      go (yes g) j = absurd (d g)
      go (no _) j = j

  pub joins_nothing : (A : Set) → (M.Indep G → ⊥) → MayJoin N A 0
  joins_nothing A d = joins_none N A (λ j l out i. let none = empty_only d (with A j) i in let more = size_with m A j l out in omega arith)

  -- ---- where it is

  module _ (g : M.Indep G) where
    -- what a set is worth beside G, less G
    pub worth_above : (S whole : Set) (w used : ℕ) → ((j : ℕ) → whole j ≡ ((S ∩ K) ∪ G) j) → w ≡ worth M whole → used ≡ size m G → worth N S + used ≡ w
    worth_above S whole w used is ew eu =
        let r = worth_restrict (contracted M G) K S in
        let c = contracted_yes M G g (S ∩ K) in
        let e = ap (worth M) (fun_ext is) in
        omega arith

    -- independent: of K, nothing of G, and independent beside G
    pub indep_above : (A : Set) → N.Indep A ↔ (Within m A K × Within m A (complement G) × M.Indep (A ∪ G))
    indep_above A =
        let c = contracted_indep M G g A in (
          λ (i, k). let (o, j) = c.0 i in (k, o, j),
          λ (k, o, j). (c.1 (o, j), k),
        )

    -- one more of K, beside A and G
    pub with_above : (A : Set) (j : ℕ) → j < m → N.Indep A → (T (not (A j)) × N.Indep (with A j)) ↔ ((T (not ((A ∪ G) j)) × M.Indep (with (A ∪ G) j)) × T (K j))
    with_above A j l i =
        let (k, o, _) = (indep_above A).0 i in (
          λ (out, w).
              let (wk, wo, wi) = (indep_above (with A j)).0 w in
              let new = wo.at j l (with_new A j) in (
                (follows₂ (λ a g. not a && not g) (λ a g. not (a || g)) tt (A j) (G j) (both (not (A j)) _ out new), M.part (within₃ (λ a g e. (a || g) || e) (λ a g e. (a || e) || g) tt A G (only j)) wi),
                wk.at j l (with_new A j),
              ),
          λ ((out, w), u). (
            follows₂ (λ a g. not (a || g)) (λ a g. not a) tt (A j) (G j) out,
            (indep_above (with A j)).1 (
              with_least j k u,
              with_least j o (follows₂ (λ a g. not (a || g)) (λ a g. not g) tt (A j) (G j) out),
              M.part (within₃ (λ a g e. (a || e) || g) (λ a g e. (a || g) || e) tt A G (only j)) w,
            ),
          ),
        )

    pub joins_above : (A whole : Set) (free r : ℕ) → ((j : ℕ) → whole j ≡ (A ∪ G) j) → (M.Indep whole → MayJoin M whole free) → ((j : ℕ) → bit r j ≡ (bit free ∩ K) j)
        → N.Indep A → MayJoin N A r
    joins_above A whole free r is joins is-r i =
        let same = fun_ext is in
        let (_, _, beside) = (indep_above A).0 i in
        let f : MayJoin M (A ∪ G) free = subst (λ (B : Set). MayJoin M B free) same (joins (subst⁻¹ M.Indep same beside)) in
        record {
          at = λ j. (
            λ t.
                let u = subst T (is-r j) t in
                let (l, fits) = (f.at j).0 (and_left (bit free j) _ u) in
                (l, (with_above A j l i).1 (fits, and_right (bit free j) _ u)),
            λ (l, w).
                let (fits, k) = (with_above A j l i).0 w in
                subst⁻¹ T (is-r j) (both (bit free j) _ ((f.at j).1 (l, fits)) k),
          );
        }

    -- grown beside G
    module _ (set from most whole offered larger r : ℕ) (is_whole : (j : ℕ) → bit whole j ≡ (bit set ∪ G) j) (is-offered : (j : ℕ) → bit offered j ≡ (bit from ∩ K) j)
        (grown : Grown M whole offered most larger) (is-r : (j : ℕ) → bit r j ≡ (bit set ∪ (bit larger ∖ G)) j) where
      -- a member of the result is of the set, or new, and then it is offered
      parted : (j : ℕ) → T (bit r j) → T (bit set j) ⊎ (T (bit larger j) × T (not (G j)) × T (bit from j) × T (K j))
      parted j t = go (decide_T (bit set j)) (or_cases (bit set j) _ (subst T (is-r j) t))
        where
          go : T (bit set j) ⊎ T (not (bit set j)) → T (bit set j) ⊎ T (bit larger j && not (G j)) → T (bit set j) ⊎ (T (bit larger j) × T (not (G j)) × T (bit from j) × T (K j))
          go (inl a) x = inl a
          go (inr out) (inl a) = inl a
          go (inr out) (inr n) =
              let there = and_left (bit larger j) _ n in
              let free = and_right (bit larger j) _ n in
              elim (grown.new j there) [
                | inl w ↦ absurd (elim (or_cases (bit set j) (G j) (subst T (is_whole j) w)) [ inl a ↦ T_not (bit set j) out a | inr h ↦ T_not (G j) free h ])
                | inr o ↦ let u = subst T (is-offered j) o in inr (there, free, and_left (bit from j) _ u, and_right (bit from j) _ u)
              ]

      -- the set and G are in what is grown
      kept : {n : ℕ} → Within n (bit set ∪ G) (bit larger)
      kept = record { at = λ j l t. grown.old j (subst⁻¹ T (is_whole j) t) }

      inside : {n : ℕ} → Within n (bit r ∪ G) (bit larger)
      inside = record {
        at = λ j l t. elim (or_cases (bit r j) (G j) t) [
          | inl a ↦ elim (parted j a) [ inl s ↦ kept.at j l (follows₂ (λ a g. a) (λ a g. a || g) tt (bit set j) (G j) s) | inr n ↦ n.0 ]
          | inr h ↦ kept.at j l (follows₂ (λ a g. g) (λ a g. a || g) tt (bit set j) (G j) h)
        ];
      }

      -- what is new to the set is new to the set and G
      fresh : Within m (bit r ∖ bit set) (bit larger ∖ bit whole)
      fresh = record {
        at = λ j l t.
            let out = and_right (bit r j) _ t in
            elim (parted j (and_left (bit r j) _ t)) [
              | inl s ↦ absurd (T_not (bit set j) out s)
              | inr (there, free, _, _) ↦ both (bit larger j) _ there (subst⁻¹ (λ (b : Bool). T (not b)) (is_whole j) (follows₂ (λ a g. not a && not g) (λ a g. not (a || g)) tt (bit set j) (G j) (both (not (bit set j)) _ out free)))
            ];
      }

      fewer : size m (bit r) ≤ size m (bit set) + most
      fewer =
          let f = grown.few in
          let splitL = size_split m (bit larger) (bit whole) in
          let all = size_same m (inter_right (bit larger) (bit whole)) (inter_most {A = bit larger} {B = bit whole} (record { at = λ j l. grown.old j }) within_refl) in
          let splitR = size_split m (bit r) (bit set) in
          let old = size_within m (inter_right (bit r) (bit set)) in
          let new = size_within m fresh in
          omega arith

      pub grown_above : Grown N set from most r
      grown_above = record {
        indep = λ i.
            let (k, o, b) = (indep_above (bit set)).0 i in
            let l = grown.indep (subst⁻¹ M.Indep (fun_ext is_whole) b) in
            (indep_above (bit r)).1 (
              record { at = λ j l t. elim (parted j t) [ inl s ↦ k.at j l s | inr n ↦ n.3 ] },
              record { at = λ j l t. elim (parted j t) [ inl s ↦ o.at j l s | inr n ↦ n.1 ] },
              M.part inside l,
            );
        old = λ j t. subst⁻¹ T (is-r j) (follows₂ (λ a b. a) (λ a b. a || b) tt (bit set j) _ t);
        new = λ j t. elim (parted j t) [ inl s ↦ inl s | inr n ↦ inr n.2 ];
        few = fewer;
      }
