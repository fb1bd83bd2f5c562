-- The matroid of CAPS with its two laws: the partition matroid.
use Rattle.std.specs.Prelude.{ℕ, ◌≤◌, ◌<◌, ◌≡◌, not, ◌↔◌, List, get_or}
use Rattle.std.proofs.Common.{subst, arith, eqb→eq, ltb→lt, lt→ltb}
use Rattle.std.proofs.Math.Path.{subst⁻¹}
use Rattle.std.proofs.Math.Decide.{dec_le, dec_lt, ℕ_discrete}
use Rattle.std.proofs.Math.Dec.{T}
use Rattle.matroid.specs.Taut.{and_left, and_right}
use Rattle.matroid.specs.Decide.{T?, dec_both, dec_iff, dec_implies, all?}
use Rattle.matroid.specs.Set.{Set, none, ◌∩◌, with, size, Within}
use Rattle.matroid.specs.SetLaws.{one_eq, one_ne, within_none, within_trans, within_refl, with_least, inter_left, inter_right, inter_most, inter_out, size_none, size_within, size_same, size_with_in, size_extra, size_some}
use Rattle.matroid.specs.Matroid.{Matroid, Gain}
use Rattle.matroid.specs.Division.{bundle}
use Rattle.matroid.specs.DivisionLaws.{sum_less, sum_bundles}
use Rattle.caps.specs.Caps.{classes, put, count, Capped}

module _ (m : ℕ) (class cap : ℕ → ℕ) where
  -- g is put in a class that has no more members than its cap
  abbrev pub Sits : Set → ℕ → Type 0
  Sits A g = (class g < classes) × (count m class A (class g) ≤ cap (class g))

  -- a set is capped where every member sits so: a class without members is within its cap
  pub capped_iff : (A : Set) → ((g : ℕ) → g < m → T (A g) → Sits A g) ↔ Capped m class cap A
  capped_iff A = (
    λ h. record { placed = record { at = λ g l a. lt→ltb _ _ (h g l a).0 }; capped = λ c _. of_class h c (dec_lt 0 (count m class A c)) },
    λ c g l a. let p = ltb→lt _ _ (c.placed.at g l a) in (p, c.capped (class g) p),
  )
    where
      of_class : ((g : ℕ) → g < m → T (A g) → Sits A g) → (c : ℕ) → Dec (0 < count m class A c) → count m class A c ≤ cap c
      of_class h c (yes some) =
          let x = size_some m (bundle class c ∩ A) some in
          let of_c = and_left (bundle class c x.at) _ x.there in
          let member = and_right (bundle class c x.at) _ x.there in
          subst (λ (c : ℕ). count m class A c ≤ cap c) (eqb→eq (class x.at) c of_c) (h x.at x.below member).1
      of_class h c (no d) = omega arith

  -- whether a set is capped
  unfoldable pub capped? : (A : Set) → Dec (Capped m class cap A)
  unfolding dec_lt classes
  capped? A = dec_iff (capped_iff A)
      (all? (λ g. T (A g) → Sits A g) (λ g. dec_implies (T? (A g)) (λ _. dec_both (dec_lt (class g) classes) (dec_le (count m class A (class g)) (cap (class g))))) m)

  pub capped_none : Capped m class cap none
  capped_none = record {
    placed = within_none;
    capped = λ c l.
        let part = size_within m (inter_right (bundle class c) none) in
        let empty = size_none m in
        omega arith;
  }

  -- the members of a part in a class are members of the whole in it
  pub count_within : {A B : Set} → Within m A B → (c : ℕ) → count m class A c ≤ count m class B c
  count_within {A} h c = size_within m (inter_most (inter_left (bundle class c) A) (within_trans (inter_right (bundle class c) A) h))

  pub capped_part : {A B : Set} → Within m A B → Capped m class cap B → Capped m class cap A
  capped_part h b = record {
    placed = within_trans h b.placed;
    capped = λ c l. let fewer = count_within h c in let most = b.capped c l in omega arith;
  }

  -- an instrument that is put in a class with room can join a capped set
  pub capped_join : {A : Set} (g : ℕ) → Capped m class cap A → g < m → T (not (A g)) → class g < classes → count m class A (class g) < cap (class g) → Capped m class cap (with A g)
  capped_join {A} g a l out p room = record {
    placed = with_least g a.placed (lt→ltb (class g) classes p);
    capped = λ c cl.
        let more = size_with_in m (bundle class c) A g l out in
        let most = a.capped c cl in
        elim (ℕ_discrete (class g) c) [
          | yes e ↦
              let here = one_eq (class g) c e in
              let room' = subst (λ (c : ℕ). count m class A c < cap c) e room in
              omega arith
          | no d ↦ let none = one_ne (class g) c d in omega arith
        ];
  }

  -- the members of a capped set are all in the classes
  pub all_classes : {A : Set} → Capped m class cap A → size m (put class ∩ A) ≡ size m A
  all_classes {A} a = size_same m (inter_right (put class) A) (inter_most a.placed within_refl)

  -- the class in which B has more has room, and A can gain a member of B there
  pub capped_gain : {A B : Set} → Capped m class cap A → Capped m class cap B → size m A < size m B → Gain m (Capped m class cap) A B
  capped_gain {A} {B} a b more =
      let allA = all_classes a in
      let allB = all_classes b in
      let sumA = sum_bundles m classes class A in
      let sumB = sum_bundles m classes class B in
      let (c, cl, fewer) = sum_less classes (count m class A) (count m class B) (omega arith) in
      let x = size_extra m (bundle class c ∩ A) (bundle class c ∩ B) fewer in
      let g = x.at in
      let of_c = and_left (bundle class c g) _ x.there in
      let in_b = and_right (bundle class c g) _ x.there in
      let out = inter_out (bundle class c) A g of_c x.fresh in
      let most = b.capped c cl in
      let room : count m class A (class g) < cap (class g) = subst⁻¹ (λ (c : ℕ). count m class A c < cap c) (eqb→eq (class g) c of_c) (omega arith) in
      record {
        at = g;
        below = x.below;
        there = in_b;
        fresh = out;
        indep = capped_join g a x.below out (ltb→lt (class g) classes (b.placed.at g x.below in_b)) room;
      }

  -- the partition matroid
  unfoldable pub partition : Matroid m
  unfolding capped?
  partition = record { Indep = Capped m class cap; decide = capped?; empty = capped_none; part = capped_part; gain = capped_gain }

-- the class of each instrument and the cap of each class, by a team's tables
abbrev pub class_in : List ℕ → ℕ → ℕ
class_in class i = get_or class i 255

abbrev pub cap_in : List ℕ → ℕ → ℕ
cap_in cap c = get_or cap c 0

-- the matroid of these tables
abbrev pub caps_of : (m : ℕ) (class cap : List ℕ) → Matroid m
caps_of m class cap = partition m (class_in class) (cap_in cap)
