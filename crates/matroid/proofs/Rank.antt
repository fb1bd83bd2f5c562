-- Worth is matroid rank: some independent part has that size and none is larger. What follows from the two laws of a matroid.
use Prim.Native.Nat.{ℕ, zero, suc, ◌+◌, ◌-◌, ◌≤◌, ◌<◌}
use mathlib.Core.Path.{◌≡◌, refl, sym, ◌∙◌, subst}
use mathlib.Core.Bool.{Bool, true, false, not, cond}
use mathlib.Core.Logic.{◌⊎◌, inl, inr, ite}
use mathlib.Core.List.{◌++◌, map}
use native.Mathlib.Omega.{arith}
use native.Mathlib.Nat.{le_refl}
use native.Mathlib.Decide.{dec_lt}
use lib.Dec.{T}
use Rattle.matroid.specs.Taut.{decide_T}
use Rattle.matroid.specs.Decide.{below_suc}
use Rattle.matroid.specs.Set.{Set, none, ◌∪◌, ◌∩◌, ◌∖◌, complement, with, size, Within}
use Rattle.matroid.specs.SetLaws.{differ, with_cases, with_new, within_refl, within_trans, within_none, union_left, union_right, union_least, inter_left, inter_mono, with_old, with_least, size_none, size_within, size_split, size_with, size_full}
use Rattle.matroid.specs.Search.{All, Any, largest}
use Rattle.matroid.specs.Matroid.{Gain, Matroid, parts, value, worth}
use Rattle.matroid.proofs.Searches.{all_imp, all_append, all_map, any_imp, any_left, any_right, any_map, largest_most, largest_attained}

-- ---- the list of the parts

-- A is a part of S, from m on too
abbrev Part : Set → Set → Type 0
Part S A = (k : ℕ) → T (A k) → T (S k)

-- a part with one more member of S is a part
part_with : (S A : Set) (m : ℕ) → T (S m) → Part S A → Part S (with A m)
part_with S A m s h k t = (with_least {A = A} {B = S} m (record { at = λ j _. h j }) s).at k (le_refl (suc k)) t

-- all that is listed is part of S
parts_sound : (m : ℕ) (S : Set) → All (Part S) (parts m S)
parts_sound zero S = (λ k t. absurd t, tt)
parts_sound (suc m) S = go (S m) refl (parts_sound m S)
  where
    go : (b : Bool) → S m ≡ b → All (Part S) (parts m S) → All (Part S) (cond b (parts m S ++ map (λ A. with A m) (parts m S)) (parts m S))
    go true e h = all_append (Part S) (parts m S) _ h (all_map (Part S) (λ A. with A m) (parts m S) (all_imp (λ A. part_with S A m (subst T (sym e) tt)) (parts m S) h))
    go false e h = h

-- B has the members of A below m, and no others
record Cut (m : ℕ) (A B : Set) : Type 0 where
  low : (k : ℕ) → T (B k) → k < m
  old : Within m B A
  all : Within m A B

-- A has m: then so must B
cut_with : (m : ℕ) (A B : Set) → T (A m) → Cut m A B → Cut (suc m) A (with B m)
cut_with m A B a c = record { low = λ k t. low k (with_cases B m k t); old = record { at = λ k _ t. old k (with_cases B m k t) }; all = record { at = λ k l t. all k t (below_suc l) } }
  where
    low : (k : ℕ) → T (B k) ⊎ (k ≡ m) → k < suc m
    low k (inl t) = let l = c.low k t in omega arith
    low k (inr e) = omega arith

    old : (k : ℕ) → T (B k) ⊎ (k ≡ m) → T (A k)
    old k (inl t) = c.old.at k (c.low k t) t
    old k (inr e) = subst (λ (x : ℕ). T (A x)) (sym e) a

    all : (k : ℕ) → T (A k) → (k < m) ⊎ (k ≡ m) → T (with B m k)
    all k t (inl l) = (with_old B m).at k l (c.all.at k l t)
    all k t (inr e) = subst (λ (x : ℕ). T (with B m x)) (sym e) (with_new B m)

-- A does not have m: then B stays
cut_same : (m : ℕ) (A B : Set) → T (not (A m)) → Cut m A B → Cut (suc m) A B
cut_same m A B a c = record { low = λ k t. let l = c.low k t in omega arith; old = record { at = λ k _ t. c.old.at k (c.low k t) t }; all = record { at = λ k l t. all k t (below_suc l) } }
  where
    all : (k : ℕ) → T (A k) → (k < m) ⊎ (k ≡ m) → T (B k)
    all k t (inl l) = c.all.at k l t
    all k t (inr e) = absurd (differ A t a e)

-- every part of S is listed, up to what it has from m on
parts_complete : (m : ℕ) (S A : Set) → Within m A S → Any (Cut m A) (parts m S)
parts_complete zero S A h = inl (record { low = λ k t. absurd t; old = within_none; all = record { at = λ k l. absurd (omega arith) } })
parts_complete (suc m) S A h = go (S m) refl (decide_T (A m)) (parts_complete m S A (record { at = λ k l. h.at k (omega arith) }))
  where
    go : (s : Bool) → S m ≡ s → T (A m) ⊎ T (not (A m)) → Any (Cut m A) (parts m S) → Any (Cut (suc m) A) (cond s (parts m S ++ map (λ A. with A m) (parts m S)) (parts m S))
    go true e (inl a) i = any_right (Cut (suc m) A) (parts m S) _ (any_map (Cut (suc m) A) (λ A. with A m) (parts m S) (any_imp (λ B. cut_with m A B a) (parts m S) i))
    go true e (inr a) i = any_left (Cut (suc m) A) (parts m S) _ (any_imp (λ B. cut_same m A B a) (parts m S) i)
    go false e (inl a) i = absurd (subst T e (h.at m (omega arith) a))
    go false e (inr a) i = any_imp (λ B. cut_same m A B a) (parts m S) i

-- ---- worth

-- a largest independent part of S
pub record Basis {m : ℕ} (M : Matroid m) (S : Set) : Type 0 where
  pub set : Set
  pub within : Within m set S
  pub indep : M.Indep set
  pub full : size m set ≡ worth M S

-- A is an independent part of S that can gain no member of S
pub record Maximal {m : ℕ} (M : Matroid m) (S A : Set) : Type 0 where
  pub within : Within m A S
  pub indep : M.Indep A
  pub stuck : (g : ℕ) → g < m → T (S g) → T (not (A g)) → ¬ M.Indep (with A g)

-- an independent set between Y and Y ∪ A, as large as A
pub record Extension {m : ℕ} (M : Matroid m) (Y A : Set) : Type 0 where
  pub set : Set
  pub old : Within m Y set
  pub new : Within m set (Y ∪ A)
  pub indep : M.Indep set
  pub full : size m set ≡ size m A

module _ {m : ℕ} (M : Matroid m) where
  -- an independent set counts with its size
  value_indep : (A : Set) → M.Indep A → value M A ≡ size m A
  value_indep A i = go (M.decide A)
    where
      go : (d : Dec (M.Indep A)) → ite d (size m A) 0 ≡ size m A
      go (yes _) = refl
      go (no d) = absurd (d i)

  -- what counts is independent
  value_pos : (A : Set) → 0 < value M A → M.Indep A
  value_pos A = go (M.decide A)
    where
      go : (d : Dec (M.Indep A)) → 0 < ite d (size m A) 0 → M.Indep A
      go (yes i) l = i
      go (no _) l = absurd (omega arith)

  -- some independent part of S has the size worth S
  pub worth_attained : (S : Set) → Basis M S
  unfolding worth
  worth_attained S = go (dec_lt 0 (largest (value M) (parts m S)))
    where
      go : Dec (0 < largest (value M) (parts m S)) → Basis M S
      go (yes l) =
          let best = largest_attained (value M) (parts m S) (parts_sound m S) l in
          let e = best.2 in
          let i = value_pos best.0 (omega arith) in
          record { set = best.0; within = record { at = λ k _. best.1 k }; indep = i; full = sym (value_indep best.0 i) ∙ e }
      go (no d) = record { set = none; within = within_none; indep = M.empty; full = let z = size_none m in omega arith }

  -- no independent part of S is larger
  pub worth_most : {S A : Set} → Within m A S → M.Indep A → size m A ≤ worth M S
  unfolding worth
  worth_most {S} {A} h i = largest_most (value M) (size m A) (parts m S) (any_imp reaches (parts m S) (parts_complete m S A h))
    where
      reaches : (B : Set) → Cut m A B → size m A ≤ value M B
      reaches B c =
          let v = value_indep B (M.part c.old i) in
          let l = size_within m c.all in
          omega arith

  -- more is worth no less
  pub worth_mono : {S S' : Set} → Within m S S' → worth M S ≤ worth M S'
  worth_mono {S} h =
      let b = worth_attained S in
      let e = b.full in
      let l = worth_most (within_trans b.within h) b.indep in
      omega arith

  -- worth goes by the members below m
  pub worth_same : {S S' : Set} → Within m S S' → Within m S' S → worth M S ≡ worth M S'
  worth_same f g =
      let le = worth_mono f in
      let ge = worth_mono g in
      omega arith

  -- a set is worth at most its size
  pub worth_le_size : (S : Set) → worth M S ≤ size m S
  worth_le_size S =
      let b = worth_attained S in
      let e = b.full in
      let l = size_within m b.within in
      omega arith

  -- an independent set is worth its size
  pub worth_indep : (S : Set) → M.Indep S → worth M S ≡ size m S
  worth_indep S i =
      let le = worth_le_size S in
      let ge = worth_most within_refl i in
      omega arith

  -- and only an independent set is
  pub indep_worth : (S : Set) → worth M S ≡ size m S → M.Indep S
  indep_worth S e =
      let b = worth_attained S in
      let f = b.full in
      M.part (size_full b.within (omega arith)) b.indep

  -- what lies outside K adds at most its number
  pub worth_split : (A K : Set) → worth M A ≤ worth M (A ∩ K) + size m (A ∖ K)
  worth_split A K =
      let b = worth_attained A in
      let e = b.full in
      let split = size_split m b.set K in
      let inside = worth_most (inter_mono K b.within) (M.part (inter_left b.set K) b.indep) in
      let outside = size_within m (inter_mono (complement K) b.within) in
      omega arith

  -- an independent part of S that can gain no member of S is a largest one
  pub maximal_is_worth : {S X : Set} → Maximal M S X → size m X ≡ worth M S
  maximal_is_worth {S} {X} x = go (dec_lt (size m X) (worth M S))
    where
      go : Dec (size m X < worth M S) → size m X ≡ worth M S
      go (yes l) =
          let b = worth_attained S in
          let e = b.full in
          let g = M.gain x.indep b.indep (omega arith) in
          absurd (x.stuck g.at g.below (b.within.at g.at g.below g.there) g.fresh g.indep)
      go (no d) = let l = worth_most x.within x.indep in omega arith

  -- an extension after a gain is one before it
  extension_with : {Y A : Set} (g : Gain m M.Indep Y A) → Extension M (with Y g.at) A → Extension M Y A
  extension_with {Y} {A} g x = record {
    set = x.set;
    old = within_trans (with_old Y g.at) x.old;
    new = within_trans x.new (union_least (with_least g.at (union_left Y A) ((union_right Y A).at g.at g.below g.there)) (union_right Y A));
    indep = x.indep;
    full = x.full;
  }

  -- by d gains
  extend_by : (d : ℕ) {Y A : Set} → M.Indep Y → M.Indep A → size m A ≡ size m Y + d → Extension M Y A
  extend_by zero {Y} {A} y a e = record { set = Y; old = within_refl; new = union_left Y A; indep = y; full = omega arith }
  extend_by (suc d) {Y} {A} y a e =
      let g = M.gain y a (omega arith) in
      let grown = size_with m Y g.at g.below g.fresh in
      extension_with g (extend_by d g.indep a (omega arith))

  -- a smaller independent set grows to the size of a larger one by members of it
  pub extend : {Y A : Set} → M.Indep Y → M.Indep A → size m Y ≤ size m A → Extension M Y A
  extend {Y} {A} y a l = extend_by (size m A - size m Y) y a (omega arith)
