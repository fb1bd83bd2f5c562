-- What a set is worth in each of the matroids of Build, and which sets are independent there.
use Prim.Native.Nat.{ℕ, ◌+◌, ◌<◌, min}
use mathlib.Core.Path.{◌≡◌}
use mathlib.Core.Bool.{◌&&◌, ◌||◌, not}
use mathlib.Core.Logic.{◌↔◌}
use native.Mathlib.Omega.{arith}
use lib.Dec.{T}
use Rattle.matroid.specs.Set.{Set, ◌∪◌, ◌∩◌, ◌∖◌, complement, with, size, Within}
use Rattle.matroid.specs.SetLaws.{within₂, within_trans, union_left, union_right, union_least, inter_left, inter_right, inter_most, size_within, size_split, size_with, size_union}
use Rattle.matroid.specs.Matroid.{Matroid, worth}
use Rattle.matroid.specs.Build.{truncate, restrict, contract, rank_zero, contract_where, contracted}
use Rattle.matroid.proofs.Sets.{size_take}
use Rattle.matroid.proofs.Rank.{worth_attained, worth_most, extend}

module _ {m : ℕ} (M : Matroid m) where
  -- what can join one of its sets can join it before, and there is room
  pub truncate_with : (c : ℕ) {A : Set} (h : ℕ) → (truncate M c).Indep A → h < m → T (not (A h)) → (truncate M c).Indep (with A h) ↔ (M.Indep (with A h) × (size m A < c))
  truncate_with c {A} h i l out =
      let grown = size_with m A h l out in
      (λ (j, top). (j, omega arith), λ (j, room). (j, omega arith))

  -- a set is worth to it what it was, and at most c
  pub worth_truncate : (c : ℕ) (S : Set) → worth (truncate M c) S ≡ min c (worth M S)
  worth_truncate c S =
      let b = worth_attained (truncate M c) S in
      let e = b.full in
      let capped = b.indep.1 in
      let le = worth_most M b.within b.indep.0 in
      let B = worth_attained M S in
      let E = B.full in
      let P = size_take m (min c (worth M S)) B.set (omega arith) in
      let p = P.count in
      let ge = worth_most (truncate M c) (within_trans P.within B.within) (M.part P.within B.indep, omega arith) in
      omega arith

  -- a set is worth to it what its members in K were
  pub worth_restrict : (K S : Set) → worth (restrict M K) S ≡ worth M (S ∩ K)
  worth_restrict K S =
      let b = worth_attained (restrict M K) S in
      let e = b.full in
      let le = worth_most M (inter_most b.within b.indep.1) b.indep.0 in
      let B = worth_attained M (S ∩ K) in
      let E = B.full in
      let ge = worth_most (restrict M K) (within_trans B.within (inter_left S K)) (B.indep, within_trans B.within (inter_right S K)) in
      omega arith

  -- a set is worth to it what it adds to G
  pub worth_contract : (G : Set) (g : M.Indep G) (S : Set) → worth (contract M G g) S + size m G ≡ worth M (S ∪ G)
  worth_contract G g S =
      let b = worth_attained (contract M G g) S in
      let e = b.full in
      let joined = size_union m b.set G b.indep.0 in
      let le = worth_most M (union_least (within_trans b.within (union_left S G)) (union_right S G)) b.indep.1 in
      let B = worth_attained M (S ∪ G) in
      let E = B.full in
      let small = worth_most M (union_right S G) g in
      let Y = extend M g B.indep (omega arith) in
      let F = Y.full in
      let split = size_split m Y.set G in
      let kept = size_within m (inter_right Y.set G) in
      let inside : Within m Y.set (S ∪ G) = within_trans Y.new (union_least (union_right S G) B.within) in
      let new : Within m (Y.set ∖ G) S = within_trans (inter_most (within_trans (inter_left Y.set (complement G)) inside) (inter_right Y.set (complement G))) (within₂ (λ s g. (s || g) && not g) (λ s g. s) tt S G) in
      let ge = worth_most (contract M G g) new (inter_right Y.set (complement G), M.part (union_least (inter_left Y.set (complement G)) Y.old) Y.indep) in
      omega arith

-- in the matroid of rank 0 every set is worth 0
pub worth_rank_zero : (m : ℕ) (S : Set) → worth (rank_zero m) S ≡ 0
worth_rank_zero m S =
    let b = worth_attained (rank_zero m) S in
    let e = b.full in
    let z = b.indep in
    omega arith

module _ {m : ℕ} (M : Matroid m) (G : Set) where
  -- where G is independent, a set is worth what it adds to G
  pub contracted_yes : (g : M.Indep G) (S : Set) → worth (contracted M G) S + size m G ≡ worth M (S ∪ G)
  contracted_yes g S = go (M.decide G)
    where
      go : (d : Dec (M.Indep G)) → worth (contract_where M G d) S + size m G ≡ worth M (S ∪ G)
      go (yes i) = worth_contract M G i S
      go (no d) = absurd (d g)

  -- where it is not, every set is worth 0
  pub contracted_no : ¬ M.Indep G → (S : Set) → worth (contracted M G) S ≡ 0
  contracted_no n S = go (M.decide G)
    where
      go : (d : Dec (M.Indep G)) → worth (contract_where M G d) S ≡ 0
      go (yes i) = absurd (n i)
      go (no d) = worth_rank_zero m S

  -- where G is independent, the independent sets are those that share nothing with G and can join it
  pub contracted_indep : M.Indep G → (A : Set) → (contracted M G).Indep A ↔ (Within m A (complement G) × M.Indep (A ∪ G))
  contracted_indep g A = go (M.decide G)
    where
      go : (d : Dec (M.Indep G)) → (contract_where M G d).Indep A ↔ (Within m A (complement G) × M.Indep (A ∪ G))
      go (yes i) = (λ h. h, λ h. h)
      go (no d) = absurd (d g)
