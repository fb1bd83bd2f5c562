-- What a set is worth to the partition matroid.
use Prim.Native.Nat.{ℕ, ◌<◌, min}
use mathlib.Core.Path.{◌≡◌, subst⁻¹}
use mathlib.Core.Bool.{not}
use native.Mathlib.Omega.{arith}
use native.Mathlib.Decide.{dec_lt}
use lib.Dec.{T, eqb→eq}
use Rattle.matroid.specs.Taut.{and_left, and_right}
use Rattle.matroid.specs.Set.{Set, ◌∩◌, with, size, Within}
use Rattle.matroid.specs.SetLaws.{with_least, inter_out, size_with, size_extra}
use Rattle.matroid.specs.Sum.{sum}
use Rattle.matroid.specs.Matroid.{worth}
use Rattle.matroid.specs.Division.{bundle}
use Rattle.matroid.specs.DivisionLaws.{sum_bundles}
use Rattle.matroid.proofs.Sums.{sum_same}
use Rattle.matroid.proofs.Rank.{worth_attained, worth_most}
use Rattle.caps.specs.Caps.{classes, count, Capped}
use Rattle.caps.specs.Partition.{count_within, capped_join, all_classes, partition}

module _ (m : ℕ) (class cap : ℕ → ℕ) where
  -- a largest capped part of S has of each class as many as S has, up to the cap
  module _ (S : Set) (A : Set) (a : Capped m class cap A) (within : Within m A S) (most : (g : ℕ) → g < m → T (S g) → T (not (A g)) → ¬ Capped m class cap (with A g)) where
    class_full : (c : ℕ) → c < classes → count m class A c ≡ min (cap c) (count m class S c)
    class_full c cl = go (dec_lt (count m class A c) (min (cap c) (count m class S c)))
      where
        go : Dec (count m class A c < min (cap c) (count m class S c)) → count m class A c ≡ min (cap c) (count m class S c)
        go (no d) = let fits = a.capped c cl in let fewer = count_within m class cap within c in omega arith
        go (yes l) =
            let x = size_extra m (bundle class c ∩ A) (bundle class c ∩ S) (omega arith) in
            let g = x.at in
            let of_c = and_left (bundle class c g) _ x.there in
            let same = eqb→eq (class g) c of_c in
            let out = inter_out (bundle class c) A g of_c x.fresh in
            let room : count m class A (class g) < cap (class g) = subst⁻¹ (λ (c : ℕ). count m class A c < cap c) same (omega arith) in
            absurd (most g x.below (and_right (bundle class c g) _ x.there) out (capped_join m class cap g a x.below out (omega arith) room))

    class_sum : size m A ≡ sum classes (λ c. min (cap c) (count m class S c))
    class_sum =
        let all = all_classes m class cap a in
        let sumA = sum_bundles m classes class A in
        let each = sum_same classes (count m class A) (λ c. min (cap c) (count m class S c)) class_full in
        omega arith

  -- a set is worth what its classes have, up to their caps
  pub partition_worth : (S : Set) → worth (partition m class cap) S ≡ sum classes (λ c. min (cap c) (count m class S c))
  unfolding partition
  partition_worth S =
      let b = worth_attained (partition m class cap) S in
      let full = b.full in
      let stuck : (g : ℕ) → g < m → T (S g) → T (not (b.set g)) → ¬ Capped m class cap (with b.set g) =
      λ g l s out i. let grown = size_with m b.set g l out in let most = worth_most (partition m class cap) (with_least g b.within s) i in omega arith in
      let sums = class_sum S b.set b.indep b.within stuck in
      omega arith
