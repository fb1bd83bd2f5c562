-- What a division is worth in all is bounded by every set.
use Prim.Native.Nat.{ℕ, ◌+◌, ◌≤◌, ◌<◌}
use mathlib.Core.Path.{◌≡◌, ◌∙◌}
use native.Mathlib.Omega.{arith}
use lib.Dec.{T, lt→ltb}
use Rattle.matroid.specs.Set.{Set, ◌∩◌, ◌∖◌, complement, size, Within}
use Rattle.matroid.specs.SetLaws.{within_refl, inter_right, inter_most, size_within, size_same, size_split}
use Rattle.matroid.specs.Sum.{sum}
use Rattle.matroid.specs.Matroid.{Matroid, worth}
use Rattle.matroid.specs.Division.{bundle, held, total}
use Rattle.matroid.specs.DivisionLaws.{sum_bundles}
use Rattle.matroid.proofs.Sums.{sum_le, sum_same, sum_add}
use Rattle.matroid.proofs.Rank.{worth_mono, worth_split}

-- so they are no more than R has
pub sum_bundles_le : (m n : ℕ) (D : ℕ → ℕ) (R : Set) → sum n (λ t. size m (bundle D t ∩ R)) ≤ size m R
sum_bundles_le m n D R =
    let e = sum_bundles m n D R in
    let l = size_within m (inter_right (held n D) R) in
    omega arith

-- and where all of R is held, no fewer
pub sum_bundles_all : (m n : ℕ) (D : ℕ → ℕ) (R : Set) → ((g : ℕ) → g < m → T (R g) → D g < n) → sum n (λ t. size m (bundle D t ∩ R)) ≡ size m R
sum_bundles_all m n D R h =
    let e = sum_bundles m n D R in
    let all : Within m R (held n D) = record { at = λ g l t. lt→ltb (D g) n (h g l t) } in
    let l = size_same m (inter_right (held n D) R) (inter_most all within_refl) in
    omega arith

-- the bundles are counted inside R and outside it
pub sum_bundles_split : (m n : ℕ) (D : ℕ → ℕ) (R : Set) → sum n (λ t. size m (bundle D t)) ≡ sum n (λ t. size m (bundle D t ∩ R)) + sum n (λ t. size m (bundle D t ∖ R))
sum_bundles_split m n D R = sum_same n (λ t. size m (bundle D t)) (λ t. size m (bundle D t ∩ R) + size m (bundle D t ∖ R)) (λ t _. size_split m (bundle D t) R) ∙ sum_add n (λ t. size m (bundle D t ∩ R)) (λ t. size m (bundle D t ∖ R))

-- no division is worth more in all than what lies outside K, and K once to each team
pub weak_duality : {m : ℕ} (n : ℕ) (M : ℕ → Matroid m) (D : ℕ → ℕ) (K : Set) → total n M D ≤ size m (complement K) + sum n (λ t. worth (M t) K)
weak_duality {m} n M D K =
    let each = sum_le n (λ t. worth (M t) (bundle D t)) (λ t. size m (bundle D t ∖ K) + worth (M t) K) (λ t _. one_team t) in
    let add = sum_add n (λ t. size m (bundle D t ∖ K)) (λ t. worth (M t) K) in
    let outside = sum_bundles_le m n D (complement K) in
    omega arith
  where
    -- one team's bundle, inside K and outside it
    one_team : (t : ℕ) → worth (M t) (bundle D t) ≤ size m (bundle D t ∖ K) + worth (M t) K
    one_team t =
        let split = worth_split (M t) (bundle D t) K in
        let inside = worth_mono (M t) (inter_right (bundle D t) K) in
        omega arith
