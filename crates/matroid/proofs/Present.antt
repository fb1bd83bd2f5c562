-- Levelling where some teams are away: to a team that is not present every set is worth nothing, and targets are reckoned with those present.
use Prim.Native.Nat.{ℕ, ◌+◌, ◌*◌, ◌≤◌, ◌<◌}
use mathlib.Core.Path.{◌≡◌, sym, ap, ◌∙◌, subst}
use mathlib.Core.Bool.{true, not}
use mathlib.Core.Logic.{◌⊎◌, inl, inr}
use native.Mathlib.Omega.{arith}
use native.Mathlib.Nat.{mul-le-mul_left}
use native.Mathlib.Decide.{dec_lt}
use lib.Dec.{T, eqb→eq}
use Rattle.matroid.specs.Taut.{decide_T, T→true}
use Rattle.matroid.specs.Set.{Set, ◌∩◌, ◌∖◌, complement, one, size}
use Rattle.matroid.specs.SetLaws.{inter_left, inter_right, size_within, size_split, size_without, size_all, size_some}
use Rattle.matroid.specs.Matroid.{Matroid, worth}
use Rattle.matroid.specs.Division.{bundle}
use Rattle.matroid.specs.Exchange.{Sound}
use Rattle.matroid.specs.Closure.{Closed, GainsWithin}
use Rattle.matroid.proofs.Sums.{sum_mul, sum_size, sum_lt}
use Rattle.matroid.proofs.Rank.{worth_indep}
use Rattle.matroid.proofs.Duality.{sum_bundles_all}
use Rattle.matroid.proofs.Certificates.{bundle_tight, meets_tight}

-- there is a member, so there is at least one
pub present_some : (n : ℕ) (present : Set) (i : ℕ) → i < n → T (present i) → 0 < size n present
present_some n present i l here = let less = size_without n present i l here in omega arith

module _ {m : ℕ} (n : ℕ) (M : ℕ → Matroid m) where
  -- Of the n teams p are present, and to the others every set is worth nothing.
  module _ (present : Set) (p : ℕ) (count : size n present ≡ p) (absent : (t : ℕ) → t < n → T (not (present t)) → (S : Set) → worth (M t) S ≡ 0) where
    -- who is away holds nothing
    absent_none : (D : ℕ → ℕ) → Sound n M D → (t : ℕ) → t < n → T (not (present t)) → size m (bundle D t) ≡ 0
    absent_none D sound t l away = sym (worth_indep (M t) (bundle D t) (sound t l)) ∙ absent t l away (bundle D t)

    -- All bundles are independent, R is closed and allows the targets τ of those present, and whoever holds a member of R is a team at most at its target.
    module _ (D : ℕ → ℕ) (R : Set) (sound : Sound n M D) (closed : Closed n M D R) (τ : ℕ → ℕ)
        (allowed : (t : ℕ) → t < n → T (present t) → p * τ t ≤ size m R + p * worth (M t) (complement R))
        (kept : (g : ℕ) → g < m → T (R g) → (D g < n) × (size m (bundle D (D g)) ≤ τ (D g))) where
      -- p times a number up to the target is at most R and p times what the team has outside R
      level_le : (t c : ℕ) → t < n → T (present t) → c ≤ τ t → worth (M t) (complement R) ≡ size m (bundle D t ∖ R) → p * c ≤ size m R + p * size m (bundle D t ∖ R)
      level_le t c l here b e =
          let target = mul-le-mul_left p b in
          let most = allowed t l here in
          let outside = ap (λ (x : ℕ). p * x) e in
          omega arith

      -- p times a bundle is p times its part in R and p times the rest
      level_split : (t : ℕ) → p * size m (bundle D t) ≡ p * size m (bundle D t ∩ R) + p * size m (bundle D t ∖ R)
      level_split t = let split = ap (λ (x : ℕ). p * x) (size_split m (bundle D t) R) in omega arith

      -- whoever has nothing of R has p times nothing
      level_none : (t : ℕ) → size m (bundle D t ∩ R) ≡ 0 → p * size m (bundle D t ∩ R) ≡ 0
      level_none t none = let times = ap (λ (x : ℕ). p * x) none in omega arith

      -- no team that is present has more than its part of R
      level_here : (t : ℕ) → t < n → T (present t) → p * size m (bundle D t ∩ R) ≤ size m R
      level_here t l here = go (dec_lt 0 (size m (bundle D t ∩ R)))
        where
          go : Dec (0 < size m (bundle D t ∩ R)) → p * size m (bundle D t ∩ R) ≤ size m R
          go (yes some) =
              let x = size_some m (bundle D t ∩ R) some in
              let b = (inter_left (bundle D t) R).at x.at x.below x.there in
              let r = (inter_right (bundle D t) R).at x.at x.below x.there in
              let top = subst (λ (u : ℕ). size m (bundle D u) ≤ τ u) (eqb→eq (D x.at) t b) (kept x.at x.below r).1 in
              let most = level_le t (size m (bundle D t)) l here top (meets_tight n M D R sound closed t x.at l x.below b r) in
              let split = level_split t in
              omega arith
          go (no d) = let zero = level_none t (omega arith) in omega arith

      -- and one that is away has none of it
      level_each : (t : ℕ) → t < n → p * size m (bundle D t ∩ R) ≤ size m R * one (present t)
      level_each t l = go (decide_T (present t))
        where
          go : T (present t) ⊎ T (not (present t)) → p * size m (bundle D t ∩ R) ≤ size m R * one (present t)
          go (inl here) =
              let most = level_here t l here in
              let times = ap (λ (x : ℕ). size m R * x) (ap one (T→true (present t) here)) in
              omega arith
          go (inr away) =
              let all = absent_none D sound t l away in
              let part = size_within m (inter_left (bundle D t) R) in
              let zero = level_none t (omega arith) in
              omega arith

      -- one that is present and short has less than its part
      level_short : (i : ℕ) → i < n → T (present i) → size m (bundle D i) < τ i → GainsWithin n M D R i → p * size m (bundle D i ∩ R) < size m R * one (present i)
      level_short i l here short gains =
          let some = present_some n present i l here in
          let most = level_le i (size m (bundle D i) + 1) l here (omega arith) (bundle_tight n M D R sound closed i l gains) in
          let split = level_split i in
          let times = ap (λ (x : ℕ). size m R * x) (ap one (T→true (present i) here)) in
          omega arith

      -- so no team is present and short whose gains all lie in R
      pub levelling_present : (i : ℕ) → i < n → T (present i) → size m (bundle D i) < τ i → GainsWithin n M D R i → ⊥
      levelling_present i l here short gains =
          let less = sum_lt n (λ t. p * size m (bundle D t ∩ R)) (λ t. size m R * one (present t)) level_each i l (level_short i l here short gains) in
          let whole = sum_mul n (size m R) (λ t. one (present t)) in
          let number = ap (λ (x : ℕ). size m R * x) (sum_size n present ∙ count) in
          let times = sum_mul n p (λ t. size m (bundle D t ∩ R)) in
          let all = ap (λ (x : ℕ). p * x) (sum_bundles_all m n D R (λ g b r. (kept g b r).0)) in
          omega arith

  -- All are present: no team is short whose gains all lie in R.
  pub levelling : (D : ℕ → ℕ) (R : Set) → Sound n M D → Closed n M D R → (τ : ℕ → ℕ)
      → ((t : ℕ) → t < n → n * τ t ≤ size m R + n * worth (M t) (complement R))
      → ((g : ℕ) → g < m → T (R g) → (D g < n) × (size m (bundle D (D g)) ≤ τ (D g)))
      → (i : ℕ) → i < n → size m (bundle D i) < τ i → GainsWithin n M D R i → ⊥
  levelling D R sound closed τ allowed kept i l = levelling_present (λ t. true) n (size_all n (λ t. true) (λ _ _. tt)) (λ t _ away. absurd away) D R sound closed τ (λ t l _. allowed t l) kept i l tt
