-- Some cut gives every part the share, and none gives more. Every set bounds it.
use Prim.Native.Nat.{ℕ, zero, suc, ◌+◌, ◌*◌, ◌≤◌, ◌<◌, min, zero-le}
use mathlib.Core.Path.{◌≡◌, sym, ap, subst}
use native.Mathlib.Omega.{arith}
use native.Mathlib.Decide.{ℕ_discrete, dec_lt}
use lib.Dec.{T, eqb}
use Rattle.matroid.specs.Set.{Set, complement, size}
use Rattle.matroid.specs.Search.{largest}
use Rattle.matroid.specs.Matroid.{Matroid, worth}
use Rattle.matroid.specs.Division.{bundle}
use Rattle.matroid.specs.Cuts.{cuts, Cuts}
use Rattle.matroid.specs.Share.{least, worst, share}
use Rattle.matroid.proofs.Sets.{size_twice}
use Rattle.matroid.proofs.Sums.{sum_le, sum_const}
use Rattle.matroid.proofs.Searches.{any_imp, largest_most, largest_attained}
use Rattle.matroid.proofs.Rank.{worth_mono}
use Rattle.matroid.proofs.Duality.{weak_duality}
use Rattle.matroid.proofs.Listing.{Agree, cuts_sound, cuts_complete}

-- no value is less
pub least_le : (n : ℕ) (f : ℕ → ℕ) (t : ℕ) → t < n → least n f ≤ f t
least_le zero f t l = zero-le
least_le (suc zero) f t l = let e : t ≡ 0 = omega arith in let v = ap f e in omega arith
least_le (suc (suc n)) f t l = go (λ (b : t < suc n). least_le (suc n) f t b) (ℕ_discrete t (suc n))
  where
    go : (t < suc n → least (suc n) f ≤ f t) → Dec (t ≡ suc n) → min (least (suc n) f) (f (suc n)) ≤ f t
    go rest (yes e) = let v = ap f e in omega arith
    go rest (no d) = let b = rest (omega arith) in omega arith

-- and what no value is less than, it is not less than
pub least_most : (n : ℕ) (f : ℕ → ℕ) (s : ℕ) → 0 < n → ((t : ℕ) → t < n → s ≤ f t) → s ≤ least n f
least_most zero f s p h = absurd (omega arith)
least_most (suc zero) f s p h = h 0 (omega arith)
least_most (suc (suc n)) f s p h =
    let below = least_most (suc n) f s (omega arith) (λ t l. h t (omega arith)) in
    let here = h (suc n) (omega arith) in
    omega arith

-- a cut whose every part is worth s
pub record Cut {m : ℕ} (M : Matroid m) (n s : ℕ) : Type 0 where
  pub part : ℕ → ℕ
  pub below : Cuts m n part
  pub fair : (t : ℕ) → t < n → s ≤ worth M (bundle part t)

module _ {m : ℕ} (M : Matroid m) (n : ℕ) (pos : 0 < n) where
  -- some cut gives every part the share
  pub share_attained : Cut M n (share M n)
  unfolding share
  share_attained = go (dec_lt 0 (largest (worst M n) (cuts m n)))
    where
      go : Dec (0 < largest (worst M n) (cuts m n)) → Cut M n (largest (worst M n) (cuts m n))
      go (yes l) =
          let best = largest_attained (worst M n) (cuts m n) (cuts_sound m n) l in
          let e = best.2 in
          record { part = best.0; below = best.1; fair = λ t l. let b = least_le n (λ t. worth M (bundle best.0 t)) t l in omega arith }
      go (no d) = record { part = λ g. 0; below = λ g l. pos; fair = λ t l. omega arith }

  -- no cut gives every part more
  pub share_most : (s : ℕ) → Cut M n s → s ≤ share M n
  unfolding share
  share_most s c = largest_most (worst M n) s (cuts m n) (any_imp reaches (cuts m n) (cuts_complete m n c.part c.below))
    where
      reaches : (B : ℕ → ℕ) → Agree m c.part B → s ≤ worst M n B
      reaches B a = least_most n (λ t. worth M (bundle B t)) s pos (λ t l.
          let f = c.fair t l in
          let w = worth_mono M {S = bundle c.part t} {S' = bundle B t} (record { at = λ g b h. subst (λ (x : ℕ). T (eqb x t)) (sym (a g b)) h }) in
          omega arith)

  -- every set bounds the share
  pub share_bound : (K : Set) → n * share M n ≤ size m (complement K) + n * worth M K
  share_bound K =
      let c = share_attained in
      let fair = sum_le n (λ t. share M n) (λ t. worth M (bundle c.part t)) c.fair in
      let all = sum_const n (share M n) in
      let dual = weak_duality n (λ t. M) c.part K in
      let each-K = sum_const n (worth M K) in
      omega arith

  -- the same, by what is taken away
  pub share_allowed : (R : Set) → n * share M n ≤ size m R + n * worth M (complement R)
  share_allowed R = let bound = share_bound (complement R) in let twice = size_twice m R in omega arith
