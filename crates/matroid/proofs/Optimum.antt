-- No division has a larger total than the best, and some division has it.
use Prim.Native.Nat.{ℕ, suc, ◌≤◌, ◌<◌, min}
use mathlib.Core.Path.{◌≡◌}
use native.Mathlib.Omega.{arith}
use native.Mathlib.Decide.{dec_lt}
use lib.Dec.{eqb→eq}
use Rattle.matroid.specs.SetLaws.{eq→eqb}
use Rattle.matroid.specs.Search.{largest}
use Rattle.matroid.specs.Matroid.{Matroid, worth}
use Rattle.matroid.specs.Division.{bundle, total}
use Rattle.matroid.specs.Cuts.{cuts}
use Rattle.matroid.specs.Best.{best}
use Rattle.matroid.proofs.Sums.{sum_le}
use Rattle.matroid.proofs.Searches.{any_imp, largest_most, largest_attained}
use Rattle.matroid.proofs.Rank.{worth_mono}
use Rattle.matroid.proofs.Listing.{Agree, cuts_sound, cuts_complete}

-- a division of total s
pub record Attained {m : ℕ} (n : ℕ) (M : ℕ → Matroid m) (s : ℕ) : Type 0 where
  pub holder : ℕ → ℕ
  pub full : total n M holder ≡ s

module _ {m : ℕ} (n : ℕ) (M : ℕ → Matroid m) where
  -- a team that holds nothing less in one division than in another finds its bundle worth no less
  bundle_le : (D E : ℕ → ℕ) → ((g t : ℕ) → g < m → t < n → D g ≡ t → E g ≡ t) → total n M D ≤ total n M E
  bundle_le D E h = sum_le n (λ t. worth (M t) (bundle D t)) (λ t. worth (M t) (bundle E t))
      (λ t l. worth_mono (M t) {S = bundle D t} {S' = bundle E t} (record { at = λ g b e. eq→eqb (E g) t (h g t b l (eqb→eq (D g) t e)) }))

  -- D with one name for the pool
  abbrev pooled : (ℕ → ℕ) → ℕ → ℕ
  pooled D g = min (D g) n

  -- no division has a larger total
  pub best_most : (D : ℕ → ℕ) → total n M D ≤ best n M
  unfolding best
  best_most D = largest_most (total n M) (total n M D) (cuts m (suc n)) (any_imp reaches (cuts m (suc n)) (cuts_complete m (suc n) (pooled D) (λ g l. omega arith)))
    where
      reaches : (B : ℕ → ℕ) → Agree m (pooled D) B → total n M D ≤ total n M B
      reaches B a = bundle_le D B (λ g t b l e. let same = a g b in omega arith)

  -- and some division has it
  pub best_attained : Attained n M (best n M)
  unfolding best
  best_attained = go (dec_lt 0 (largest (total n M) (cuts m (suc n))))
    where
      go : Dec (0 < largest (total n M) (cuts m (suc n))) → Attained n M (largest (total n M) (cuts m (suc n)))
      go (yes l) = let x = largest_attained (total n M) (cuts m (suc n)) (cuts_sound m (suc n)) l in record { holder = x.0; full = x.2 }
      go (no d) = record { holder = λ g. n; full = omega (arith, best_most (λ g. n)) }
