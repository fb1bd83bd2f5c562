-- The functions that keep the counts, as numbers.
use Prim.Native.Nat.{ℕ, ◌+◌, ◌-◌, ◌≤◌, ◌<◌}
use mathlib.Core.Path.{◌≡◌, refl, ap}
use native.Mathlib.Omega.{arith}
use native.Mathlib.Numerals.{add-one}
use native.Mathlib.Decide.{dec_lt}
use lib.ListN.{set}
use borrow.Author.Tests.{lt-ltb, le-ltb}
use Rattle.matroid.specs.Shortfall.{lack, shortfall}
use Rattle.holding.specs.declared.Tally.{Tally}
use Rattle.holding.specs.Tally.{size_at, share_at, raised_at, lowered_at}

-- the counts with another shortfall
abbrev lacking : Tally → ℕ → Tally
lacking x short = record { shares = x.shares; sizes = x.sizes; shortfall = short }

-- the counts with another size of team t
abbrev sized : Tally → (t size : ℕ) → Tally
sized x t size = record { shares = x.shares; sizes = set x.sizes t size; shortfall = x.shortfall }

-- y is x, with the shortfall that the test leaves
module _ (x y : Tally) (t : ℕ) where
  pub raised_short : y ≡ lacking x (x.shortfall - 1) → size_at x t < share_at x t → sized y t (size_at x t + 1) ≡ raised_at x t
  unfolding raised_at
  raised_short is l = rw (is, lt-ltb (size_at x t) (share_at x t) l) refl

  pub raised_full : y ≡ x → share_at x t ≤ size_at x t → sized y t (size_at x t + 1) ≡ raised_at x t
  unfolding raised_at
  raised_full is l = rw (is, le-ltb (size_at x t) (share_at x t) l) (ap (λ (short : ℕ). sized (lacking x short) t (size_at x t + 1)) (omega arith))

  pub lowered_short : y ≡ lacking x (x.shortfall + 1) → size_at x t - 1 < share_at x t → sized y t (size_at x t - 1) ≡ lowered_at x t
  unfolding lowered_at
  lowered_short is l = rw (is, lt-ltb (size_at x t - 1) (share_at x t) l) refl

  pub lowered_full : y ≡ x → share_at x t ≤ size_at x t - 1 → sized y t (size_at x t - 1) ≡ lowered_at x t
  unfolding lowered_at
  lowered_full is l = rw (is, le-ltb (size_at x t - 1) (share_at x t) l) (ap (λ (short : ℕ). sized (lacking x short) t (size_at x t - 1)) (omega arith))

-- ---- the loop of `shortfall_of`

-- nobody lacks anything before the first team
pub lacks_none : (σ f : ℕ → ℕ) → 0 ≡ shortfall 0 σ f
unfolding shortfall
lacks_none σ f = refl

-- the next team lacks its share less its size, or nothing
pub lacks_more : (σ f : ℕ → ℕ) (t sum lacks : ℕ) → sum ≡ shortfall t σ f → lacks ≡ σ t - f t → sum + lacks ≡ shortfall (t + 1) σ f
unfolding shortfall lack
lacks_more σ f t sum lacks is e = rw (add-one t, is, e) (elim (dec_lt (f t) (σ t)) [
  | yes l ↦ rw (lt-ltb (f t) (σ t) l) refl
  | no d ↦ rw (le-ltb (f t) (σ t) (omega arith)) (omega arith)
])
