-- What a deal comes to.
use Rattle.std.specs.Prelude.{ℕ, ◌+◌, ◌*◌, ◌≤◌, ◌<◌, List, T, get_or}
use Rattle.matroid.specs.Set.{complement, size}
use Rattle.matroid.specs.Matroid.{worth}
use Rattle.matroid.specs.Division.{bundle}
use Rattle.sets.specs.Bits.{bit}
use Rattle.kinds.specs.declared.Valuation.{Valuation}
use Rattle.kinds.specs.Valuations.{matroid_of}
use Rattle.engine.specs.declared.deal.Quota.{Quota}

-- r is at most 128, and (outside the set) + n × v(the set) forbids a share above it
pub record Allowed (m n : ℕ) (v : Valuation) (set r : ℕ) : Type 0 where
  pub small : r ≤ 128
  pub tight : size m (complement (bit set)) + n * worth (matroid_of m v) (bit set) < n * (r + 1)

-- the quota is what its set allows, and the set has instruments alone
pub record QuotaOf (m n : ℕ) (v : Valuation) (r : Quota) : Type 0 where
  pub low : (g : ℕ) → T (bit r.bound g) → g < m
  pub allowed : Allowed m n v r.bound r.share

-- the cut is into n parts
abbrev pub InParts : (m n : ℕ) → List ℕ → Type 0
InParts m n part = (g : ℕ) → g < m → get_or part g 0 < n

-- the cut is into n parts, and each is worth the share
pub record Dealt (m n : ℕ) (v : Valuation) (share : ℕ) (part : List ℕ) : Type 0 where
  pub below : (g : ℕ) → g < m → get_or part g 0 < n
  pub fair : (t : ℕ) → t < n → share ≤ worth (matroid_of m v) (bundle (λ g. get_or part g 0) t)
