-- What computing a share comes to.
use Rattle.std.specs.Prelude.{ℕ, ◌+◌, ◌*◌, ◌≤◌, ◌<◌, ◌≡◌, List, T, get_or}
use Rattle.matroid.specs.Set.{complement, size}
use Rattle.matroid.specs.Matroid.{worth}
use Rattle.matroid.specs.Division.{bundle}
use Rattle.matroid.specs.Share.{share}
use Rattle.sets.specs.Bits.{bit}
use Rattle.kinds.specs.declared.Valuation.{Valuation}
use Rattle.kinds.specs.Valuations.{matroid_of}
use Rattle.engine.specs.declared.share.Shared.{Shared}

-- below k, part g is the owner of g where that is an agent, and 0 elsewhere
pub record Parted (owner : List ℕ) (n k : ℕ) (r : List ℕ) : Type 0 where
  pub agent : (g : ℕ) → g < k → get_or owner g 0 < n → get_or r g 0 ≡ get_or owner g 0
  pub pool : (g : ℕ) → g < k → n ≤ get_or owner g 0 → get_or r g 0 ≡ 0

-- The share is the maximin share; the cut gives each of n parts at least it; (outside the set) + n × v(the set) forbids more.
pub record ShareOf (m n : ℕ) (v : Valuation) (r : Shared) : Type 0 where
  pub is : r.share ≡ share (matroid_of m v) n
  pub low : (g : ℕ) → T (bit r.bound g) → g < m
  pub below : (g : ℕ) → g < m → get_or r.part g 0 < n
  pub fair : (t : ℕ) → t < n → r.share ≤ worth (matroid_of m v) (bundle (λ g. get_or r.part g 0) t)
  pub tight : size m (complement (bit r.bound)) + n * worth (matroid_of m v) (bit r.bound) < n * (r.share + 1)
