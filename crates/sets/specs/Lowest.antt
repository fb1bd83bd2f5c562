-- The least member of a word's set.
use Rattle.std.specs.Prelude.{ℕ, ◌≤◌, ◌<◌, not, T}
use Rattle.sets.specs.Bits.{bit}

-- r is the least member of s, or 64 where s is empty
pub record Lowest (s r : ℕ) : Type 0 where
  pub top : r ≤ 64
  pub least : (k : ℕ) → k < r → T (not (bit s k))
  pub member : r < 64 → T (bit s r)
