-- A table with one value at each member of a set.
use Rattle.std.specs.Prelude.{ℕ, ◌<◌, ◌≡◌, not, List, T, length, get_or}
use Rattle.sets.specs.Bits.{bit}

-- r has the value at each member of the set, and elsewhere what the table had, whatever stands past the end
pub record Assigned (table : List ℕ) (set value : ℕ) (r : List ℕ) : Type 0 where
  pub long : length r ≡ length table
  pub new : (k d : ℕ) → k < 64 → T (bit set k) → get_or r k d ≡ value
  pub old : (k d : ℕ) → T (not (bit set k)) → get_or r k d ≡ get_or table k d
