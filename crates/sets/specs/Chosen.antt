-- The numbers that a test picks, as a word.
use Rattle.std.specs.Prelude.{ℕ, ◌≤◌, ◌<◌, Bool, not, T}
use Rattle.sets.specs.Bits.{bit}

-- r holds a number below m exactly where the test has answered so, and none from m on
pub record Chosen (m : ℕ) (answers : ℕ → Bool → Type 0) (r : ℕ) : Type 0 where
  pub at : (i : ℕ) → i < m → answers i (bit r i)
  pub rest : (i : ℕ) → m ≤ i → T (not (bit r i))
