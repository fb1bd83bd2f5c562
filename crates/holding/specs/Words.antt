-- The pool as a word: bit j stands for instrument j.
use Rattle.std.specs.Prelude.{ℕ, ◌≡◌, ◌&&◌}
use Rattle.sets.specs.Bits.{bit}
use Rattle.holding.specs.declared.Holding.{Holding}
use Rattle.holding.specs.Give.{is_instrument, in_pool}

-- r holds the instruments in the pool
pub record Pool (h : Holding) (r : ℕ) : Type 0 where
  pub at : (j : ℕ) → bit r j ≡ (is_instrument h j && in_pool h j)
