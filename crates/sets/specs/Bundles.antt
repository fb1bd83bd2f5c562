-- What each of twelve holds, as words: bit j stands for instrument j.
use Rattle.std.specs.Prelude.{ℕ, ◌<◌, ◌≡◌, ◌&&◌, List, eqb, ltb, length, get_or}
use Rattle.sets.specs.Bits.{bit}

-- word t holds the instruments below m that D gives to t
pub record Bundles (m : ℕ) (D : ℕ → ℕ) (words : List ℕ) : Type 0 where
  pub long : length words ≡ 12
  pub at : (t : ℕ) → t < 12 → (j : ℕ) → bit (get_or words t 0) j ≡ (ltb j m && eqb (D j) t)
