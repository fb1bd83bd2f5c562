-- A table whose first entries a function gives.
use Rattle.std.specs.Prelude.{ℕ, ◌≤◌, ◌<◌, ◌≡◌, List, length, get_or}

-- r has w entries, of which the first n are as the function gives them and the others are alike
pub record Entries {X : Type 0} (w n : ℕ) (none : X) (gives : ℕ → X → Type 0) (r : List X) : Type 0 where
  pub long : length r ≡ w
  pub given : (i : ℕ) (d : X) → i < n → gives i (get_or r i d)
  pub rest : (i : ℕ) (d : X) → n ≤ i → i < w → get_or r i d ≡ none
