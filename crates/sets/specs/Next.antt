-- The members of a word's set, one after another.
use Rattle.std.specs.Prelude.{ℕ, ◌<◌, ◌≡◌, MatchOption}
use Rattle.std.specs.declared.option.Option.{Option}
use Rattle.matroid.specs.Set.{without}
use Rattle.sets.specs.Bits.{bit}
use Rattle.sets.specs.Lowest.{Lowest}

-- g is the least member of s, and t is s without it
pub record Taken (s g t : ℕ) : Type 0 where
  pub low : Lowest s g
  pub some : g < 64
  pub is : (j : ℕ) → bit t j ≡ without (bit s) g j

-- r is the least member of s, and t is s without it; or s and t are empty, and r is none
abbrev pub Next : (s : ℕ) → Option ℕ → (t : ℕ) → Type 0
Next s r t = MatchOption r (Lowest s 64 × (t ≡ s)) (λ g. Taken s g t)

-- r is the least member of s, or none where s is empty
abbrev pub First : (s : ℕ) → Option ℕ → Type 0
First s r = MatchOption r (Lowest s 64) (λ g. Lowest s g × (g < 64))
