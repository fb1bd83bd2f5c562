-- The ways to cut the instruments into n parts, as a list.
use Rattle.std.specs.Prelude.{ℕ, zero, suc, ◌<◌, List, [], ◌∷◌, ◌++◌, map}
use Rattle.matroid.specs.Division.{move}

-- the lists of all numbers below n, one after the other
abbrev pub each : {X : Type 0} → ℕ → (ℕ → List X) → List X
each zero f = []
each (suc n) f = each n f ++ f n

-- the ways to put each number below m into one of n parts
abbrev pub cuts : ℕ → ℕ → List (ℕ → ℕ)
cuts zero n = (λ g. 0) ∷ []
cuts (suc m) n = each n (λ t. map (λ C. move C m t) (cuts m n))

-- every number below m goes to a part below n
abbrev pub Cuts : ℕ → ℕ → (ℕ → ℕ) → Type 0
Cuts m n C = (g : ℕ) → g < m → C g < n
