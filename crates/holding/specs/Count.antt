-- Sizes and shortfall (document 02, note 7): "let the holding carry the size of each bundle and the sum over short teams of share minus size."
-- What a fresh count of the owners comes to. Instruments are the numbers below m and 64, teams those below n and 12.
use Rattle.std.specs.Prelude.{ℕ, min, ◌≡◌, cond, List, [], ◌∷◌, ltb, get_or}
use Rattle.matroid.specs.Cuts.{each}
use Rattle.matroid.specs.Shortfall.{sizes, shortfall}
use Rattle.holding.specs.declared.Holding.{Holding}

-- "the size of each bundle": of the instruments, how many team t holds
unfoldable pub size_in : (m : ℕ) (owner : List ℕ) → ℕ → ℕ
size_in m owner = sizes (min m 64) (λ g. get_or owner g 255)

-- the numbers of the teams as a table of twelve, 0 beyond the last team
unfoldable pub table : (n : ℕ) → (ℕ → ℕ) → List ℕ
table n f = each 12 (λ t. cond (ltb t n) (f t) 0 ∷ [])

-- a fresh count of the sizes
abbrev pub sizes_in : (m n : ℕ) (owner : List ℕ) → List ℕ
sizes_in m n owner = table n (size_in m owner)

-- and of "the sum over short teams of share minus size"
abbrev pub shortfall_in : (m n : ℕ) (owner shares : List ℕ) → ℕ
shortfall_in m n owner shares = shortfall (min n 12) (λ t. get_or shares t 0) (size_in m owner)

-- the holding with these owners and shares, both counted afresh
abbrev pub counted : (m n : ℕ) (owner shares : List ℕ) → Holding
counted m n owner shares = record { m = m; n = n; owner = owner; shares = shares; sizes = sizes_in m n owner; shortfall = shortfall_in m n owner shares }

-- "both are right": both are "equal to a fresh count"
pub record Right (h : Holding) : Type 0 where
  pub sizes : h.sizes ≡ sizes_in h.m h.n h.owner
  pub shortfall : h.shortfall ≡ shortfall_in h.m h.n h.owner h.shares
