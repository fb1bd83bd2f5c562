-- The shortfall (document 02, note 7): how many the agents lack in all to the shares they are measured against.
use Rattle.std.specs.Prelude.{ℕ, ◌-◌, cond, ltb}
use Rattle.matroid.specs.Set.{size}
use Rattle.matroid.specs.Sum.{sum}
use Rattle.matroid.specs.Division.{bundle}

-- how many of the instruments below m each holds
abbrev pub sizes : (m : ℕ) → (D : ℕ → ℕ) → ℕ → ℕ
sizes m D t = size m (bundle D t)

-- "A short team is one that holds less than its share" (document 01): what a short one lacks, and 0 of any other
unfoldable pub lack : (share size : ℕ) → ℕ
lack share size = cond (ltb size share) (share - size) 0

-- "the sum over short teams of share minus size": of the agents below n, with the shares σ, that hold f
unfoldable pub shortfall : (n : ℕ) → (σ f : ℕ → ℕ) → ℕ
shortfall n σ f = sum n (λ t. lack (σ t) (f t))
