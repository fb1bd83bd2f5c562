-- What may join an independent set, and an independent set made larger, as words.
use Rattle.std.specs.Prelude.{ℕ, ◌+◌, ◌≤◌, ◌<◌, ◌⊎◌, ◌↔◌, T}
use Rattle.matroid.specs.Set.{Set, size}
use Rattle.matroid.specs.Matroid.{Matroid}
use Rattle.matroid.specs.Exchange.{Fits}
use Rattle.sets.specs.Bits.{bit}

-- r holds exactly the instruments below m, outside A, that keep A independent
pub record MayJoin {m : ℕ} (M : Matroid m) (A : Set) (r : ℕ) : Type 0 where
  pub at : (j : ℕ) → T (bit r j) ↔ ((j < m) × Fits M A j)

-- r has the members of a set and, besides, only members of another, at most so many below m; it is independent where the set is
pub record Grown {m : ℕ} (M : Matroid m) (set from most r : ℕ) : Type 0 where
  pub indep : M.Indep (bit set) → M.Indep (bit r)
  pub old : (j : ℕ) → T (bit set j) → T (bit r j)
  pub new : (j : ℕ) → T (bit r j) → T (bit set j) ⊎ T (bit from j)
  pub few : size m (bit r) ≤ size m (bit set) + most
