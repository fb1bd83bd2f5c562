-- The best total: the largest sum of worths over all divisions.
use Rattle.std.specs.Prelude.{ℕ, suc}
use Rattle.matroid.specs.Search.{largest}
use Rattle.matroid.specs.Matroid.{Matroid}
use Rattle.matroid.specs.Division.{total}
use Rattle.matroid.specs.Cuts.{cuts}

-- the largest total over all divisions: a division is a cut into the bundles of n teams and the pool, which is part n
unfoldable pub best : {m : ℕ} → ℕ → (ℕ → Matroid m) → ℕ
best {m} n M = largest (total n M) (cuts m (suc n))
