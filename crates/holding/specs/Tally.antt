-- One more or one fewer with a team, as numbers: the words of the functions that keep sizes and shortfall.
use Rattle.std.specs.Prelude.{ℕ, ◌+◌, ◌-◌, cond, List, ltb, get_or, set}
use Rattle.matroid.specs.Set.{one}
use Rattle.holding.specs.declared.Holding.{Holding}
use Rattle.holding.specs.declared.Tally.{Tally}

-- the size and the share of team t
abbrev pub size_at : Tally → ℕ → ℕ
size_at x t = get_or x.sizes t 0

abbrev pub share_at : Tally → ℕ → ℕ
share_at x t = get_or x.shares t 0

-- the counts of a holding
abbrev pub tally_of : Holding → Tally
tally_of h = record { shares = h.shares; sizes = h.sizes; shortfall = h.shortfall }

-- the holding with other owners and counts
abbrev pub next_by : Holding → List ℕ → Tally → Holding
next_by h owner x = record { m = h.m; n = h.n; owner = owner; shares = x.shares; sizes = x.sizes; shortfall = x.shortfall }

-- one more with team t
unfoldable pub raised_at : Tally → (t : ℕ) → Tally
raised_at x t = record { shares = x.shares; sizes = set x.sizes t (size_at x t + 1); shortfall = x.shortfall - one (ltb (size_at x t) (share_at x t)) }

-- one fewer with team t
unfoldable pub lowered_at : Tally → (t : ℕ) → Tally
lowered_at x t = record { shares = x.shares; sizes = set x.sizes t (size_at x t - 1); shortfall = x.shortfall + one (ltb (size_at x t - 1) (share_at x t)) }

-- one fewer where an instrument comes from, one of the teams below last or the pool, and one more with team t
unfoldable pub passed_on : Tally → (last from t : ℕ) → Tally
passed_on x last from t = raised_at (cond (ltb from last) (lowered_at x from) x) t
