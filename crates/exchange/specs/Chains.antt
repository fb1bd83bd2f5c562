-- The moves that lead back from the end of a search.
use Rattle.std.specs.Prelude.{ℕ, ◌+◌, ◌≤◌, ◌<◌, ◌≡◌, ◌⊎◌, get_or}
use Rattle.holding.specs.declared.Moves.{Moves}
use Rattle.holding.specs.Chain.{item_at, team_of}
use Rattle.exchange.specs.declared.search.Trace.{Trace}

-- The first move is of the end, each next one of the parent, and each goes to the agent that the trace names; the last one has no parent,
-- or there are 64.
pub record Followed (trace : Trace) (end : ℕ) (moves : Moves) : Type 0 where
  pub top : ℕ
  pub few : top < 64
  pub count : moves.count ≡ top + 1
  pub start : item_at moves 0 ≡ end
  pub step : (k : ℕ) → k < top → (get_or trace.parent (item_at moves k) 0 < 64) × (item_at moves (k + 1) ≡ get_or trace.parent (item_at moves k) 0)
  pub to : (k : ℕ) → k ≤ top → team_of moves k ≡ get_or trace.to (item_at moves k) 0
  pub stop : (64 ≤ get_or trace.parent (item_at moves top) 0) ⊎ (top ≡ 63)
