-- What filling the agents comes to.
use Rattle.std.specs.Prelude.{ℕ, ◌+◌, ◌≤◌, ◌<◌, ◌≡◌, List, T, length}
use Rattle.matroid.specs.Set.{complement, size}
use Rattle.matroid.specs.Sum.{sum}
use Rattle.matroid.specs.Matroid.{worth}
use Rattle.matroid.specs.Division.{bundle}
use Rattle.sets.specs.Bits.{bit}
use Rattle.holding.specs.declared.Holding.{Holding}
use Rattle.exchange.specs.declared.Agents.{Agents}
use Rattle.exchange.specs.Agents.{agent_matroid, holder, Held}

-- at most 64 instruments and 1 to 12 agents
pub record ValidAgents (s : Agents) : Type 0 where
  pub small : s.m ≤ 64
  pub some : 1 ≤ s.n
  pub few : s.n ≤ 12
  pub valuations_long : length s.valuations ≡ 12

-- how many instruments the agents hold
unfoldable pub given : Agents → List ℕ → ℕ
given s owner = sum s.n (λ t. size s.m (bundle (holder owner) t))

-- a set is worth nothing to every agent
pub record Worthless (s : Agents) (set : ℕ) : Type 0 where
  pub at : (t : ℕ) → t < s.n → worth (agent_matroid s t) (bit set) ≡ 0

-- Every bundle is independent, and the agents hold as many as the set K allows: (instruments outside K) + sum of v(K). So no division has a
-- larger total.
pub record Full (s : Agents) (h : Holding) (k : ℕ) : Type 0 where
  pub held : Held s h
  pub low : (g : ℕ) → T (bit k g) → g < s.m
  pub full : given s h.owner ≡ size s.m (complement (bit k)) + sum s.n (λ t. worth (agent_matroid s t) (bit k))
