-- The agents of the engine and what they hold: matroids known through worth, what may join a set, and the two laws alone.
use Rattle.std.specs.Prelude.{ℕ, ◌≤◌, ◌<◌, ◌≡◌, List, ◌⊎◌, length, get_or}
use Rattle.matroid.specs.Matroid.{Matroid}
use Rattle.matroid.specs.Exchange.{Sound}
use Rattle.sets.specs.Bundles.{Bundles}
use Rattle.holding.specs.declared.Holding.{Holding}
use Rattle.holding.specs.Count.{Right}
use Rattle.kinds.specs.Valuations.{matroids}
use Rattle.exchange.specs.declared.Agents.{Agents}

-- the matroid of each agent, by its valuation
abbrev pub agent_matroid : (s : Agents) → ℕ → Matroid s.m
agent_matroid s = matroids s.m s.valuations

-- who holds each instrument, by the table of owners; 255 is the pool
abbrev pub holder : List ℕ → ℕ → ℕ
holder owner g = get_or owner g 255

-- the agents and the owners fit, every bundle is independent, and the words hold the bundles
pub record Ready (s : Agents) (owner bundles : List ℕ) : Type 0 where
  pub small : s.m ≤ 64
  pub few : s.n ≤ 12
  pub valuations_long : length s.valuations ≡ 12
  pub owner_long : length owner ≡ 64
  pub sound : Sound s.n (agent_matroid s) (holder owner)
  pub words : Bundles s.m (holder owner) bundles

-- A holding of the agents: every instrument is with an agent or in the pool, every bundle is independent, and sizes and shortfall are right.
pub record Held (s : Agents) (h : Holding) : Type 0 where
  pub m : h.m ≡ s.m
  pub n : h.n ≡ s.n
  pub small : s.m ≤ 64
  pub few : s.n ≤ 12
  pub valuations_long : length s.valuations ≡ 12
  pub owner_long : length h.owner ≡ 64
  pub placed : (g : ℕ) → (holder h.owner g ≡ 255) ⊎ (holder h.owner g < s.n)
  pub sound : Sound s.n (agent_matroid s) (holder h.owner)
  pub right : Right h
