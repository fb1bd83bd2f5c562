-- What the agents hold between two turns of the greedy start.
use Rattle.std.specs.Prelude.{ℕ, ◌<◌, ◌≡◌, ◌&&◌, not, ◌⊎◌, List, ltb}
use Rattle.sets.specs.Bits.{bit}
use Rattle.exchange.specs.declared.Agents.{Agents}
use Rattle.exchange.specs.Agents.{holder, Ready}

-- every bundle is independent, every instrument is with an agent or in the pool, and the words are those of the table of owners
pub record Offered (s : Agents) (owner bundles : List ℕ) (pool : ℕ) : Type 0 where
  pub ready : Ready s owner bundles
  pub placed : (g : ℕ) → (holder owner g ≡ 255) ⊎ (holder owner g < s.n)
  pub unheld : (j : ℕ) → bit pool j ≡ (ltb j s.m && not (ltb (holder owner j) s.n))
