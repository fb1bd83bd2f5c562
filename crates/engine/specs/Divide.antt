-- What dividing comes to.
use Rattle.std.specs.Prelude.{ℕ, ◌≤◌, ◌<◌, ◌≡◌, not, List, [], T, length, get_or, replicate}
use Rattle.matroid.specs.Set.{Set, size}
use Rattle.matroid.specs.Division.{bundle}
use Rattle.kinds.specs.Valuations.{blank_valuation}
use Rattle.exchange.specs.declared.Agents.{Agents}
use Rattle.engine.specs.declared.divide.Division.{Division}
use Rattle.engine.specs.declared.share.Shared.{Shared}
use Rattle.exchange.specs.Agents.{holder}
use Rattle.engine.specs.Fill.{Full}
use Rattle.engine.specs.Share.{ShareOf}

-- what stands past the end of a table of shares
abbrev pub no_share : Shared
no_share = record { share = 0; bound = 0; part = [] }

-- what is written of an agent that is away
abbrev pub nothing : Shared
nothing = record { share = 0; bound = 0; part = replicate 64 0 }

-- The shares of the agents below k: of one that is present its share among those present, and nothing of one that is away.
pub record AllShares (s : Agents) (present : Set) (k : ℕ) (r : List Shared) : Type 0 where
  pub long : length r ≡ 12
  pub at : (t : ℕ) → t < k → T (present t) → ShareOf s.m (size s.n present) (get_or s.valuations t blank_valuation) (get_or r t no_share)
  pub away : (t : ℕ) → t < k → T (not (present t)) → get_or r t no_share ≡ nothing

-- the shares below k as numbers
pub record Targets (shares : List Shared) (k : ℕ) (r : List ℕ) : Type 0 where
  pub long : length r ≡ 12
  pub at : (t : ℕ) → t < k → get_or r t 0 ≡ (get_or shares t no_share).share

-- every bundle is independent, the total is greatest by the bound, each share is the agent's share, and no agent holds less
pub record Divided (s : Agents) (present : Set) (r : Division) : Type 0 where
  pub full : Full s r.holding r.bound
  pub shares : AllShares s present s.n r.shares
  pub reached : (t : ℕ) → t < s.n → (get_or r.shares t no_share).share ≤ size s.m (bundle (holder r.holding.owner) t)
