-- What levelling comes to.
use Rattle.std.specs.Prelude.{ℕ, ◌+◌, ◌*◌, ◌≤◌, ◌<◌, ◌≡◌, not, ◌↔◌, List, T, get_or, Option, MatchOption}
use Rattle.matroid.specs.Set.{Set, complement, size}
use Rattle.matroid.specs.Matroid.{worth}
use Rattle.matroid.specs.Division.{bundle}
use Rattle.sets.specs.Bits.{bit}
use Rattle.holding.specs.declared.Holding.{Holding}
use Rattle.exchange.specs.declared.Agents.{Agents}
use Rattle.exchange.specs.Agents.{agent_matroid, holder, Held}
use Rattle.engine.specs.Fill.{given, Full}

-- i is the lowest agent below n whose size is smaller than its share
pub record LowestShort (sizes shares : List ℕ) (n i : ℕ) : Type 0 where
  pub below : i < n
  pub before : (t : ℕ) → t < i → get_or shares t 0 ≤ get_or sizes t 0
  pub short : get_or sizes i 0 < get_or shares i 0

-- r is the lowest agent below n whose size is smaller than its share, or none where no size is
abbrev pub FirstShort : (sizes shares : List ℕ) (n : ℕ) → Option ℕ → Type 0
FirstShort sizes shares n r = MatchOption r ((t : ℕ) → t < n → get_or shares t 0 ≤ get_or sizes t 0) (LowestShort sizes shares n)

-- r holds the words of the agents below n whose sizes are larger than their shares
pub record Above (sizes shares bundles : List ℕ) (n r : ℕ) : Type 0 where
  pub at : (j : ℕ) → T (bit r j) ↔ ((t : ℕ) × (t < n) × ((get_or shares t 0 < get_or sizes t 0) × T (bit (get_or bundles t 0) j)))

-- to an agent that is away every set is worth nothing
pub record Away (s : Agents) (present : Set) : Type 0 where
  pub idle : (t : ℕ) → t < s.n → T (not (present t)) → (S : Set) → worth (agent_matroid s t) S ≡ 0

-- A holding of greatest total, measured against shares that every set allows: with p agents present, p × share is at most (members of R) +
-- p × v(outside R). The share of an agent that is away is 0.
pub record Levellable (s : Agents) (h : Holding) : Type 0 where
  pub bound : ℕ
  pub full : Full s h bound
  pub present : Set
  pub away : Away s present
  pub none : (t : ℕ) → t < s.n → T (not (present t)) → get_or h.shares t 0 ≡ 0
  pub allowed : (t : ℕ) → t < s.n → T (present t) → (R : Set) → size s.n present * get_or h.shares t 0 ≤ size s.m R + size s.n present * worth (agent_matroid s t) (complement R)

-- every bundle is independent, as many are given as before, and every agent has its share
pub record Levelled (s : Agents) (before h : Holding) : Type 0 where
  pub held : Held s h
  pub same : given s h.owner ≡ given s before.owner
  pub reached : (t : ℕ) → t < s.n → get_or before.shares t 0 ≤ size s.m (bundle (holder h.owner) t)
