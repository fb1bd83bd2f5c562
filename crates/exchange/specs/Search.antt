-- What the functions of the search promise.
use Rattle.std.specs.Prelude.{ℕ, ◌<◌, ◌≡◌, not, ◌↔◌, List, T, get_or, set, Option, Some, None}
use Rattle.matroid.specs.Set.{◌∖◌, with}
use Rattle.matroid.specs.Exchange.{Swaps}
use Rattle.matroid.specs.Closure.{Closed, GainsWithin}
use Rattle.matroid.specs.Breadth.{Labels, Rooted, Traced}
use Rattle.sets.specs.Bits.{bit}
use Rattle.kinds.specs.declared.Valuation.{Valuation}
use Rattle.kinds.specs.Valuations.{matroid_of}
use Rattle.exchange.specs.declared.Agents.{Agents}
use Rattle.exchange.specs.declared.search.Reached.{Reached}
use Rattle.exchange.specs.declared.search.Trace.{Trace}
use Rattle.exchange.specs.Agents.{agent_matroid, holder}

-- what the source agents below k can gain is seen, with an agent that can gain it and no parent
pub record Rooting (s : Agents) (owner : List ℕ) (sources k : ℕ) (r : Trace) : Type 0 where
  pub rooted : Rooted s.n (agent_matroid s) (holder owner) (bit sources) k (bit r.seen) (λ x. get_or r.to x 0)
  pub apart : (x : ℕ) → x < 64 → get_or r.parent x 0 ≡ 255

-- x is reached from g, and agent t gets it
pub record Marked (before : Trace) (x g t : ℕ) (r : Trace) : Type 0 where
  pub seen : (k : ℕ) → bit r.seen k ≡ with (bit before.seen) x k
  pub parent : r.parent ≡ set before.parent x g
  pub to : r.to ≡ set before.to x t

-- the search ends at an instrument, or with nothing more to reach
abbrev pub ended_at : Trace → Option ℕ → Reached
ended_at trace end = record { end = end; trace = trace }

-- for an independent bundle with g: the numbers below m, not seen, that can take the place of g
pub record Exchanges (m : ℕ) (v : Valuation) (bundle g seen r : ℕ) : Type 0 where
  pub at : (matroid_of m v).Indep (bit bundle) → (x : ℕ) → T (bit r x) ↔ ((x < m) × T (not (bit seen x)) × Swaps (matroid_of m v) (bit bundle) g x)

-- r is what is left of a level or, where nothing is left, all that was reached and is not scanned
pub data Rest (todo seen scanned r : ℕ) : Type 0 where
  here : (k : ℕ) → k < 64 → T (bit todo k) → r ≡ todo → Rest todo seen scanned r
  onward : ((k : ℕ) → k < 64 → T (not (bit todo k))) → ((k : ℕ) → bit r k ≡ (bit seen ∖ bit scanned) k) → Rest todo seen scanned r

-- the labels of a trace, at these levels
abbrev pub labels_of : (ℕ → ℕ) → Trace → Labels
labels_of level r = record { level = level; parent = λ x. get_or r.parent x 0; to = λ x. get_or r.to x 0 }

-- The search was stopped with these labels; what is at level 0 has no parent.
pub record Labelling (s : Agents) (owner : List ℕ) (sources : ℕ) (r : Trace) : Type 0 where
  pub level : ℕ → ℕ
  pub traced : Traced s.n (agent_matroid s) (holder owner) (bit sources) (bit r.seen) (labels_of level r)
  pub roots : (x : ℕ) → T (bit r.seen x) → level x ≡ 0 → get_or r.parent x 0 ≡ 255

-- Found: the end is a target that was reached. Not found: what was reached is closed under exchanges, has all that a source can gain,
-- and no target.
pub record Outcome (s : Agents) (owner : List ℕ) (sources target : ℕ) (r : Reached) : Type 0 where
  pub found : (end : ℕ) → r.end ≡ Some end → Labelling s owner sources r.trace × T (bit r.trace.seen end) × T (bit target end)
  pub closed : r.end ≡ None → Closed s.n (agent_matroid s) (holder owner) (bit r.trace.seen)
  pub gains : r.end ≡ None → (t : ℕ) → t < s.n → T (bit sources t) → GainsWithin s.n (agent_matroid s) (holder owner) (bit r.trace.seen) t
  pub below : r.end ≡ None → (g : ℕ) → T (bit r.trace.seen g) → g < s.m
  pub clear : r.end ≡ None → (g : ℕ) → T (bit r.trace.seen g) → T (not (bit target g))

-- A scan from the trace of what any sources can gain, clear of targets, ends as the search from these sources does.
pub record Scanned (s : Agents) (owner : List ℕ) (target : ℕ) (start : Trace) (r : Reached) : Type 0 where
  pub at : (sources : ℕ) → Rooting s owner sources s.n start → ((x : ℕ) → T (bit start.seen x) → T (not (bit target x))) → Outcome s owner sources target r
