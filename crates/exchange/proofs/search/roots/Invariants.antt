use Prim.Native.Nat.{ℕ}
use mathlib.Core.Path.{◌≡◌}
use mathlib.Core.List.{List}
use lib.ListN.{length, get_or}
use Rattle.matroid.specs.Breadth.{Rooted}
use Rattle.sets.specs.Bits.{bit}
use Rattle.exchange.specs.Agents.{agent_matroid, holder, Ready}
use Rattle.exchange.proofs.search.roots.Given as goal

abbrev pub invariant-loop-t : goal.invariant-loop-t
invariant-loop-t l = (length l.to ≡ 64) × ((owner : List ℕ) → Ready l.fn.s owner l.bundles → Rooted l.fn.s.n (agent_matroid l.fn.s) (holder owner) (bit l.sources) l.t (bit l.seen) (λ x. get_or l.to x 0))
