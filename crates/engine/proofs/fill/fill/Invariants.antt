use Prim.Native.Nat.{◌-◌}
use mathlib.Core.Path.{◌≡◌}
use Rattle.exchange.specs.Agents.{Held}
use Rattle.engine.specs.Fill.{given}
use Rattle.engine.proofs.fill.fill.Given as goal

abbrev pub invariant-loop-s : goal.invariant-loop-s
invariant-loop-s l = Held l.s l.h × (l.h.shares ≡ l.initial.h.shares)

abbrev pub decreases-loop-s : goal.decreases-loop-s
decreases-loop-s l = l.s.m - given l.s l.h.owner
