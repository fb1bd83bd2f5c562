use mathlib.Core.Path.{◌≡◌}
use Rattle.exchange.specs.Agents.{Held}
use Rattle.engine.specs.Fill.{given}
use Rattle.engine.proofs.level.level.Given as goal

abbrev pub invariant-loop-h : goal.invariant-loop-h
invariant-loop-h l = Held l.s l.h × (l.h.shares ≡ l.initial.h.shares) × (given l.s l.h.owner ≡ given l.s l.initial.h.owner)

abbrev pub decreases-loop-h : goal.decreases-loop-h
decreases-loop-h l = l.h.shortfall
