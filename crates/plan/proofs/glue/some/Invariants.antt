use mathlib.Core.Path.{◌≡◌}
use Rattle.matroid.specs.Set.{size}
use Rattle.judge.specs.Fault.{named}
use Rattle.plan.proofs.glue.some.Given as goal

-- The instruments gone through that are glued are counted.
abbrev pub invariant-loop-team : goal.invariant-loop-team
invariant-loop-team l = l.count ≡ size l.team-index (named l.fn.glue)
