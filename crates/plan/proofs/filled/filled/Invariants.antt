use Rattle.plan.specs.Entries.{Entries}
use Rattle.plan.proofs.filled.filled.Given as goal

-- The entries below i are as the function gives them.
abbrev pub invariant-loop-i : goal.invariant-loop-i
invariant-loop-i g l = Entries l.n l.i l.fn.rest (goal.F-post g l.entry) l.place-items
