use mathlib.Core.Path.{◌≡◌}
use Rattle.kinds.specs.Valuations.{blank_valuation}
use Rattle.plan.specs.Entries.{Entries}
use Rattle.plan.specs.Teams.{valuation_of}
use Rattle.plan.proofs.valuations_of.Given as goal

-- The valuations of the teams below t are written.
abbrev pub invariant-loop-t : goal.invariant-loop-t
invariant-loop-t l = Entries l.r.n l.t blank_valuation (λ t v. v ≡ valuation_of l.r t) l.place-items
