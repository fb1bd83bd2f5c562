use Prim.Native.Nat.{ℕ, ◌-◌}
use mathlib.Core.Bool.{not}
use lib.Dec.{T}
use Rattle.sets.specs.Bits.{bit}
use Rattle.exchange.specs.Search.{Rooting}
use Rattle.exchange.proofs.Going.{ones, Apart, Going, Scanning}
use Rattle.exchange.proofs.search.scan.Given as goal

-- `scan` meets its contract. The invariants, whatever the sources: the search goes on, clear of targets (`Going`); of the instruments that can
-- take the place of the one that is scanned, those that are not left are reached (`Scanning`).
abbrev pub invariant-loop-x : goal.invariant-loop-x
invariant-loop-x l = (sources : ℕ) → Scanning l.s l.owner sources l.target l.initial.trace l.scanned l.todo l.g l.fresh → Scanning l.s l.owner sources l.target l.trace l.scanned l.todo l.g l.x-iterator.left

abbrev pub invariant-scan : goal.invariant-scan
invariant-scan l = Apart l.scanned l.todo × ((sources : ℕ) → Rooting l.s l.owner sources l.s.n l.initial.trace → ((x : ℕ) → T (bit l.initial.trace.seen x) → T (not (bit l.target x))) → Going l.s l.owner sources l.target l.trace l.scanned l.todo)

abbrev pub decreases-scan : goal.decreases-scan
decreases-scan l = 64 - ones l.scanned
