use Rattle.holding.specs.Count.{Right}
use Rattle.stepping.proofs.steps.answer.Given as goal

abbrev pub invariant-loop-k : goal.invariant-loop-k
invariant-loop-k g l =
    (goal.iterator-loop-k g).can_next l.k-iterator
    × (goal.iterator-loop-k g).is_finite l.k-iterator
    × Right l.h
