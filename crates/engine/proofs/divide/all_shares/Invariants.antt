use Rattle.sets.specs.Bits.{bit}
use Rattle.engine.proofs.Dividing.{Sharing}
use Rattle.engine.proofs.divide.all_shares.Given as goal

abbrev pub invariant-loop-t : goal.invariant-loop-t
invariant-loop-t l = Sharing l.fn.s (bit l.here) l.t l.shares
