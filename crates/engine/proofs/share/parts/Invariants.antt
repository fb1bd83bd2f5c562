use Rattle.engine.proofs.Sharing.{Parting}
use Rattle.engine.proofs.share.parts.Given as goal

abbrev pub invariant-loop-g : goal.invariant-loop-g
invariant-loop-g l = Parting l.fn.owner l.n l.g l.part
