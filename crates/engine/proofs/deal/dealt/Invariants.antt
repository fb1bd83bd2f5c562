use Rattle.engine.proofs.Dealing.{Dealing}
use Rattle.engine.proofs.deal.dealt.Given as goal

abbrev pub invariant-loop-p : goal.invariant-loop-p
invariant-loop-p l = Dealing l.m l.n l.v l.share l.p l.left l.part
