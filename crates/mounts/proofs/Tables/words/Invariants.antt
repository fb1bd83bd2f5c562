use Rattle.mounts.proofs.Wording.{Wording}
use Rattle.mounts.proofs.Tables.words.Given as goal

abbrev pub invariant-loop-g : goal.invariant-loop-g
invariant-loop-g l = Wording l.self.named l.self.first l.self.second l.self.third l.self.fourth l.of l.words l.g-iterator.left
