use Rattle.sets.proofs.Choosing.{chosen_holds}
use borrow.Author.Rules.{rules}
use Rattle.caps.specs.Counts.{HasRoom}
use Rattle.caps.proofs.with_room.Goals as goal

pub returns : goal.returns
returns c = record { at = chosen_holds _ (HasRoom c.args.class.now c.args.cap.now c.args.counts.now) _ _ c.those.ensures (λ i b l k. search rules) }
