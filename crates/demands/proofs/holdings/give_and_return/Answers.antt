use mathlib.Core.Path.{ap, ◌∙◌}
use Rattle.holding.specs.Give.{returned}
use Rattle.holding.proofs.Restores.{returned_gave}
use Rattle.demands.proofs.holdings.give_and_return.Goals as goal

pub returns : goal.returns
returns c = λ e. c.give_back.ensures.next ∙ ap (λ h. returned h c.args.g) c.give.ensures.next ∙ returned_gave c.args.h c.args.g c.args.t c.requires e
