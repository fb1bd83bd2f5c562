use mathlib.Core.Path.{ap, ◌∙◌}
use mathlib.Core.Bool.{Bool, ◌&&◌, not}
use Rattle.sets.specs.Bits.{bit}
use Rattle.sets.proofs.candidates.Goals as goal

pub returns : goal.returns
returns c = λ j. c.minus.ensures j ∙ ap (λ (b : Bool). b && not (bit c.args.set j)) (c.both.ensures j ∙ ap (λ (b : Bool). bit c.args.from j && b) (c.all_below.ensures j))
