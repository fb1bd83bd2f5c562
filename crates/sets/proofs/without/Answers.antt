use mathlib.Core.Bool.{Bool, ◌&&◌, not}
use mathlib.Core.Path.{ap, ◌∙◌}
use Rattle.sets.specs.Bits.{bit}
use Rattle.sets.proofs.without.Goals as goal

pub returns : goal.returns
returns c = λ j. c.minus.ensures j ∙ ap (λ (b : Bool). bit c.args.s j && not b) (c.only.ensures j)
