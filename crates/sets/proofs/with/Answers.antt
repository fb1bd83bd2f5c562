use mathlib.Core.Bool.{Bool, ◌||◌}
use mathlib.Core.Path.{ap, ◌∙◌}
use Rattle.sets.specs.Bits.{bit}
use Rattle.sets.proofs.with.Goals as goal

pub returns : goal.returns
returns c = λ j. c.either.ensures j ∙ ap (λ (b : Bool). bit c.args.s j || b) (c.only.ensures j)
