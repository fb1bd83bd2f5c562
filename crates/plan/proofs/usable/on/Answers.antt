use mathlib.Core.Path.{sym, ap, ◌∙◌}
use Rattle.sets.specs.Bits.{word}
use Rattle.days.specs.declared.Days.{Days}
use Rattle.days.specs.Days.{usable_on}
use Rattle.days.proofs.Holding.{undated}
use Rattle.plan.proofs.usable.on.Goals as goal

pub returns-else-dated : goal.returns-else-dated
returns-else-dated c = c.requires.1 ∙ ap (λ (x : Days). word c.args.m (usable_on c.args.shelf x)) (sym (undated c.args.own (sym c.dated.ensures ∙ c.if-dated.false)))
