use mathlib.Core.Path.{refl, sym, ◌∙◌}
use native.Mathlib.Omega.{arith}
use Rattle.row.specs.Row.{part, row_team}
use Rattle.plan.specs.Progress.{row_at}
use Rattle.plan.proofs.Steps.{plan_none}
use Rattle.plan.proofs.read.Goals as goal

pub returns-then-byte_at-ne1 : goal.returns-then-byte_at-ne1
returns-then-byte_at-ne1 c = c.refuse.ensures ∙ sym (plan_none _ (λ e. c.if-byte_at-ne1.true (c.byte_at.ensures ∙ e)))

pub read_commands-requires : goal.read_commands-requires
unfolding row_at row_team part
read_commands-requires c = (omega arith, refl, refl, refl)
