use mathlib.Core.Path.{sym, ◌∙◌}
use Rattle.caps.proofs.Joining.{caps_sum}
use Rattle.caps.proofs.worth.Goals as goal

pub returns : goal.returns
returns c = c.capped_sum.ensures ∙ sym (caps_sum _ _ _ _ _ c.class_counts.ensures)
