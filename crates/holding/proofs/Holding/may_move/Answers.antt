use mathlib.Core.Path.{sym, ◌∙◌}
use Rattle.holding.specs.Chain.{may_move}
use Rattle.holding.proofs.Holding.may_move.Goals as goal

pub returns-then-is_instrument : goal.returns-then-is_instrument
unfolding may_move
returns-then-is_instrument c = rw (sym c.is_instrument.ensures ∙ c.if-is_instrument.true) c.is_team.ensures

pub returns-else-is_instrument : goal.returns-else-is_instrument
unfolding may_move
returns-else-is_instrument c = rw (sym c.is_instrument.ensures ∙ c.if-is_instrument.false) c.if-is_instrument.false
