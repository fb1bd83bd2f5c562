use mathlib.Core.Path.{◌∙◌}
use Rattle.sheet.specs.Form.{set}
use Rattle.sheet.proofs.Commands.{bytes_none, bytes_next, set_byte_lem}
use Rattle.sheet.proofs.Testing.{bytes_err, bytes_end}
use borrow.Author.Rules.{rules}
use Rattle.sheet.proofs.form.set.Goals as goal

pub loop-k-init : goal.loop-k-init
loop-k-init c = (search rules, bytes_none _ _ _)

pub returns-then-not-clear : goal.returns-then-not-clear
unfolding set
returns-then-not-clear c = bytes_err _ _ _ _ c.loop-k.invariant.1 8 c.loop-k-test.true (set_byte_lem _ _ _ _ _ c.saturating_sub.ensures c.clear.ensures ∙ c.if-not-clear.true)

pub loop-k-preserved : goal.loop-k-preserved
loop-k-preserved c = (search rules, bytes_next _ _ _ _ c.loop-k.invariant.1 (set_byte_lem _ _ _ _ _ c.saturating_sub.ensures c.clear.ensures ∙ c.if-not-clear.false))

pub returns : goal.returns
unfolding set
returns c = bytes_end _ _ _ _ c.loop-k.invariant.1 8 c.loop-k.invariant.0 c.loop-k-test.false
