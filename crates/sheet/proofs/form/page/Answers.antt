use mathlib.Core.Path.{sym, ◌∙◌}
use Rattle.sheet.proofs.form.page.Goals as goal

pub returns-then-member : goal.returns-then-member
returns-then-member c = rw (sym c.member.ensures ∙ c.if-member.true) c.present_page.ensures

pub returns : goal.returns
returns c = rw (sym c.member.ensures ∙ c.if-member.false) c.away_page.ensures
