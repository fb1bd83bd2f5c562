use mathlib.Core.Path.{◌∙◌}
use Rattle.listing.proofs.Fitting.{text_long, text_fits}
use Rattle.listing.proofs.refusal.Goals as goal

pub returns-then-buffer-width : goal.returns-then-buffer-width
returns-then-buffer-width c = let h = text_long c.refusal-width.ensures c.if-buffer-width.true in record { answer = c.refuse.ensures ∙ h.0; bytes = h.1 }

pub returns : goal.returns
returns c = let h = text_fits c.refusal-width.ensures c.if-buffer-width.false c.refusal.ensures in record { answer = h.0; bytes = h.1 }
