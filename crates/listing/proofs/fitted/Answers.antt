use mathlib.Core.Path.{◌∙◌}
use Rattle.listing.proofs.Fitting.{text_long, text_fits}
use Rattle.listing.proofs.fitted.Goals as goal

pub returns-then-buffer-long : goal.returns-then-buffer-long
returns-then-buffer-long c = let h = text_long c.listing-long.ensures c.if-buffer-long.true in record { answer = c.refuse.ensures ∙ h.0; bytes = h.1 }

pub returns : goal.returns
returns c = let h = text_fits c.listing-long.ensures c.if-buffer-long.false c.listing.ensures in record { answer = h.0; bytes = h.1 }
