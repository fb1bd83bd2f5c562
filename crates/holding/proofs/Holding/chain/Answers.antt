use mathlib.Core.Path.{◌≡◌, sym, ◌∙◌, subst⁻¹}
use Rattle.holding.specs.Count.{Right}
use Rattle.holding.specs.Chain.{chained}
use Rattle.holding.proofs.Rights.{chained_right}
use Rattle.holding.proofs.Holding.chain.Goals as goal

pub returns-then-fits : goal.returns-then-fits
unfolding chained
returns-then-fits c = let self = c.args.self in
    let moves = c.args.moves in
    let next : c.carried_out.result ≡ chained self moves = rw (sym c.fits.ensures ∙ c.if-fits.true) c.carried_out.ensures in
    record { next = next; right = subst⁻¹ Right next (chained_right self moves c.requires) }

pub returns-else-fits : goal.returns-else-fits
unfolding chained
returns-else-fits c = record { next = rw (sym c.fits.ensures ∙ c.if-fits.false); right = c.requires }
