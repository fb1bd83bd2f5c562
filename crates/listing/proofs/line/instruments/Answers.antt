use mathlib.Core.Path.{◌≡◌}
use native.Mathlib.Omega.{arith}
use borrow.Author.Rules.{rules}
use Rattle.sheet.specs.Fields.{holder_at}
use Rattle.listing.specs.Listing.{instrument}
use Rattle.listing.proofs.Pouring.{put_none}
use Rattle.listing.proofs.Lining.{put_each}
use Rattle.listing.proofs.line.instruments.Goals as goal

pub loop-g-init : goal.loop-g-init
loop-g-init c = (search rules, search rules, put_none _ _)

pub loop-g-preserved : goal.loop-g-preserved
loop-g-preserved c = let at = c.loop-g in
    let args = c.args in
    let e = c.instrument-next.ensures in
    (search rules, (let l = e.short in omega arith), put_each at.g (instrument (holder_at args.sheet.now) args.team) at.invariant.2 e.put)

pub returns : goal.returns
returns c = let e : c.loop-g.g ≡ c.args.m = omega arith in record { put = rw e at c.loop-g.invariant.2; short = rw e at c.loop-g.invariant.1 }
