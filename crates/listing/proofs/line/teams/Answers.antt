use mathlib.Core.Path.{◌≡◌}
use native.Mathlib.Omega.{arith}
use borrow.Author.Rules.{rules}
use Rattle.sheet.proofs.Sizes.{share_inside}
use Rattle.listing.specs.Listing.{team_line}
use Rattle.listing.proofs.Pouring.{put_none}
use Rattle.listing.proofs.Lining.{put_each}
use Rattle.listing.proofs.line.teams.Goals as goal

pub loop-t-init : goal.loop-t-init
loop-t-init c = (search rules, search rules, put_none _ _)

pub team-next-requires : goal.team-next-requires
team-next-requires c = let args = c.args in let l = share_inside args.m args.n c.loop-t.t c.loop-t-test.true in (search rules, search rules, search rules, omega arith)

pub loop-t-preserved : goal.loop-t-preserved
loop-t-preserved c = let at = c.loop-t in
    let args = c.args in
    let e = c.team-next.ensures in
    (search rules, (let l = e.short in omega arith), put_each at.t (team_line args.m args.sheet.now) at.invariant.2 e.put)

pub returns : goal.returns
returns c = let e : c.loop-t.t ≡ c.args.n = omega arith in record { put = rw e at c.loop-t.invariant.2; short = rw e at c.loop-t.invariant.1 }
