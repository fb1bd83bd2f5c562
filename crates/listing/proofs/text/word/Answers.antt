use mathlib.Core.Path.{refl}
use native.Mathlib.Omega.{arith}
use borrow.Author.Rules.{rules}
use Rattle.listing.proofs.Pouring.{put_none, put_more, put_next, put_all}
use Rattle.listing.proofs.text.word.Goals as goal

pub loop-b-init : goal.loop-b-init
loop-b-init c = (search rules, refl, put_none _ _)

pub byte-next-requires : goal.byte-next-requires
byte-next-requires c = let e = put_next _ _ _ _ _ _ c.loop-b.invariant.2 c.loop-b.invariant.0 in omega arith

pub loop-b-preserved : goal.loop-b-preserved
loop-b-preserved c = let at = c.loop-b in
    (search rules, refl, put_more _ at.buffer _ _ _ _ _ at.b-index at.invariant.2 c.loop-b-test.true c.byte-next.ensures)

pub returns : goal.returns
returns c = put_all _ c.loop-b.buffer _ _ _ c.loop-b.b-index c.loop-b.invariant.2 (omega arith)
