use mathlib.Core.Path.{refl}
use native.Mathlib.Omega.{arith}
use lib.ListN.{replicate}
use borrow.Author.Rules.{rules}
use Rattle.listing.proofs.Spelling.{spell_last, spell_room, spell_more, spell_short, spell_put}
use Rattle.listing.proofs.text.decimal.Goals as goal

pub loop-rest-init : goal.loop-rest-init
loop-rest-init c = (omega arith, spell_last c.args.n (replicate 20 0) refl (omega arith))

pub overflow_sub-i : goal.overflow_sub-i
overflow_sub-i c = spell_room _ _ c.loop-rest.invariant.1.1 c.loop-rest-test.true

pub loop-rest-smaller : goal.loop-rest-smaller
loop-rest-smaller c = let l = spell_room _ _ c.loop-rest.invariant.1.1 c.loop-rest-test.true in omega arith

pub loop-rest-preserved : goal.loop-rest-preserved
loop-rest-preserved c = (omega arith, spell_more _ _ _ _ c.loop-rest.invariant.0 c.loop-rest.invariant.1 c.loop-rest-test.true)

pub word-requires : goal.word-requires
word-requires c = (search rules, let l = spell_short _ _ _ c.loop-rest.digits c.loop-rest.invariant.1 in omega arith)

pub returns : goal.returns
returns c = let at = c.loop-rest in
    let l = spell_short _ _ _ at.digits at.invariant.1 in
    record { put = spell_put _ _ _ at.digits _ _ _ _ at.invariant.1 (omega arith) c.word.ensures; short = let e = c.word.ensures.end in omega arith }
