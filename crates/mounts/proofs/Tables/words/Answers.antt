use mathlib.Core.Path.{◌≡◌}
use lib.ListN.{length}
use Rattle.mounts.proofs.Wording.{wording_none, wording_skip, wording_take}
use borrow.Author.Rules.{rules}
use Rattle.mounts.proofs.Tables.words.Goals as goal

pub loop-g-init : goal.loop-g-init
loop-g-init c = rw (c.into_iter-g-iterator.ensures.into_iter_gives, c.members-g-items.ensures) (wording_none _ _ _ _ _ _)

pub loop-g-preserved-then-self-g : goal.loop-g-preserved-then-self-g
loop-g-preserved-then-self-g c = let long : length c.args.self.now.named ≡ 64 = search rules in
    let next = c.in-Some.ensures.steps in
    rw c.word.ensures (wording_take _ _ _ _ _ _ _ _ _ c.loop-g.invariant next.low next.some long _ next.is c.if-self-g.true)

pub loop-g-preserved : goal.loop-g-preserved
loop-g-preserved c = let long : length c.args.self.now.named ≡ 64 = search rules in
    let next = c.in-Some.ensures.steps in
    wording_skip _ _ _ _ _ _ _ _ _ c.loop-g.invariant next.low next.some long _ next.is c.if-self-g.false
