use mathlib.Core.Path.{◌≡◌}
use native.Mathlib.Omega.{arith}
use Rattle.sheet.proofs.Naming.{words_none, words_skip, words_put}
use borrow.Author.Rules.{rules}
use Rattle.sheet.proofs.words.Goals as goal
use Rattle.sheet.proofs.words.Goals.{else-t-lt12, then-t-lt12}

pub loop-g-init : goal.loop-g-init
loop-g-init c = (search rules, words_none _)

pub loop-g-preserved : goal.loop-g-preserved
loop-g-preserved c = let at = c.loop-g in
    let is-t = c.wide-t.ensures in (
      search rules,
      elim c.if-t-lt12.branch [ then-t-lt12 w ↦ words_put _ _ at.words at.invariant.1 _ _ _ is-t w.if-t-lt12.true w.with.ensures w.words-is | else-t-lt12 w ↦ let l = w.if-t-lt12.false in rw w.words-is (words_skip _ _ at.words at.invariant.1 (omega arith)) ],
    )

pub returns : goal.returns
returns c = let e : c.loop-g.g ≡ c.args.m = omega arith in rw e at c.loop-g.invariant.1
