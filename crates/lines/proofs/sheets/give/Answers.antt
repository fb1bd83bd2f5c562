use Rattle.std.proofs.Common.{arith}
use Rattle.lines.proofs.Given.{given_next, given_kept}
use Rattle.lines.proofs.sheets.give.Goals as goal
use Rattle.lines.proofs.sheets.give.Goals.{then-g-m, else-g-m}

pub loop-g-preserved : goal.loop-g-preserved
loop-g-preserved c =
    elim c.if-g-m.branch [
      | then-g-m w ↦ rw (w.sheet-is, w.give_start.ensures) (given_next _ c.args.teams.now _ c.args.sheet.now c.loop-g.sheet c.loop-g.invariant w.if-g-m.true (omega arith))
      | else-g-m w ↦ rw w.sheet-is (given_kept _ c.args.teams.now _ c.args.sheet.now c.loop-g.sheet c.loop-g.invariant w.if-g-m.false)
    ]
