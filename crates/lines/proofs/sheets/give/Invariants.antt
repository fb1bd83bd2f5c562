use Rattle.lines.specs.Given.{IsGiven}
use Rattle.lines.proofs.sheets.give.Given as goal

abbrev pub invariant-loop-g : goal.invariant-loop-g
invariant-loop-g l = IsGiven l.m l.teams l.g l.initial.sheet l.sheet
