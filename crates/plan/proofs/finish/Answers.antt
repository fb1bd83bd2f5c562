use Prim.Native.Nat.{◌+◌, ◌≤◌}
use mathlib.Core.Path.{◌≡◌, sym, ◌∙◌}
use mathlib.Core.Bool.{true}
use native.Mathlib.Omega.{arith}
use lib.ListN.{length}
use Rattle.plan.specs.Read.{accepted}
use Rattle.plan.specs.Teams.{all_stand}
use Rattle.plan.specs.Progress.{rows_in}
use Rattle.plan.proofs.Steps.{falls_here, extra_here, ends_here}
use Rattle.plan.proofs.Standing.{free_stands}
use Rattle.plan.proofs.finish.Goals as goal
use Rattle.plan.proofs.finish.Goals.{else-some-via-then-some+else-not-all_stand, else-some-via-else-some, else-at-file-via-then-at-file+else-at-file-2, else-at-file-via-else-at-file}

pub returns-then-not-all_stand : goal.returns-then-not-all_stand
returns-then-not-all_stand c = let start = c in
    let file = start.args.file.now in
    let rows = start.args.rows.now in
    let read = rows_in rows start.args.s.n in
    c.refuse.ensures ∙ falls_here file start.args.at start.args.s read (sym c.all_stand.ensures ∙ c.if-not-all_stand.true)

pub returns-then-at-file-2 : goal.returns-then-at-file-2
returns-then-at-file-2 c = let start = c in
    let file = start.args.file.now in
    let rows = start.args.rows.now in
    let read = rows_in rows start.args.s.n in
    let stand : all_stand (accepted start.args.s read) ≡ true = elim c.else-some.branch [ else-some-via-then-some+else-not-all_stand w ↦ sym w.all_stand.ensures ∙ w.if-not-all_stand.false | else-some-via-else-some w ↦ free_stands rows start.args.s.m start.args.s.n start.requires.0 start.requires.1 start.requires.2 _ c.some.ensures w.if-some.false ] in
    c.refuse-then-at-file-2.ensures ∙ extra_here file start.args.at start.args.s read stand c.if-at-file-2.true

pub returns : goal.returns
returns c = let start = c in
    let file = start.args.file.now in
    let rows = start.args.rows.now in
    let read = rows_in rows start.args.s.n in
    let stand : all_stand (accepted start.args.s read) ≡ true = elim c.else-some.branch [ else-some-via-then-some+else-not-all_stand w ↦ sym w.all_stand.ensures ∙ w.if-not-all_stand.false | else-some-via-else-some w ↦ free_stands rows start.args.s.m start.args.s.n start.requires.0 start.requires.1 start.requires.2 _ c.some.ensures w.if-some.false ] in
    let l : length file ≤ start.args.at + 1 = elim c.else-at-file.branch [ else-at-file-via-then-at-file+else-at-file-2 w ↦ omega (arith, w.if-at-file-2.false) | else-at-file-via-else-at-file w ↦ omega (arith, w.if-at-file.false) ] in
    c.accept.ensures ∙ ends_here file start.args.at start.args.s read stand l
