use mathlib.Core.Path.{sym, ◌∙◌}
use native.Mathlib.Omega.{arith}
use Rattle.plan.proofs.Rows.{shelf_lent}
use Rattle.plan.proofs.Gluing.{all_stand_lem, some_falls, stands_below}
use Rattle.plan.proofs.Standing.{reading_of, stands_row}
use borrow.Author.Rules.{rules}
use Rattle.plan.proofs.glue.all_stand.Goals as goal

pub loop-t-init : goal.loop-t-init
loop-t-init c = (search rules, λ k l. absurd (omega arith))

pub returns-then-not-stands : goal.returns-then-not-stands
returns-then-not-stands c = let start = c in
    let rows = start.args.rows.now in
    let n = start.args.s.n in
    let m = start.args.s.m in
    let t = c.loop-t.t in
    let l = c.loop-t-test.true in
    let here = stands_row rows m n t start.requires.1 l _ _ _ _ _ _ _ c.team_at-team.ensures c.days_at-days.ensures (c.shelf-shelf.ensures ∙ shelf_lent m rows) c.glue-glue.ensures c.usable-usable.ensures c.of_team-glued.ensures c.stands.ensures in
    some_falls (reading_of m n rows) t l (sym here ∙ c.if-not-stands.true)

pub loop-t-preserved : goal.loop-t-preserved
loop-t-preserved c = let start = c in
    let rows = start.args.rows.now in
    let n = start.args.s.n in
    let m = start.args.s.m in
    let t = c.loop-t.t in
    let l = c.loop-t-test.true in
    let here = stands_row rows m n t start.requires.1 l _ _ _ _ _ _ _ c.team_at-team.ensures c.days_at-days.ensures (c.shelf-shelf.ensures ∙ shelf_lent m rows) c.glue-glue.ensures c.usable-usable.ensures c.of_team-glued.ensures c.stands.ensures in
    (search rules, stands_below (reading_of m n rows) t c.loop-t.invariant.1 (sym here ∙ c.if-not-stands.false))

pub returns : goal.returns
returns c = let start = c in
    all_stand_lem (reading_of start.args.s.m start.args.s.n start.args.rows.now) (λ t l. c.loop-t.invariant.1 t (omega arith))
