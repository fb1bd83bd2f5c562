use mathlib.Core.Path.{◌≡◌, sym, ◌∙◌}
use native.Mathlib.Omega.{arith}
use lib.ListN.{length}
use Rattle.std.proofs.lemmas.List.{get_or_default}
use Rattle.loops.specs.Forests.{groups_of, forest}
use Rattle.loops.proofs.Accepting.{apart_below}
use Rattle.loops.proofs.Carrying.{carrying_none, carrying_done, carrying_full, carrying_skip, carrying_take}
use borrow.Author.Rules.{rules}
use Rattle.loops.proofs.forest.Forest.carry.Goals as goal

pub loop-g-init : goal.loop-g-init
loop-g-init c = rw (c.into_iter-g-iterator.ensures.into_iter_gives, c.members-g-items.ensures) (carrying_none _ _ _ _ _ c.requires.1 _ c.candidates.ensures)

pub returns-then-room-eq0 : goal.returns-then-room-eq0
returns-then-room-eq0 c = let pre = c.requires in
    let next = c.in-Some.ensures.steps in
    carrying_full _ _ _ _ _ pre.1 _ _ _ c.loop-g.invariant _ next.low next.some c.if-room-eq0.true

pub join-requires : goal.join-requires
join-requires c = apart_below (groups_of c.loop-g.self.groups.label) _ _ _ c.apart.ensures c.if-apart.true

pub loop-g-preserved-then-apart : goal.loop-g-preserved-then-apart
loop-g-preserved-then-apart c = let spans = c.args.spans.now in
    let next = c.in-Some.ensures.steps in
    let lf : length spans.first ≡ 64 = search rules in
    let ls : length spans.second ≡ 64 = search rules in
    let a = get_or_default spans.first c.in-Some.g 0 255 (omega arith) in
    let b = get_or_default spans.second c.in-Some.g 0 255 (omega arith) in
    carrying_take _ _ _ _ _ c.requires.1 _ _ _ c.loop-g.invariant _ next.low next.some _ next.is _ _ a b (sym c.apart.ensures ∙ c.if-apart.true) (omega (arith, c.if-room-eq0.false)) (forest c.with-self.result _) c.with-self.ensures c.join.ensures

pub loop-g-preserved : goal.loop-g-preserved
loop-g-preserved c = let spans = c.args.spans.now in
    let next = c.in-Some.ensures.steps in
    let lf : length spans.first ≡ 64 = search rules in
    let ls : length spans.second ≡ 64 = search rules in
    let a = get_or_default spans.first c.in-Some.g 0 255 (omega arith) in
    let b = get_or_default spans.second c.in-Some.g 0 255 (omega arith) in
    carrying_skip _ _ _ _ _ c.requires.1 _ _ _ c.loop-g.invariant _ next.low next.some _ next.is _ _ a b (sym c.apart.ensures ∙ c.if-apart.false)

pub returns : goal.returns
returns c = carrying_done _ _ _ _ _ c.requires.1 _ _ _ c.loop-g.invariant _ c.in-None.ensures.steps.0 c.requires.0 (search rules)
