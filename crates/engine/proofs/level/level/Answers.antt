use mathlib.Core.Path.{◌∙◌}
use native.Mathlib.Omega.{arith}
use Rattle.exchange.proofs.Advance.{Advanced, advances}
use Rattle.engine.proofs.Filling.{ready_of}
use Rattle.engine.proofs.Leveling.{source_only, level_stuck, level_same, level_falls, nobody_short, level_done}
use Rattle.engine.proofs.level.level.Goals as goal

pub returns-then-h-eq0 : goal.returns-then-h-eq0
returns-then-h-eq0 c = level_done _ _ _ c.loop-h.invariant.0 c.if-h-eq0.true c.loop-h.invariant.1 c.loop-h.invariant.2

pub returns-in_default : goal.returns-in_default
returns-in_default c = level_done _ _ _ c.loop-h.invariant.0 (nobody_short _ _ c.loop-h.invariant.0 c.in_default.ensures) c.loop-h.invariant.1 c.loop-h.invariant.2

pub search-r-requires : goal.search-r-requires
search-r-requires c = ready_of _ _ _ c.loop-h.invariant.0 c.bundles-bundles.ensures

pub returns-in_default-end : goal.returns-in_default-end
returns-in_default-end c = let s = c.args.s in
    let h = c.loop-h.h in
    let held = c.loop-h.invariant.0 in
    let words = c.bundles-bundles.result in
    let ready = ready_of s h words held c.bundles-bundles.ensures in
    let first = c.in-Some.ensures in
    let is-only = c.only.ensures in
    let is-rich = c.above-rich.ensures in
    let r = c.search-r.result in
    let out = c.search-r.ensures in
    absurd (level_stuck s h held words ready _ _ _ first is-only is-rich r out _ c.requires c.loop-h.invariant.1 c.loop-h.invariant.2 c.in_default-end.is)

pub moves_back-requires : goal.moves_back-requires
moves_back-requires c = let f = c.search-r.ensures.found _ c.in-Some-end.is in
    let b = f.0.traced.below _ f.1 in
    omega (arith, c.loop-h.invariant.0.small)

pub loop-h-smaller : goal.loop-h-smaller
loop-h-smaller c = let s = c.args.s in
    let h = c.loop-h.h in
    let held = c.loop-h.invariant.0 in
    let words = c.bundles-bundles.result in
    let ready = ready_of s h words held c.bundles-bundles.ensures in
    let first = c.in-Some.ensures in
    let is-only = c.only.ensures in
    let is-rich = c.above-rich.ensures in
    let r = c.search-r.result in
    let out = c.search-r.ensures in
    let found = c.in-Some-end.is in
    let f = out.found _ found in
    let src = source_only s h held words ready _ _ _ first is-only is-rich r out in
    let a : Advanced s h c.only.result c.in-Some-end.end c.chain-h.result = rw c.chain-h.ensures.next (advances s h held _ _ _ f.0 f.1 _ c.moves_back.ensures c.in-Some.i first.below src) in
    let falls = level_falls s h held words ready _ _ _ first is-only is-rich r out _ found _ a in
    omega (arith, falls)

pub loop-h-preserved : goal.loop-h-preserved
loop-h-preserved c = let s = c.args.s in
    let h = c.loop-h.h in
    let held = c.loop-h.invariant.0 in
    let words = c.bundles-bundles.result in
    let ready = ready_of s h words held c.bundles-bundles.ensures in
    let first = c.in-Some.ensures in
    let is-only = c.only.ensures in
    let is-rich = c.above-rich.ensures in
    let r = c.search-r.result in
    let out = c.search-r.ensures in
    let found = c.in-Some-end.is in
    let f = out.found _ found in
    let src = source_only s h held words ready _ _ _ first is-only is-rich r out in
    let a : Advanced s h c.only.result c.in-Some-end.end c.chain-h.result = rw c.chain-h.ensures.next (advances s h held _ _ _ f.0 f.1 _ c.moves_back.ensures c.in-Some.i first.below src) in
    (a.held, a.shares ∙ c.loop-h.invariant.1, level_same s h held words ready _ _ _ first is-only is-rich r out _ found _ a ∙ c.loop-h.invariant.2)
