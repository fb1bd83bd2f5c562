use mathlib.Core.Path.{refl, sym, ◌∙◌}
use mathlib.Core.Logic.{inl, inr}
use native.Mathlib.Omega.{arith}
use Rattle.sets.proofs.Below.{none_there}
use Rattle.exchange.proofs.Going.{ones_le, ones_with, apart_rest, apart_scanned, going_start, scan_enter, scan_mark, scan_found, scan_end, outcome_found, outcome_none}
use borrow.Author.Rules.{rules}
use Rattle.exchange.proofs.search.scan.Goals as goal
use Rattle.exchange.proofs.search.scan.Goals.{else-agent-s, in-Some+in-Some-x+then-member, in_default, then-agent-s}

pub scan-init : goal.scan-init
scan-init c = ((λ k t. none_there k), λ sources rooting clear. going_start _ _ _ c.requires sources _ _ rooting clear (search rules) (search rules))

pub loop-x-init : goal.loop-x-init
loop-x-init c = λ sources sc. rw (c.into_iter-x-iterator.ensures.into_iter_gives, c.members-x-items.ensures) sc

pub loop-x-preserved : goal.loop-x-preserved
loop-x-preserved c = λ sources sc. scan_mark _ _ _ c.requires _ _ c.loop-x.trace _ _ _ _ (c.loop-x.invariant sources sc) _ _ c.in-Some-x.ensures.steps _ c.marked-trace.result c.in-Some.ensures.1 refl c.marked-trace.ensures (sym c.member.ensures ∙ c.if-member.false)

pub scan-preserved : goal.scan-preserved
scan-preserved c = (
  apart_scanned _ _ _ _ _ (apart_rest _ _ _ _ c.rest-todo.ensures c.scan.invariant.0) c.with-scanned.ensures c.without-todo.ensures,
  λ sources rooting clear. scan_end _ _ _ c.requires _ _ c.loop-x.trace _ _ _ _
      (c.loop-x.invariant sources (scan_enter _ _ _ c.requires sources _ c.scan.trace _ _ _ _ _ _ (c.scan.invariant.1 sources rooting clear) c.rest-todo.ensures c.in-Some.ensures.0 c.in-Some.ensures.1 refl
      (elim c.if-agent-s.branch [ then-agent-s u ↦ inl (_, _, _, u.if-agent-s.true, refl, u.exchanges-fresh.ensures, u.fresh-is) | else-agent-s u ↦ inr (u.if-agent-s.false, u.fresh-is) ])))
      _ _ c.in-None.ensures.steps.0 c.with-scanned.ensures c.without-todo.ensures,
)

pub scan-smaller : goal.scan-smaller
scan-smaller c = let apart = apart_rest _ _ _ _ c.rest-todo.ensures c.scan.invariant.0 in
    let (low, some) = c.in-Some.ensures in
    let more = ones_with c.scan.scanned c.with-scanned.result c.in-Some.g some (apart _ (low.member some)) c.with-scanned.ensures in
    let most = ones_le c.with-scanned.result in
    omega arith

pub returns : goal.returns
returns c = record {
  at = λ sources rooting clear. elim c.match-first.branch [
    | in_default w ↦ rw (c.ended.ensures, w.trace-is, w.end-is) (outcome_none _ _ _ c.requires _ _ c.scan.trace _ _ _ (c.scan.invariant.1 sources rooting clear) c.rest-todo.ensures w.in_default.ensures)
    | in-Some+in-Some-x+then-member w ↦ rw (c.ended.ensures, w.trace-is, w.end-is) (outcome_found _ _ _ c.requires _ _ w.marked-trace.result _
        (scan_found _ _ _ c.requires _ _ w.loop-x.trace _ _ _ _ (w.loop-x.invariant sources (scan_enter _ _ _ c.requires sources _ c.scan.trace _ _ _ _ _ _ (c.scan.invariant.1 sources rooting clear) c.rest-todo.ensures w.in-Some.ensures.0 w.in-Some.ensures.1 refl
        (elim w.if-agent-s.branch [ then-agent-s u ↦ inl (_, _, _, u.if-agent-s.true, refl, u.exchanges-fresh.ensures, u.fresh-is) | else-agent-s u ↦ inr (u.if-agent-s.false, u.fresh-is) ])))
        _ _ w.in-Some-x.ensures.steps _ w.marked-trace.result w.in-Some.ensures.1 refl w.marked-trace.ensures (sym w.member.ensures ∙ w.if-member.true)))
  ];
}
