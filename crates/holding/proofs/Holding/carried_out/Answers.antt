use Prim.Native.Nat.{min}
use mathlib.Core.Path.{◌≡◌, refl}
use mathlib.Core.Logic.{inl, inr}
use native.Mathlib.Omega.{arith}
use lib.ListN.{length}
use Rattle.holding.proofs.Fits.{fit_few, in_list, step_is}
use Rattle.holding.proofs.Carried.{carrying_none, Lowered, carrying_item, carrying_some, carrying_room, carrying_pass, carrying_same}
use borrow.Author.Rules.{rules}
use Rattle.holding.proofs.Holding.carried_out.Goals as goal
use Rattle.holding.proofs.Holding.carried_out.Goals.{else-from-last, else-from-t, then-from-last, then-from-t}

pub loop-step-init : goal.loop-step-init
loop-step-init c = carrying_none _ _ c.requires.0

pub shared_ref_as_front-steps : goal.shared_ref_as_front-steps
shared_ref_as_front-steps c = fit_few _ _ c.requires.1

pub bounds-owner-g : goal.bounds-owner-g
bounds-owner-g c = let self = c.args.self in
    let moves = c.args.moves in
    let long : length self.owner ≡ 64 = search (rules, c.well_formed) in
    let test = c.loop-step-test.true in
    carrying_item self moves _ _ _ c.loop-step.invariant long c.requires.1 (in_list moves _ test) _ (step_is moves _ test) _ refl

pub overflow_sub-sizes : goal.overflow_sub-sizes
overflow_sub-sizes c = let self = c.args.self in
    let moves = c.args.moves in
    let long : length self.owner ≡ 64 = search (rules, c.well_formed) in
    let test = c.loop-step-test.true in
    carrying_some self moves _ _ _ c.loop-step.invariant long c.requires.1 (in_list moves _ test) _ (step_is moves _ test) _ refl (omega (arith, c.if-from-last.true, c.teams-last.ensures))

pub bounds-sizes-t : goal.bounds-sizes-t
bounds-sizes-t c = let self = c.args.self in
    let moves = c.args.moves in
    let long : length self.owner ≡ 64 = search (rules, c.well_formed) in
    let test = c.loop-step-test.true in
    let lowered : Lowered c.loop-step.sizes (min self.n 12) _ c.if-from-last.sizes = rw (← c.teams-last.ensures) (elim c.if-from-last.branch [ then-from-last v ↦ inl (v.if-from-last.true, v.sizes-is) | else-from-last v ↦ inr (v.if-from-last.false, v.sizes-is) ]) in
    (carrying_room self moves _ _ _ c.loop-step.invariant long c.requires.1 (in_list moves _ test) _ (step_is moves _ test) _ refl _ lowered c.if-from-t.true).0

pub overflow_add-sizes : goal.overflow_add-sizes
overflow_add-sizes c = let self = c.args.self in
    let moves = c.args.moves in
    let long : length self.owner ≡ 64 = search (rules, c.well_formed) in
    let test = c.loop-step-test.true in
    let lowered : Lowered c.loop-step.sizes (min self.n 12) _ c.if-from-last.sizes = rw (← c.teams-last.ensures) (elim c.if-from-last.branch [ then-from-last v ↦ inl (v.if-from-last.true, v.sizes-is) | else-from-last v ↦ inr (v.if-from-last.false, v.sizes-is) ]) in
    let room = carrying_room self moves _ _ _ c.loop-step.invariant long c.requires.1 (in_list moves _ test) _ (step_is moves _ test) _ refl _ lowered c.if-from-t.true in
    omega (arith, room.1)

pub bounds-sizes-t-then-from-t : goal.bounds-sizes-t-then-from-t
bounds-sizes-t-then-from-t c = let self = c.args.self in
    let moves = c.args.moves in
    let long : length self.owner ≡ 64 = search (rules, c.well_formed) in
    let test = c.loop-step-test.true in
    let lowered : Lowered c.loop-step.sizes (min self.n 12) _ c.if-from-last.sizes = rw (← c.teams-last.ensures) (elim c.if-from-last.branch [ then-from-last v ↦ inl (v.if-from-last.true, v.sizes-is) | else-from-last v ↦ inr (v.if-from-last.false, v.sizes-is) ]) in
    (carrying_room self moves _ _ _ c.loop-step.invariant long c.requires.1 (in_list moves _ test) _ (step_is moves _ test) _ refl _ lowered c.if-from-t.true).0

pub bounds-owner-g-in-loop-step : goal.bounds-owner-g-in-loop-step
bounds-owner-g-in-loop-step c = let self = c.args.self in
    let moves = c.args.moves in
    let long : length self.owner ≡ 64 = search (rules, c.well_formed) in
    let test = c.loop-step-test.true in
    carrying_item self moves _ _ _ c.loop-step.invariant long c.requires.1 (in_list moves _ test) _ (step_is moves _ test) _ refl

pub loop-step-preserved : goal.loop-step-preserved
loop-step-preserved c = let self = c.args.self in
    let moves = c.args.moves in
    let long : length self.owner ≡ 64 = search (rules, c.well_formed) in
    let test = c.loop-step-test.true in
    elim c.if-from-t.branch [
      | then-from-t w ↦ let lowered : Lowered c.loop-step.sizes (min self.n 12) _ w.if-from-last.sizes = rw (← c.teams-last.ensures) (elim w.if-from-last.branch [ then-from-last v ↦ inl (v.if-from-last.true, v.sizes-is) | else-from-last v ↦ inr (v.if-from-last.false, v.sizes-is) ]) in
          carrying_pass self moves _ _ _ c.loop-step.invariant long c.requires.1 (in_list moves _ test) _ (step_is moves _ test) _ refl w.if-from-last.sizes lowered _ w.sizes-is
      | else-from-t w ↦ carrying_same self moves _ _ _ c.loop-step.invariant long c.requires.1 (in_list moves _ test) _ (step_is moves _ test) _ refl _ w.if-from-t.false w.sizes-is
    ]
