use mathlib.Core.Path.{◌≡◌, refl, sym, ◌∙◌, subst⁻¹}
use native.Mathlib.Omega.{arith}
use lib.ListN.{length}
use Rattle.holding.specs.Count.{Right}
use Rattle.holding.specs.Give.{gave}
use Rattle.holding.proofs.Tests.{instrument_below, team_below}
use Rattle.holding.proofs.Counting.{raise_ready}
use Rattle.holding.proofs.Rights.{gave_right, gave_taken}
use borrow.Author.Rules.{rules}
use Rattle.holding.proofs.Holding.give.Goals as goal
use Rattle.holding.proofs.Holding.give.Goals.{else-is_instrument-via-then-is_instrument+then-is_team+else-in_pool, else-is_instrument-via-then-is_instrument+else-is_team, else-is_instrument-via-else-is_instrument}

pub overflow_cast-owner : goal.overflow_cast-owner
overflow_cast-owner c = omega (arith, team_below _ _ (sym c.is_team.ensures ∙ c.if-is_team.true))

pub bounds-owner-g : goal.bounds-owner-g
bounds-owner-g c = instrument_below _ _ (sym c.is_instrument.ensures ∙ c.if-is_instrument.true)

pub raised-requires : goal.raised-requires
raised-requires c = rw c.tally.ensures (raise_ready c.args.self c.requires _ (sym c.is_team.ensures ∙ c.if-is_team.true))

pub returns-then-in_pool : goal.returns-then-in_pool
returns-then-in_pool c = let self = c.args.self in
    let long : length self.owner ≡ 64 = search (rules, c.well_formed) in
    let next = rw c.tally.ensures at (rw c.raised.ensures at c.with.ensures) ∙ gave_taken self c.requires long _ (sym c.is_instrument.ensures ∙ c.if-is_instrument.true) _ (sym c.is_team.ensures ∙ c.if-is_team.true) (sym c.in_pool.ensures ∙ c.if-in_pool.true) in
    record { next = next; right = subst⁻¹ Right next (gave_right self _ _ c.requires) }

pub returns : goal.returns
unfolding gave
returns c = record {
  next = elim c.else-is_instrument.branch [
    | else-is_instrument-via-then-is_instrument+then-is_team+else-in_pool w ↦ rw (sym c.is_instrument.ensures ∙ w.if-is_instrument.true, sym w.is_team.ensures ∙ w.if-is_team.true, sym w.in_pool.ensures ∙ w.if-in_pool.false) refl
    | else-is_instrument-via-then-is_instrument+else-is_team w ↦ rw (sym c.is_instrument.ensures ∙ w.if-is_instrument.true, sym w.is_team.ensures ∙ w.if-is_team.false) refl
    | else-is_instrument-via-else-is_instrument w ↦ rw (sym c.is_instrument.ensures ∙ w.if-is_instrument.false) refl
  ];
  right = c.requires;
}
