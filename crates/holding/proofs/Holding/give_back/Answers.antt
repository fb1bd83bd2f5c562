use mathlib.Core.Path.{◌≡◌, refl, sym, ◌∙◌, subst⁻¹}
use lib.ListN.{length}
use Rattle.holding.specs.Count.{Right}
use Rattle.holding.specs.Give.{returned}
use Rattle.holding.proofs.Tests.{instrument_below}
use Rattle.holding.proofs.Counting.{lower_ready}
use Rattle.holding.proofs.Rights.{returned_right, held_some, returned_taken}
use borrow.Author.Rules.{rules}
use Rattle.holding.proofs.Holding.give_back.Goals as goal
use Rattle.holding.proofs.Holding.give_back.Goals.{else-is_instrument-via-then-is_instrument+else-not-in_pool, else-is_instrument-via-else-is_instrument}

pub bounds-owner-g : goal.bounds-owner-g
bounds-owner-g c = instrument_below _ _ (sym c.is_instrument.ensures ∙ c.if-is_instrument.true)

pub lowered-requires : goal.lowered-requires
lowered-requires c = let self = c.args.self in
    let long : length self.owner ≡ 64 = search rules in
    let some = held_some self c.requires long _ (sym c.is_instrument.ensures ∙ c.if-is_instrument.true) (sym c.in_pool.ensures ∙ c.if-not-in_pool.true) in
    rw (c.tally.ensures, c.holder-from.ensures) (lower_ready self c.requires _ some.0 some.1 (λ t. search rules))

pub returns-then-not-in_pool : goal.returns-then-not-in_pool
returns-then-not-in_pool c = let self = c.args.self in
    let long : length self.owner ≡ 64 = search (rules, c.well_formed) in
    let next = rw c.holder-from.ensures at (rw c.tally.ensures at (rw c.lowered.ensures at c.with.ensures)) ∙ returned_taken self c.requires long _ (sym c.is_instrument.ensures ∙ c.if-is_instrument.true) (sym c.in_pool.ensures ∙ c.if-not-in_pool.true) in
    record { next = next; right = subst⁻¹ Right next (returned_right self _ c.requires) }

pub returns : goal.returns
unfolding returned
returns c = record {
  next = elim c.else-is_instrument.branch [
    | else-is_instrument-via-then-is_instrument+else-not-in_pool w ↦ rw (sym c.is_instrument.ensures ∙ w.if-is_instrument.true, sym w.in_pool.ensures ∙ w.if-not-in_pool.false) refl
    | else-is_instrument-via-else-is_instrument w ↦ rw (sym c.is_instrument.ensures ∙ w.if-is_instrument.false) refl
  ];
  right = c.requires;
}
