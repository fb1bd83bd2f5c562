use mathlib.Core.Path.{◌≡◌, refl}
use native.Mathlib.Omega.{arith}
use Rattle.kinds.specs.Valuations.{blank_valuation}
use Rattle.plan.specs.Teams.{valuation_of}
use Rattle.plan.proofs.Filling.{filled_next, front_none, front_put}
use Rattle.plan.proofs.Valuing.{valued_all, word_at}
use Rattle.plan.proofs.valuations_of.Goals as goal

pub loop-t-init : goal.loop-t-init
loop-t-init c = rw c.blank-valuations.ensures (front_none 12 c.args.r.n c.requires.few blank_valuation (λ t v. v ≡ valuation_of c.args.r t))

pub valuation_of-requires-clause-team : goal.valuation_of-requires-clause-team
valuation_of-requires-clause-team c = let h = c.loop-t.invariant in omega (arith, h.long, c.loop-t-test.true)

pub valuation_of-requires-clause-usable : goal.valuation_of-requires-clause-usable
valuation_of-requires-clause-usable c = let h = c.loop-t.invariant in word_at c.args.r c.loop-t.t _ c.requires.few (omega (arith, h.long, c.loop-t-test.true)) c.words-words.ensures

pub loop-t-preserved : goal.loop-t-preserved
loop-t-preserved c = let h = c.loop-t.invariant in filled_next _ _ _ _ _ h (omega (arith, h.long, c.loop-t-test.true)) _ c.valuation_of.ensures

pub returns : goal.returns
returns c = let h = c.loop-t.invariant in
    let few = c.requires.few in
    let e : c.loop-t.t ≡ c.args.r.n = omega (arith, h.long, c.loop-t-test.false) in
    rw c.blank-valuations.ensures (valued_all c.args.r _ blank_valuation (λ t v. v ≡ valuation_of c.args.r t) (front_put 12 c.args.r.n few blank_valuation _ _ (rw e at h)) refl (λ t x l k. k))
