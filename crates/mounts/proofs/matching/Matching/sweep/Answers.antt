use Prim.Native.Nat.{ℕ}
use mathlib.Core.Path.{refl, subst}
use mathlib.Core.Bool.{not}
use native.Mathlib.Omega.{arith}
use lib.Dec.{T}
use Rattle.mounts.specs.Matching.{fits_in}
use Rattle.mounts.proofs.Sweeping.{sweeping_none, sweeping_done, sweeping_skip, sweeping_take, user_small, near_there, near_none}
use borrow.Author.Rules.{rules}
use Rattle.mounts.proofs.matching.Matching.sweep.Goals as goal

pub loop-c-init : goal.loop-c-init
loop-c-init c = rw (c.into_iter-c-iterator.ensures.into_iter_gives, c.members-c-items.ensures) (sweeping_none _ _ _ _ _ _ c.requires.1 refl c.all_below.ensures c.minus.ensures)

pub bounds-self-c : goal.bounds-self-c
bounds-self-c c = let next = c.in-Some.ensures.steps in (c.loop-c.invariant.ahead _ (next.low.member next.some)).0

pub bounds-fits-from : goal.bounds-fits-from
bounds-fits-from c = let next = c.in-Some.ensures.steps in let l = user_small _ _ _ c.requires.0 c.loop-c.invariant next.low next.some in omega (arith, l, c.from.ensures)

pub add-requires : goal.add-requires
add-requires c = let next = c.in-Some.ensures.steps in ((c.loop-c.invariant.ahead _ (next.low.member next.some)).0, c.in-Some-first.ensures.1)

pub loop-c-preserved-in-Some-first : goal.loop-c-preserved-in-Some-first
loop-c-preserved-in-Some-first c = let next = c.in-Some.ensures.steps in
    let (low, some) = c.in-Some-first.ensures in
    let (fit, there) = near_there _ _ _ _ low some c.both-reached.ensures in
    sweeping_take _ _ _ _ _ _ c.loop-c.invariant next.low next.some _ next.is _ _ c.add.ensures there (subst (λ (x : ℕ). T (fits_in c.args.fits.now x c.in-Some-first.near)) c.from.ensures fit)

pub loop-c-preserved : goal.loop-c-preserved
loop-c-preserved c = let next = c.in-Some.ensures.steps in
    let h = c.loop-c.invariant in
    sweeping_skip _ _ _ _ _ _ h next.low next.some _ next.is (λ d t. subst (λ (x : ℕ). T (not (fits_in c.args.fits.now x d))) c.from.ensures (near_none _ _ _ _ c.in_default.ensures (search rules) c.both-reached.ensures h.leads.low d t))

pub returns-then-larger-s : goal.returns-then-larger-s
returns-then-larger-s c = sweeping_done _ _ _ _ _ _ c.loop-c.invariant c.in-None.ensures.steps.0 (search rules) c.if-larger-s.true
