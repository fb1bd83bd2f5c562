use Prim.Native.Nat.{ℕ}
use mathlib.Core.Path.{◌≡◌, refl, ap, sym, ◌∙◌, subst, subst⁻¹, fun_ext}
use mathlib.Core.Bool.{Bool, true, false, not}
use mathlib.Core.Logic.{inl, inr}
use lib.Dec.{T}
use lib.ListN.{set}
use Rattle.matroid.specs.Set.{Set, without}
use Rattle.sets.specs.Bits.{bit}
use Rattle.mounts.specs.Matching.{fits_in, Placed}
use Rattle.mounts.proofs.Sweeping.{near_there, near_none}
use Rattle.mounts.proofs.Reaching.{blocked, moving_start, moving_done, moving_on}
use borrow.Author.Rules.{rules}
use Rattle.mounts.proofs.matching.Matching.rematch.Goals as goal

-- a test of the free mounts, which stay as they were
free_there : {b : Bool} (free before at : ℕ) → b ≡ bit free at → b ≡ true → free ≡ before → T (bit before at)
free_there free before at e t same = subst (λ (w : ℕ). T (bit w at)) same (subst T (sym t ∙ e) tt)

free_not : {b : Bool} (free before at : ℕ) → b ≡ bit free at → b ≡ false → free ≡ before → T (not (bit before at))
free_not free before at e f same = subst (λ (w : ℕ). T (not (bit w at))) same (subst (λ (b : Bool). T (not b)) (sym f ∙ e) tt)

pub returns-in_default : goal.returns-in_default
returns-in_default c = let s = c.search-s.ensures in
    record {
      matched = c.requires.0;
      either = inr (refl, blocked _ _ _ c.requires.0 s.leads s.closed _ c.requires.1 c.requires.2 (near_none _ _ _ _ c.in_default.ensures (search rules) c.both.ensures s.leads.low));
    }

pub loop-s-init : goal.loop-s-init
loop-s-init c = let leads = c.search-s.ensures.leads in
    let pre = c.requires in
    let (low, some) = c.in-Some.ensures in
    let (fit, there) = near_there _ _ _ _ low some c.both.ensures in
    let start = moving_start _ c.args.self.now c.search-s.result _ _ _ pre.0 pre.1 pre.2 there fit in (
      record { long = leads.long; low = leads.low; start = leads.start; deep = leads.deep; step = leads.step },
      record {
        rest = start.rest;
        placed = start.placed;
        out = start.out;
        whole = λ k. start.whole k ∙ sym (c.with-self.ensures k);
        small = start.small;
        there = start.there;
        fit = start.fit;
        same = start.same;
      },
      refl,
      refl,
    )

pub returns-then-member : goal.returns-then-member
returns-then-member c = let (leads, moving, same-free, same_taken) = c.loop-s.invariant in
    let free = free_there _ _ _ c.member.ensures c.if-member.true same-free in
    let done = moving_done _ _ _ leads _ _ _ _ moving free in
    record {
      matched = rw (same_taken) (subst⁻¹ (λ (f : Set). Placed (fits_in c.args.fits.now) (bit c.with-self.result) (set c.loop-s.self.on c.loop-s.at c.loop-s.mover) f)
          (fun_ext (λ j. c.without-self.ensures j ∙ ap (λ (w : ℕ). without (bit w) c.loop-s.at j) same-free)) done);
      either = inl (λ j. ap (λ (w : ℕ). bit w j) same_taken ∙ c.with-self.ensures j);
    }

pub loop-s-preserved : goal.loop-s-preserved
loop-s-preserved c = let (leads, moving, same-free, same_taken) = c.loop-s.invariant in
    let used = free_not _ _ _ c.member.ensures c.if-member.false same-free in
    (leads, rw c.from-at.ensures (moving_on _ _ _ leads _ _ _ _ moving used), same-free, same_taken)
