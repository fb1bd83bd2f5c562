use Prim.Native.Nat.{ℕ}
use mathlib.Core.Path.{sym, ap, ◌∙◌}
use mathlib.Core.Bool.{Bool, ◌||◌}
use native.Mathlib.Omega.{arith}
use Rattle.sets.specs.Bits.{bit}
use Rattle.kinds.specs.Teams.{kind_matroid}
use Rattle.kinds.specs.Valuations.{matroid_of_lem}
use Rattle.kinds.proofs.Contracting.{worth_nothing, worth_above}
use Rattle.kinds.proofs.worth_of.Goals as goal

pub returns-then-not-stands : goal.returns-then-not-stands
returns-then-not-stands c = let a = c.args in
    rw (matroid_of_lem a.m a.v) (sym (worth_nothing (kind_matroid a.m a.v.team) (bit a.v.glued) (bit a.v.usable) _ (c.stands.ensures.no c.if-not-stands.true)))

pub overflow_sub-result : goal.overflow_sub-result
overflow_sub-result c = let a = c.args in
    let stands = c.stands.ensures.yes c.if-not-stands.false in
    let above = worth_above (kind_matroid a.m a.v.team) (bit a.v.glued) (bit a.v.usable) stands (bit a.set) _ _ _ (λ (j : ℕ). c.either-whole.ensures j ∙ ap (λ (b : Bool). b || bit a.v.glued j) (c.both.ensures j)) c.worth-worth.ensures c.size_below.ensures in
    omega arith

pub returns : goal.returns
returns c = let a = c.args in
    let stands = c.stands.ensures.yes c.if-not-stands.false in
    let above = worth_above (kind_matroid a.m a.v.team) (bit a.v.glued) (bit a.v.usable) stands (bit a.set) _ _ _ (λ (j : ℕ). c.either-whole.ensures j ∙ ap (λ (b : Bool). b || bit a.v.glued j) (c.both.ensures j)) c.worth-worth.ensures c.size_below.ensures in
    rw (matroid_of_lem a.m a.v) (omega arith)
