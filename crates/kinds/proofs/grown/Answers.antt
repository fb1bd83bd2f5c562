use Prim.Native.Nat.{ℕ}
use mathlib.Core.Path.{ap, ◌∙◌}
use mathlib.Core.Bool.{Bool, ◌||◌}
use Rattle.sets.specs.Bits.{bit}
use Rattle.kinds.specs.Teams.{kind_matroid}
use Rattle.kinds.specs.Valuations.{matroid_of_lem}
use Rattle.kinds.proofs.Contracting.{grown_above}
use Rattle.sets.proofs.Growing.{grown_same}
use Rattle.kinds.proofs.grown.Goals as goal

pub returns-then-most-eq0 : goal.returns-then-most-eq0
returns-then-most-eq0 c = grown_same _ _ _ _

pub returns : goal.returns
returns c = let a = c.args in
    let stands = c.stands.ensures.yes c.if-not-stands.false in
    rw (matroid_of_lem a.m a.v) (grown_above (kind_matroid a.m a.v.team) (bit a.v.glued) (bit a.v.usable) stands _ _ _ _ _ _ _ c.either.ensures c.both-offered.ensures c.grown-larger.ensures (λ (j : ℕ). c.either-2.ensures j ∙ ap (λ (b : Bool). bit a.set j || b) (c.minus.ensures j)))
