use Prim.Native.Nat.{ℕ, ◌≤◌, ◌/◌}
use mathlib.Core.Path.{ap, ◌∙◌, subst⁻¹}
use native.Mathlib.Omega.{arith}
use native.Mathlib.Nat.{div-le_self}
use Rattle.holding.specs.declared.Holding.{Holding}
use Rattle.engine.proofs.Sizes.{held_total, given_le}
use Rattle.engine.proofs.Sharing.{full_measured, measured_given, share_levellable, shares}
use Rattle.engine.proofs.share.searched.Goals as goal

pub overflow_cast-share : goal.overflow_cast-share
overflow_cast-share c = let is = held_total _ _ c.fill-f.ensures.0.held _ c.total.ensures in
    let most : c.total.result ≤ c.args.m = subst⁻¹ (λ (x : ℕ). x ≤ c.args.m) is (given_le _ c.fill-f.result.holding.owner) in
    let d = div-le_self c.total.result c.args.n in
    omega (arith, c.requires.0)

pub level-levelled-requires : goal.level-levelled-requires
level-levelled-requires c = let start = c in
    let full = full_measured _ _ _ _ _ c.fill-f.ensures.0 c.measured.ensures in
    let is = ap (λ (x : ℕ). x / start.args.n) (held_total _ _ c.fill-f.ensures.0.held _ c.total.ensures ∙ measured_given _ c.fill-f.result.holding _ _ c.measured.ensures) in
    share_levellable start.args.m start.args.n start.args.v start.requires.0 start.requires.1 start.requires.2 _ _ _ full is (ap (λ (h : Holding). h.shares) c.measured.ensures)

pub returns : goal.returns
returns c = let start = c in
    let full = full_measured _ _ _ _ _ c.fill-f.ensures.0 c.measured.ensures in
    let is = ap (λ (x : ℕ). x / start.args.n) (held_total _ _ c.fill-f.ensures.0.held _ c.total.ensures ∙ measured_given _ c.fill-f.result.holding _ _ c.measured.ensures) in
    shares start.args.m start.args.n start.args.v start.requires.0 start.requires.1 start.requires.2 c.measured.result c.level-levelled.result _ _ _ full is (ap (λ (h : Holding). h.shares) c.measured.ensures) c.level-levelled.ensures c.parts-part.ensures
