use Prim.Native.Nat.{ℕ, ◌≤◌, ◌+◌}
use mathlib.Core.Path.{sym, ap, ◌∙◌}
use native.Mathlib.Omega.{arith}
use Rattle.matroid.specs.Set.{complement}
use Rattle.matroid.proofs.Sets.{size_le}
use Rattle.sets.specs.Bits.{bit}
use Rattle.kinds.specs.Valuations.{matroid_of}
use Rattle.sheet.specs.Named.{named}
use Rattle.checker.specs.Rules.{share_holds}
use Rattle.checker.proofs.Bundles.{worth_small}
use Rattle.checker.proofs.Shared.{share_no, share_tested, product_small}
use Rattle.checker.proofs.shares.share_holds.Goals as goal

pub overflow_mul-most : goal.overflow_mul-most
overflow_mul-most c = let v = worth_small (matroid_of c.args.m c.args.valuation) (bit c.args.set) in let e = c.worth_of.ensures in let l : c.worth_of.result ≤ 256 = omega arith in let p = product_small c.args.p c.worth_of.result c.requires.1 l in omega arith

pub overflow_add-most : goal.overflow_add-most
overflow_add-most c = let v = worth_small (matroid_of c.args.m c.args.valuation) (bit c.args.set) in let e = c.worth_of.ensures in let l : c.worth_of.result ≤ 256 = omega arith in let p = product_small c.args.p c.worth_of.result c.requires.1 l in let o = size_le c.args.m (complement (bit c.args.set)) in let f = c.outside.ensures in omega arith

pub overflow_mul-result : goal.overflow_mul-result
overflow_mul-result c = let e = c.wide-s.ensures in let l : c.wide-s.result + 1 ≤ 256 = omega arith in let p = product_small c.args.p (c.wide-s.result + 1) c.requires.1 l in omega arith

pub returns-then-parts_hold : goal.returns-then-parts_hold
returns-then-parts_hold c = share_tested (matroid_of c.args.m c.args.valuation) c.args.p c.wide-s.result c.args.set (named c.args.parts.now) _ _ (sym c.if-parts_hold.true ∙ c.parts_hold.ensures _ c.words.ensures) c.outside.ensures c.worth_of.ensures ∙ ap (λ (x : ℕ). share_holds (matroid_of c.args.m c.args.valuation) c.args.p x c.args.set (named c.args.parts.now)) c.wide-s.ensures

pub returns : goal.returns
returns c = share_no (matroid_of c.args.m c.args.valuation) c.args.p c.wide-s.result c.args.set (named c.args.parts.now) (sym c.if-parts_hold.false ∙ c.parts_hold.ensures _ c.words.ensures) ∙ ap (λ (x : ℕ). share_holds (matroid_of c.args.m c.args.valuation) c.args.p x c.args.set (named c.args.parts.now)) c.wide-s.ensures
