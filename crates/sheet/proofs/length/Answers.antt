use native.Mathlib.Omega.{arith}
use Rattle.sheet.specs.Layout.{length_of}
use Rattle.sheet.proofs.Sizes.{small_product}
use borrow.Author.Rules.{rules}
use Rattle.sheet.proofs.length.Goals as goal

pub overflow_mul-result-3 : goal.overflow_mul-result-3
overflow_mul-result-3 c = omega (arith, small_product _ _ c.requires.0 c.requires.1)

pub overflow_add-result-3 : goal.overflow_add-result-3
overflow_add-result-3 c = omega (arith, small_product _ _ c.requires.0 c.requires.1)

pub returns : goal.returns
unfolding length_of
returns c = search rules
