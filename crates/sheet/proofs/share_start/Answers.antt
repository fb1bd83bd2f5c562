use native.Mathlib.Omega.{arith}
use Rattle.sheet.specs.Layout.{share_start}
use Rattle.sheet.proofs.Sizes.{small_product}
use borrow.Author.Rules.{rules}
use Rattle.sheet.proofs.share_start.Goals as goal

pub overflow_mul-result-2 : goal.overflow_mul-result-2
overflow_mul-result-2 c = omega (arith, small_product _ _ c.requires.0 c.requires.1)

pub overflow_add-result-3 : goal.overflow_add-result-3
overflow_add-result-3 c = omega (arith, small_product _ _ c.requires.0 c.requires.1)

pub returns : goal.returns
unfolding share_start
returns c = search rules
