use Prim.Native.Nat.{◌<◌, ◌+◌, ◌-◌}
use native.Mathlib.Omega.{arith}
use lib.ListN.{get_or}
use Rattle.sheet.proofs.Numbers.{read_none, read_word, read_more, read_done}
use borrow.Author.Rules.{rules}
use Rattle.sheet.proofs.word_at.Goals as goal

pub loop-k-init : goal.loop-k-init
loop-k-init c = (search rules, read_none _ _)

pub overflow_mul-word : goal.overflow_mul-word
overflow_mul-word c = omega (arith, read_word _ _ _ _ c.loop-k.invariant.1 c.loop-k-test.true 0 (omega arith))

pub overflow_add-word-in-loop-k : goal.overflow_add-word-in-loop-k
overflow_add-word-in-loop-k c = let b : get_or c.args.sheet.now (c.args.at + 7 - c.loop-k.k) 0 < 256 = omega (arith, c.shared_slice_known-1.given (c.args.at + 7 - c.loop-k.k)) in omega (arith, read_word _ _ _ _ c.loop-k.invariant.1 c.loop-k-test.true _ b)

pub loop-k-preserved : goal.loop-k-preserved
loop-k-preserved c = let b : get_or c.args.sheet.now (c.args.at + 7 - c.loop-k.k) 0 < 256 = omega (arith, c.shared_slice_known-1.given (c.args.at + 7 - c.loop-k.k)) in (search rules, read_more _ _ _ _ c.loop-k.invariant.1 c.loop-k-test.true b)

pub returns : goal.returns
returns c = read_done _ _ _ _ c.loop-k.invariant.0 c.loop-k-test.false c.loop-k.invariant.1
