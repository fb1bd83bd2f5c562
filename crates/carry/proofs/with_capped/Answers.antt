use Prim.Native.Nat.{◌≤◌}
use mathlib.Core.Path.{◌≡◌, refl}
use lib.ListN.{length}
use lib.Seq.{set_out}
use native.Mathlib.Omega.{arith}
use Rattle.carry.specs.Carry.{changed_state}
use borrow.Author.Rules.{rules}
use Rattle.carry.proofs.with_capped.Goals as goal

pub returns-then-at-lt16 : goal.returns-then-at-lt16
unfolding changed_state
returns-then-at-lt16 c = rw c.from-at.ensures refl

pub returns-else-at-lt16 : goal.returns-else-at-lt16
unfolding changed_state
returns-else-at-lt16 c = let l : length c.args.s.capped ≡ 16 = search rules in let o : length c.args.s.capped ≤ c.args.class = omega arith in simp set_out
