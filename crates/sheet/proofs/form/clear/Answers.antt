use Prim.Native.Nat.{◌^◌, ◌≤◌, ◌<◌}
use mathlib.Core.Path.{sym}
use native.Mathlib.Omega.{arith}
use native.Mathlib.Nat.{one-mul, mod-eq_of_lt}
use lib.Pow.{pow_mono, pow-lt}
use borrow.Author.Tests.{lt-ltb}
use Rattle.sheet.proofs.form.clear.Goals as goal

pub returns-then-room-ge8 : goal.returns-then-room-ge8
returns-then-room-ge8 c = let p : 2 ^ 8 ≤ 2 ^ c.args.room = pow_mono {i = 8} {j = c.args.room} c.if-room-ge8.true in sym (lt-ltb c.args.byte (2 ^ c.args.room) (omega arith))

pub returns : goal.returns
returns c = let p : 2 ^ c.args.room < 2 ^ 64 = pow-lt {i = c.args.room} {j = 64} (omega arith) in rw (one-mul, mod-eq_of_lt p, c.wide.ensures)
