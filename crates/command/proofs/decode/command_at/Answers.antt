use Prim.Native.Nat.{◌+◌, ◌<◌, ◌≤◌}
use mathlib.Core.Path.{◌≡◌, sym, ◌∙◌}
use native.Mathlib.Omega.{arith}
use lib.ListN.{length, get_or}
use Rattle.sets.proofs.Tests.{decided}
use Rattle.command.specs.Command.{command_at, width_of}
use Rattle.command.proofs.decode.command_at.Goals as goal

pub returns-then-file-at : goal.returns-then-file-at
unfolding command_at
returns-then-file-at c = let h1 = c.if-file-at.true in simp (decided, h1)

pub returns-then-w-eq0 : goal.returns-then-w-eq0
unfolding command_at
returns-then-w-eq0 c = let h1 = c.if-file-at.false in
    let h2 : width_of (get_or c.args.file.now c.args.at 0) ≡ 0 = sym c.width_of-w.ensures ∙ c.if-w-eq0.true in
    simp (decided, h1, h2)

pub returns-then-file-at-2 : goal.returns-then-file-at-2
unfolding command_at
returns-then-file-at-2 c = let w = width_of (get_or c.args.file.now c.args.at 0) in
    let h1 = c.if-file-at.false in
    let same : c.width_of-w.result ≡ w = c.width_of-w.ensures in
    let h2 : w ≡ 0 → ⊥ = λ z. c.if-w-eq0.false (same ∙ z) in
    let h3 : length c.args.file.now < c.args.at + w = omega (arith, c.if-file-at-2.true) in
    simp (decided, h1, h2, h3)

pub returns : goal.returns
unfolding command_at
returns c = let w = width_of (get_or c.args.file.now c.args.at 0) in
    let h1 = c.if-file-at.false in
    let same : c.width_of-w.result ≡ w = c.width_of-w.ensures in
    let h2 : w ≡ 0 → ⊥ = λ z. c.if-w-eq0.false (same ∙ z) in
    let h3 : c.args.at + w ≤ length c.args.file.now = omega (arith, c.if-file-at-2.false, h1) in
    simp (decided, h1, h2, h3) c.command_of.ensures
