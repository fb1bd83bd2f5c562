-- A command that breaks no rule stands whole at its offset.
use Prim.Native.Nat.{ℕ}
use mathlib.Core.Path.{◌≡◌}
use mathlib.Core.Logic.{◌≢◌, ⊎_elim}
use mathlib.Core.List.{List}
use native.Mathlib.Omega.{arith}
use Rattle.command.specs.declared.Command.{Command}
use Rattle.command.specs.declared.Command.TheVariants.{Missing, Unknown, Short, Start, Caps, Loops, Mounts, Class, Put, Span, Fit, Shelf, Days, Glue, End}
use Rattle.command.specs.declared.State.{State}
use Rattle.team.specs.declared.Team.{Team}
use Rattle.command.specs.Command.{command_at, bytes_of}
use Rattle.command.proofs.Standing.{Whole, stands}
use Rattle.judge.specs.Fault.{fault}

-- what has no bytes breaks a rule
breaks : (at : ℕ) (s : State) (team : Team) (command : Command) → bytes_of command ≡ 0 → fault at s team command ≢ 0
unfolding fault
breaks at s team Missing z e = omega arith
breaks at s team Unknown z e = omega arith
breaks at s team Short z e = omega arith
breaks at s team (Start version m) z e = omega arith
breaks at s team (Caps channels) z e = omega arith
breaks at s team (Loops channels) z e = omega arith
breaks at s team (Mounts channels) z e = omega arith
breaks at s team (Class class cap) z e = omega arith
breaks at s team (Put instrument class) z e = omega arith
breaks at s team (Span instrument a b) z e = omega arith
breaks at s team (Fit instrument a b c d) z e = omega arith
breaks at s team (Shelf instrument a b c d) z e = omega arith
breaks at s team (Days a b c d) z e = omega arith
breaks at s team (Glue instrument) z e = omega arith
breaks at s team End z e = omega arith

-- a command that breaks no rule stands whole
pub whole : (file : List ℕ) (at : ℕ) (s : State) (team : Team) → fault at s team (command_at file at) ≡ 0 → Whole file at (command_at file at)
whole file at s team e = ⊎_elim (λ z. absurd (breaks at s team (command_at file at) z e)) (λ w. w) (stands file at)
