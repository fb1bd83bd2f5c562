-- What a command that breaks no rule changes.
use Rattle.std.specs.Prelude.{ℕ, ◌+◌, true, false, List, [], ◌∷◌, get_or, set, replicate}
use Rattle.command.specs.declared.Command.{Command}
use Rattle.command.specs.declared.Command.TheVariants.{Missing, Unknown, Short, Start, Caps, Loops, Mounts, Class, Put, Span, Fit, Shelf, Days, Glue, End}
use Rattle.command.specs.declared.State.{State}
use Rattle.team.specs.declared.Team.{Team}
use Rattle.team.specs.Team.{caps_kind, loops_kind, mounts_kind, opened_team, blank_team}

-- "A class with no CLASS has cap 0."
abbrev pub opened_caps : (channels : ℕ) → Team
opened_caps channels = opened_team caps_kind channels 0

-- a LOOPS team has no classes, and so no cap is named
abbrev pub opened_loops : (channels : ℕ) → Team
opened_loops channels = opened_team loops_kind channels 255

-- and neither has a MOUNTS team
abbrev pub opened_mounts : (channels : ℕ) → Team
opened_mounts channels = opened_team mounts_kind channels 255

-- a team with an instrument that a command names: the command's byte, and its operands after the instrument, 255 where it has fewer than four
abbrev pub named_team : Team → (instrument command a b c d : ℕ) → Team
named_team t instrument command a b c d = record {
  kind = t.kind;
  channels = t.channels;
  cap = t.cap;
  named = set t.named instrument command;
  first = set t.first instrument a;
  second = set t.second instrument b;
  third = set t.third instrument c;
  fourth = set t.fourth instrument d;
  days = t.days;
}

-- nothing has been read
abbrev pub start : State
start = record { m = 0; n = 0; capped = replicate 16 false }

-- Row 0 is the pool's, in which SHELFs name the instruments, row n that of the team opened n-th, and row 13 that of the glued instruments, in
-- which GLUEs name them.
abbrev pub open_team : List Team → ℕ → Team
open_team rows n = get_or rows n blank_team

-- the row that a command works on, where n teams have been opened: the last of these rows, and for GLUE that of the glued instruments
abbrev pub row_of : (n : ℕ) → Command → ℕ
row_of n Missing = n
row_of n Unknown = n
row_of n Short = n
row_of n (Start version m) = n
row_of n (Caps channels) = n
row_of n (Loops channels) = n
row_of n (Mounts channels) = n
row_of n (Class class cap) = n
row_of n (Put instrument class) = n
row_of n (Span instrument a b) = n
row_of n (Fit instrument a b c d) = n
row_of n (Shelf instrument a b c d) = n
row_of n (Days a b c d) = n
row_of n (Glue instrument) = 13
row_of n End = n

-- That row after a command, where n teams have been opened. GLUE names an instrument by the team that it is glued to, the one opened n-th.
unfoldable pub changed_team : (n : ℕ) → Team → Command → Team
changed_team n t Missing = t
changed_team n t Unknown = t
changed_team n t Short = t
changed_team n t (Start version m) = t
changed_team n t (Caps channels) = opened_caps channels
changed_team n t (Loops channels) = opened_loops channels
changed_team n t (Mounts channels) = opened_mounts channels
changed_team n t (Class class cap) = record {
  kind = t.kind;
  channels = t.channels;
  cap = set t.cap class cap;
  named = t.named;
  first = t.first;
  second = t.second;
  third = t.third;
  fourth = t.fourth;
  days = t.days;
}
changed_team n t (Put instrument class) = named_team t instrument 5 class 255 255 255
changed_team n t (Span instrument a b) = named_team t instrument 6 a b 255 255
changed_team n t (Fit instrument a b c d) = named_team t instrument 9 a b c d
changed_team n t (Shelf instrument a b c d) = named_team t instrument 10 a b c d
changed_team n t (Days a b c d) = record {
  kind = t.kind;
  channels = t.channels;
  cap = t.cap;
  named = t.named;
  first = t.first;
  second = t.second;
  third = t.third;
  fourth = t.fourth;
  days = 11 ∷ a ∷ b ∷ c ∷ d ∷ [];
}
changed_team n t (Glue instrument) = named_team t instrument n 255 255 255 255
changed_team n t End = t

-- what else changes: START says m, CAPS, LOOPS and MOUNTS open a team with no class capped, CLASS caps a class
unfoldable pub changed_state : State → Command → State
changed_state s Missing = s
changed_state s Unknown = s
changed_state s Short = s
changed_state s (Start version m) = record { m = m; n = s.n; capped = s.capped }
changed_state s (Caps channels) = record { m = s.m; n = s.n + 1; capped = replicate 16 false }
changed_state s (Loops channels) = record { m = s.m; n = s.n + 1; capped = replicate 16 false }
changed_state s (Mounts channels) = record { m = s.m; n = s.n + 1; capped = replicate 16 false }
changed_state s (Class class cap) = record { m = s.m; n = s.n; capped = set s.capped class true }
changed_state s (Put instrument class) = s
changed_state s (Span instrument a b) = s
changed_state s (Fit instrument a b c d) = s
changed_state s (Shelf instrument a b c d) = s
changed_state s (Days a b c d) = s
changed_state s (Glue instrument) = s
changed_state s End = s
