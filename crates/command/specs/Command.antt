-- What stands at an offset of a plan file (document 01, "The plan file").
use Rattle.std.specs.Prelude.{ℕ, ◌+◌, cond, List, [], ◌∷◌, eqb, leb, length, get_or}
use Rattle.command.specs.declared.Command.{Command}
use Rattle.command.specs.declared.Command.TheVariants.{Missing, Unknown, Short, Start, Caps, Loops, Mounts, Class, Put, Span, Fit, Shelf, Days, Glue, End}
use Rattle.command.specs.declared.decode.Found.{Found}

-- How many bytes a command has, its operands included: 01 START 3, 02 CAPS 2, 03 LOOPS 2, 04 CLASS 3, 05 PUT 3, 06 SPAN 4, 07 END 1,
-- 08 MOUNTS 2, 09 FIT 6, 0A SHELF 6, 0B DAYS 5, 0C GLUE 2. Any other byte has 0: "byte 3 begins at 0D".
abbrev pub width_of : ℕ → ℕ
width_of byte = get_or (0 ∷ 3 ∷ 2 ∷ 2 ∷ 3 ∷ 3 ∷ 4 ∷ 1 ∷ 2 ∷ 6 ∷ 6 ∷ 5 ∷ 2 ∷ []) byte 0

-- the command of a byte from 01 to 0C, with the operands that it takes of these; FIT's mounts are four bytes, and each day of SHELF and DAYS
-- two, the low one first
abbrev pub command_of : (byte a b c d e : ℕ) → Command
command_of byte a b c d e =
    cond (eqb byte 1) (Start a b)
    (cond (eqb byte 2) (Caps a)
    (cond (eqb byte 3) (Loops a)
    (cond (eqb byte 4) (Class a b)
    (cond (eqb byte 5) (Put a b)
    (cond (eqb byte 6) (Span a b c)
    (cond (eqb byte 8) (Mounts a)
    (cond (eqb byte 9) (Fit a b c d e)
    (cond (eqb byte 10) (Shelf a b c d e)
    (cond (eqb byte 11) (Days a b c d)
    (cond (eqb byte 12) (Glue a)
    End))))))))))

-- the command of a byte, with the operands that stand after an offset
abbrev pub command_by : List ℕ → (at byte : ℕ) → Command
command_by file at byte = command_of byte (get_or file (at + 1) 0) (get_or file (at + 2) 0) (get_or file (at + 3) 0) (get_or file (at + 4) 0) (get_or file (at + 5) 0)

-- the command at an offset, or that the file ends there, that the byte is not 01 to 0C, or that operands are cut short
unfoldable pub command_at : List ℕ → ℕ → Command
command_at file at =
    let byte = get_or file at 0 in
    cond (leb (length file) at) Missing
    (cond (eqb (width_of byte) 0) Unknown
    (cond (leb (at + width_of byte) (length file)) (command_by file at byte)
    Short))

-- how many bytes a command has
abbrev pub bytes_of : Command → ℕ
bytes_of Missing = 0
bytes_of Unknown = 0
bytes_of Short = 0
bytes_of (Start version m) = 3
bytes_of (Caps channels) = 2
bytes_of (Loops channels) = 2
bytes_of (Mounts channels) = 2
bytes_of (Class class cap) = 3
bytes_of (Put instrument class) = 3
bytes_of (Span instrument a b) = 4
bytes_of (Fit instrument a b c d) = 6
bytes_of (Shelf instrument a b c d) = 6
bytes_of (Days a b c d) = 5
bytes_of (Glue instrument) = 2
bytes_of End = 1

-- the command at an offset, and the offset after it
abbrev pub found_at : List ℕ → ℕ → Found
found_at file at = record { command = command_at file at; end = at + bytes_of (command_at file at) }
