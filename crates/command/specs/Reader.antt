-- The reader of a plan: "a reader that carries the file and the offset of its next command" (document 01).
use Rattle.std.specs.Prelude.{ℕ, List}
use Rattle.std.specs.Borrow.{Bor}
use Rattle.command.specs.declared.reader.Reader.{Reader}
use Rattle.command.specs.declared.Command.{Command}
use Rattle.command.specs.Command.{found_at}

-- the reader of a file, at an offset
abbrev pub reader_at : Bor (List ℕ) → ℕ → Reader
reader_at file at = record { file = file; at = at }

-- the command at the reader's offset, and the reader at the offset after it
abbrev pub handed_out : Reader → Command
handed_out r = (found_at r.file.now r.at).command

abbrev pub moved_on : Reader → Reader
moved_on r = let found = found_at r.file.now r.at in reader_at r.file found.end
