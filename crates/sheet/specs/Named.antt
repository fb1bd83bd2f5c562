-- What a row of GIVEs or PARTs names: to each instrument a team or a part.
use Rattle.std.specs.Prelude.{ℕ, ◌+◌, ◌*◌, List, get_or}

-- the last byte of the command of an instrument
abbrev pub named : List ℕ → ℕ → ℕ
named row g = get_or row (3 * g + 2) 0
