-- Loan days (document 02, note 4).
use Rattle.std.specs.Prelude.{ℕ, ◌+◌, ◌*◌, Bool, ◌&&◌, not, cond, List, eqb, leb, get_or}
use Rattle.matroid.specs.Set.{Set}
use Rattle.days.specs.declared.Days.{Days}

-- "Without a SHELF or DAYS the days are 0 to 65,535."
abbrev pub always : Days
always = record { from = 0; to = 65535 }

-- whether days are others than these
abbrev pub dated : Days → Bool
dated days = not (eqb days.from 0 && eqb days.to 65535)

-- a day of "16 bits", the low byte first
abbrev pub day_of : (low high : ℕ) → ℕ
day_of low high = low + 256 * high

-- the days of a command by its byte and "from, to, 16 bits each"; 255 stands where there is no command
abbrev pub given : (command a b c d : ℕ) → Days
given command a b c d = cond (eqb command 255) always (record { from = day_of a b; to = day_of c d })

-- "the team's days lie within its shelf days; equal ends are within"
abbrev pub within : (days shelf : Days) → Bool
within days shelf = leb shelf.from days.from && leb days.to shelf.to

-- the instruments that a team with such days can have, by the shelf days of each
abbrev pub usable_on : List Days → Days → Set
usable_on shelf days i = within days (get_or shelf i always)
