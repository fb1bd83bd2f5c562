-- The days that a row names.
use Rattle.std.specs.Prelude.{ℕ, get_or}
use Rattle.team.specs.declared.Team.{Team}
use Rattle.days.specs.declared.Days.{Days}
use Rattle.days.specs.Days.{given}

-- the days of a team, by its DAYS
abbrev pub days_of : Team → Days
days_of t = given (get_or t.days 0 255) (get_or t.days 1 255) (get_or t.days 2 255) (get_or t.days 3 255) (get_or t.days 4 255)

-- the shelf days of an instrument, by the pool's row
abbrev pub shelf_of : Team → ℕ → Days
shelf_of pool i = given (get_or pool.named i 255) (get_or pool.first i 255) (get_or pool.second i 255) (get_or pool.third i 255) (get_or pool.fourth i 255)
