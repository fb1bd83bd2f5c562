-- The faults of a command and the paper's numbers of them (document 01, "Read"; document 02, notes 1, 4, 5 and 6).
use Rattle.std.specs.Prelude.{ℕ, Bool, cond, Ok, Err, Result}
use Rattle.judge.specs.declared.fault.Fault.{Fault}
use Rattle.judge.specs.declared.fault.Fault.TheVariants.{Cut, Unknown, Misplaced, OutOfRange, Repeated, TooManyTeams, EqualJoints, Unordered}

-- the number of a fault
abbrev pub numbered : Fault → ℕ
numbered Cut = 2
numbered Unknown = 3
numbered Misplaced = 4
numbered OutOfRange = 5
numbered Repeated = 6
numbered TooManyTeams = 7
numbered EqualJoints = 8
numbered Unordered = 17

-- the number of what is broken, and 0 where nothing is
abbrev pub broken : Result Unit Fault → ℕ
broken (Ok x) = 0
broken (Err fault) = numbered fault

-- one rule: its fault where it is broken
abbrev pub held : Bool → Fault → Result Unit Fault
held broken fault = cond broken (Err fault) (Ok tt)
