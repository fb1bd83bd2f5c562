-- Read (document 01): a plan file's meaning.
use Rattle.std.specs.Prelude.{ℕ, zero, suc, ◌+◌, true, false, not, cond, List, [], ◌∷◌, eqb, ltb, length, get_or, set, replicate, Ok, Result}
use Rattle.matroid.specs.Cuts.{each}
use Rattle.plan.specs.declared.Reading.{Reading}
use Rattle.command.specs.declared.State.{State}
use Rattle.command.specs.declared.refusal.Refusal.{Refusal}
use Rattle.command.specs.Refusal.{refuse}
use Rattle.team.specs.declared.Team.{Team}
use Rattle.command.specs.Rule.{rule, first_broken}
use Rattle.command.specs.Command.{command_at, bytes_of}
use Rattle.judge.specs.Fault.{fault, is_end}
use Rattle.carry.specs.Carry.{start, open_team, row_of, changed_team, changed_state}
use Rattle.row.specs.Days.{days_of, shelf_of}
use Rattle.team.specs.Team.{blank_team}
use Rattle.days.specs.declared.Days.{Days}
use Rattle.days.specs.Days.{always}
use Rattle.plan.specs.Teams.{all_stand}

-- a team in an answer that refuses
abbrev pub zero_team : Team
zero_team = record {
  kind = 0;
  channels = 0;
  cap = replicate 16 0;
  named = replicate 64 0;
  first = replicate 64 0;
  second = replicate 64 0;
  third = replicate 64 0;
  fourth = replicate 64 0;
  days = replicate 5 0;
}

-- and its days
abbrev pub zero_days : Days
zero_days = record { from = 0; to = 0 }

-- "A refusal answers its number and place; ... every other part of the answer is then 0."
abbrev pub refused : (number place : ℕ) → Reading
refused number place = record {
  refusal = number;
  place = place;
  m = 0;
  n = 0;
  teams = replicate 12 zero_team;
  shelf = replicate 64 zero_days;
  days = replicate 12 zero_days;
  glue = replicate 64 0;
}

-- whether a file is accepted, by its reading: the number and the place where it is not
abbrev pub acceptance : Reading → Result Unit Refusal
acceptance r = cond (eqb r.refusal 0) (Ok tt) (refuse r.refusal r.place)

-- of the rows that have been read, row 0 is the pool's, row n that of the team opened n-th and row 13 that of the glued instruments
abbrev pub teams_of : List Team → List Team
teams_of rows = each 12 (λ t. get_or rows (t + 1) blank_team ∷ [])

-- the days of each team
abbrev pub team_days : List Team → List Days
team_days rows = each 12 (λ t. days_of (get_or rows (t + 1) blank_team) ∷ [])

-- the shelf days of each of m instruments, by the pool's row
abbrev pub shelf_days : (m : ℕ) → Team → List Days
shelf_days m pool = each 64 (λ i. cond (ltb i m) (shelf_of pool i) always ∷ [])

-- "the answer is m, n and each team's kind and operands", and the shelf days of each instrument, the days of each team and the team that each
-- instrument is glued to
abbrev pub accepted : State → List Team → Reading
accepted s rows = record {
  refusal = 0;
  place = 0;
  m = s.m;
  n = s.n;
  teams = teams_of rows;
  shelf = shelf_days s.m (get_or rows 0 blank_team);
  days = team_days rows;
  glue = (get_or rows 13 blank_team).named;
}

-- At the offset of an END in its place: "18, a team whose glued gauges were not independent before this note; tested at END after 4, place that
-- of END", then "bytes after END are 9", at "the first extra byte".
abbrev pub finished : List ℕ → ℕ → State → List Team → Reading
finished file at s rows =
    let r = accepted s rows in
    first_broken r (rule (not (all_stand r)) (refused 18 at) ∷ rule (ltb (at + 1) (length file)) (refused 9 (at + 1)) ∷ [])

-- Reading from an offset on, by at most so many commands: "The first faulty command decides", "The place is the offset of the command". Where
-- no END is among them: "No END is 2", at "the file's length".
unfoldable pub read_from : ℕ → List ℕ → ℕ → State → List Team → Reading
read_from zero file at s rows = refused 2 (length file)
read_from (suc k) file at s rows =
    let command = command_at file at in
    let row = open_team rows (row_of s.n command) in
    let number = fault at s row command in
    elim (eqb number 0) [
      | false ↦ refused number at
      | true ↦ elim (is_end command) [
        | true ↦ finished file at s rows
        | false ↦
            let s' = changed_state s command in
            read_from k file (at + bytes_of command) s' (set rows (row_of s'.n command) (changed_team s'.n row command))
      ]
    ]

-- "An empty file or a first byte other than 01 is 1." A file of so many bytes has no more commands than that before its END.
unfoldable pub read_plan : List ℕ → Reading
read_plan file = elim (eqb (get_or file 0 0) 1) [
  | false ↦ refused 1 0
  | true ↦ read_from (suc (length file)) file 0 start (replicate 14 blank_team)
]
