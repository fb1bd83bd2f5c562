-- Which rule a command breaks (document 01, "Read"; document 02, notes 1, 4, 5 and 6). "Within a command the order is": 3, 2, 4, 7, 5, 17, 8, 6.
use Rattle.std.specs.Prelude.{ℕ, Bool, true, false, not, List, [], ◌∷◌, eqb, leb, ltb, get_or}
use Rattle.command.specs.declared.Command.{Command}
use Rattle.command.specs.declared.Command.TheVariants.{Missing, Unknown, Short, Start, Caps, Loops, Mounts, Class, Put, Span, Fit, Shelf, Days, Glue, End}
use Rattle.team.specs.Team.{caps_kind, loops_kind, mounts_kind, joints}
use Rattle.days.specs.Days.{day_of}
use Rattle.command.specs.declared.State.{State}
use Rattle.team.specs.declared.Team.{Team}
use Rattle.command.specs.Rule.{Rule, rule, first_broken}

-- whether a command names an instrument, by the table of those commands: 255 stands where none does
abbrev pub named : List ℕ → ℕ → Bool
named table i = not (eqb (get_or table i 255) 255)

-- "a second START ... is 4", "an operand out of its range ... is 5": the version is 1 and m is 0 to 64
abbrev pub start_rules : (at version m : ℕ) → List (Rule ℕ)
start_rules at version m = rule (not (eqb at 0)) 4 ∷ rule (not (eqb version 1)) 5 ∷ rule (ltb 64 m) 5 ∷ []

-- "a thirteenth team is 7"
abbrev pub team_rules : State → List (Rule ℕ)
team_rules s = rule (leb 12 s.n) 7 ∷ []

-- CLASS belongs to an open CAPS team; a class is 0 to 15; "a class capped twice ... is 6"
abbrev pub class_rules : State → (kind class : ℕ) → List (Rule ℕ)
class_rules s kind class = rule (not (eqb kind caps_kind)) 4 ∷ rule (leb 16 class) 5 ∷ rule (get_or s.capped class false) 6 ∷ []

-- PUT belongs to an open CAPS team; "an instrument not below m is 5"; "an instrument named twice in one team is 6"
abbrev pub put_rules : State → Team → (instrument class : ℕ) → List (Rule ℕ)
put_rules s team instrument class =
    rule (not (eqb team.kind caps_kind)) 4 ∷ rule (leb s.m instrument) 5 ∷ rule (leb 16 class) 5 ∷ rule (named team.named instrument) 6 ∷ []

-- SPAN belongs to an open LOOPS team; "joints are now 0 to 39, and 40 to 63 meet 5"; "a SPAN with two equal joints is 8"
abbrev pub span_rules : State → Team → (instrument a b : ℕ) → List (Rule ℕ)
span_rules s team instrument a b =
    rule (not (eqb team.kind loops_kind)) 4
    ∷ rule (leb s.m instrument) 5
    ∷ rule (leb joints a) 5
    ∷ rule (leb joints b) 5
    ∷ rule (eqb a b) 8
    ∷ rule (named team.named instrument) 6
    ∷ []

-- FIT belongs to an open MOUNTS team: "FIT outside such a team is 4, a repeated one 6", also after a FIT with no bits; every mask is in range
abbrev pub fit_rules : State → Team → (instrument : ℕ) → List (Rule ℕ)
fit_rules s team instrument = rule (not (eqb team.kind mounts_kind)) 4 ∷ rule (leb s.m instrument) 5 ∷ rule (named team.named instrument) 6 ∷ []

-- SHELF "stands after START and before any team"; "a from not below its to" is 17; "a second for one instrument" is 6, by the pool's row
abbrev pub shelf_rules : State → (pool : Team) → (instrument from to : ℕ) → List (Rule ℕ)
shelf_rules s pool instrument from to =
    rule (not (eqb s.n 0)) 4 ∷ rule (leb s.m instrument) 5 ∷ rule (leb to from) 17 ∷ rule (named pool.named instrument) 6 ∷ []

-- DAYS "stands in an open team", of any kind; "a second for one ... team is 6"
abbrev pub days_rules : State → Team → (from to : ℕ) → List (Rule ℕ)
days_rules s team from to = rule (eqb s.n 0) 4 ∷ rule (leb to from) 17 ∷ rule (named team.days 0) 6 ∷ []

-- GLUE "in an open team marks one", of any kind; "glued a second time in any team, it is 6 (its PUT, SPAN or FIT is no second naming)", by the row
-- of the glued instruments, which is one for all teams
abbrev pub glue_rules : State → (glued : Team) → (instrument : ℕ) → List (Rule ℕ)
glue_rules s glued instrument = rule (eqb s.n 0) 4 ∷ rule (leb s.m instrument) 5 ∷ rule (named glued.named instrument) 6 ∷ []

-- "END with no team is 4"; 18 is tested after it, by `finished` of plan
abbrev pub end_rules : State → List (Rule ℕ)
end_rules s = rule (eqb s.n 0) 4 ∷ []

-- the rules for a command at an offset, given the row that it works on: the open team's, before any team the pool's, and for GLUE that of the
-- glued instruments. "No END is 2".
abbrev pub rules_of : ℕ → State → Team → Command → List (Rule ℕ)
rules_of at s team Missing = rule true 2 ∷ []
rules_of at s team Unknown = rule true 3 ∷ []
rules_of at s team Short = rule true 2 ∷ []
rules_of at s team (Start version m) = start_rules at version m
rules_of at s team (Caps channels) = team_rules s
rules_of at s team (Loops channels) = team_rules s
rules_of at s team (Mounts channels) = team_rules s
rules_of at s team (Class class cap) = class_rules s team.kind class
rules_of at s team (Put instrument class) = put_rules s team instrument class
rules_of at s team (Span instrument a b) = span_rules s team instrument a b
rules_of at s team (Fit instrument a b c d) = fit_rules s team instrument
rules_of at s team (Shelf instrument a b c d) = shelf_rules s team instrument (day_of a b) (day_of c d)
rules_of at s team (Days a b c d) = days_rules s team (day_of a b) (day_of c d)
rules_of at s team (Glue instrument) = glue_rules s team instrument
rules_of at s team End = end_rules s

-- the number of the first rule that a command breaks, and 0 where it breaks none
unfoldable pub fault : ℕ → State → Team → Command → ℕ
unfolding joints
fault at s team command = first_broken 0 (rules_of at s team command)

-- whether the command is END
abbrev pub is_end : Command → Bool
is_end Missing = false
is_end Unknown = false
is_end Short = false
is_end (Start version m) = false
is_end (Caps channels) = false
is_end (Loops channels) = false
is_end (Mounts channels) = false
is_end (Class class cap) = false
is_end (Put instrument class) = false
is_end (Span instrument a b) = false
is_end (Fit instrument a b c d) = false
is_end (Shelf instrument a b c d) = false
is_end (Days a b c d) = false
is_end (Glue instrument) = false
is_end End = true
