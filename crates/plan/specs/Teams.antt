-- From a reading of a plan the matroid of each team (document 01, "Worth and share"; document 02, notes 4 and 6), and which teams are present (note 2).
use Rattle.std.specs.Prelude.{ℕ, ◌+◌, Bool, ◌&&◌, not, cond, List, [], ◌∷◌, eqb, ltb, get_or}
use Rattle.matroid.specs.Decide.{is_yes}
use Rattle.matroid.specs.Set.{Set, ◌∪◌, ◌∖◌, complement, size, Within}
use Rattle.matroid.specs.Matroid.{Matroid}
use Rattle.matroid.specs.Cuts.{each}
use Rattle.sets.specs.Bits.{word}
use Rattle.team.specs.declared.Team.{Team}
use Rattle.team.specs.Team.{blank_team}
use Rattle.days.specs.declared.Days.{Days}
use Rattle.days.specs.Days.{always, usable_on}
use Rattle.judge.specs.Fault.{named}
use Rattle.kinds.specs.declared.Valuation.{Valuation}
use Rattle.kinds.specs.Valuations.{matroid_of, blank_valuation}
use Rattle.plan.specs.declared.Reading.{Reading}

-- "An instrument can be in a team's independent set only if the team's days lie within its shelf days"
abbrev pub usable : Reading → ℕ → Set
usable r t = usable_on r.shelf (get_or r.days t always)

-- the words of these sets for the first n teams, and 0 beyond
abbrev pub usable_words : (shelf : List Days) (m : ℕ) (days : List Days) (n : ℕ) → List ℕ
usable_words shelf m days n = each 12 (λ t. cond (ltb t n) (word m (usable_on shelf (get_or days t always))) 0 ∷ [])

-- the instruments that have a number in the table of the glued ones
abbrev pub entries : List ℕ → ℕ → Set
entries glue number i = eqb (get_or glue i 255) number

-- the instruments glued to team t, the one opened (t + 1)-th, and those "glued to anyone"
abbrev pub glued_to : Reading → ℕ → Set
glued_to r t = entries r.glue (t + 1)

abbrev pub glued : Reading → Set
glued r = named r.glue

-- The matroid of a team "before this note": by its kind and its channels, of the instruments that its days allow.
abbrev pub before_glue : (m : ℕ) → Team → (usable : ℕ) → Matroid m
before_glue m team usable = matroid_of m (record { team = team; usable = usable; glued = 0 })

abbrev pub team_before : (r : Reading) → ℕ → Matroid r.m
team_before r t = before_glue r.m (get_or r.teams t blank_team) (word r.m (usable r t))

-- how many teams have "glued gauges" that "were not independent before this note", and whether there is none
abbrev pub fallen : Reading → ℕ
fallen r = size r.n (λ t. not (is_yes ((team_before r t).decide (glued_to r t))))

unfoldable pub all_stand : Reading → Bool
all_stand r = eqb (fallen r) 0

-- The valuation of team t: usable are the instruments that its days allow and that are not "glued to anyone", and glued those glued to it.
-- Beyond the last team it is of no kind: "to a team not in the plan every set is worth 0".
abbrev pub valuation_of : Reading → ℕ → Valuation
valuation_of r t =
    cond (ltb t r.n)
    (record { team = get_or r.teams t blank_team; usable = word r.m (usable r t ∖ glued r); glued = word r.m (glued_to r t) })
    blank_valuation

-- the valuations of the twelve places for teams
unfoldable pub valuations_of : Reading → List Valuation
valuations_of r = each 12 (λ t. valuation_of r t ∷ [])

-- the matroid of team t
abbrev pub team_matroid : (r : Reading) → ℕ → Matroid r.m
team_matroid r t = matroid_of r.m (valuation_of r t)

-- "A set is independent for a team if it holds no instrument glued to anyone and, together with the team's glued ones, was independent before this
-- note." For every team of an accepted plan this is what its matroid comes to (theorem `independent_for`).
pub record IndependentFor (r : Reading) (t : ℕ) (S : Set) : Type 0 where
  pub unglued : Within r.m S (complement (glued r))
  pub before : (team_before r t).Indep (S ∪ glued_to r t)

-- the teams that are present: those of the plan "with channels above 0"
abbrev pub present : Reading → Set
present r t = ltb t r.n && ltb 0 (get_or r.teams t blank_team).channels

-- "p, the number of teams with channels above 0"
abbrev pub present_count : Reading → ℕ
present_count r = size r.n (present r)
