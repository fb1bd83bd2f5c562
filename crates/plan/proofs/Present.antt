-- The teams that are present, and what it is to be away.
use Prim.Native.Nat.{ℕ, ◌≤◌, ◌<◌}
use mathlib.Core.Path.{◌≡◌, ap, ◌∙◌, subst}
use mathlib.Core.Bool.{not}
use mathlib.Core.List.{List}
use native.Mathlib.Omega.{arith}
use lib.Dec.{T, ltb}
use lib.ListN.{length, get_or}
use borrow.Author.Tests.{lt-ltb, ltb-false}
use Rattle.matroid.specs.Taut.{T→false}
use Rattle.matroid.specs.Set.{Set}
use Rattle.matroid.specs.Matroid.{Matroid, worth}
use Rattle.std.proofs.lemmas.List.{get_or_default}
use Rattle.team.specs.declared.Team.{Team}
use Rattle.team.specs.Team.{blank_team}
use Rattle.kinds.specs.declared.Valuation.{Valuation}
use Rattle.kinds.specs.Valuations.{matroids}
use Rattle.kinds.proofs.Nothing.{idle_worth}
use Rattle.plan.specs.declared.Reading.{Reading}
use Rattle.plan.specs.Teams.{valuation_of, valuations_of, team_matroid, present}
use Rattle.plan.proofs.Valuing.{matroids_of}

-- the teams that have channels
abbrev pub manned : List Team → Set
manned teams t = ltb 0 (get_or teams t blank_team).channels

-- of team k, as the code reads it
pub manned_here : (teams : List Team) (k : ℕ) (d : Team) → k < length teams → ltb 0 (get_or teams k d).channels ≡ manned teams k
manned_here teams k d l = ap (λ (x : Team). ltb 0 x.channels) (get_or_default teams k d blank_team l)

-- to a team that is away every set is worth 0
away_worth : (r : Reading) (t : ℕ) → t < r.n → T (not (present r t)) → (S : Set) → worth (team_matroid r t) S ≡ 0
away_worth r t l away = idle_worth r.m (valuation_of r t) idle
  where
    idle : (valuation_of r t).team.channels ≡ 0
    idle = rw (lt-ltb t r.n l) (let z = ltb-false 0 (get_or r.teams t blank_team).channels (T→false _ (rw (lt-ltb t r.n l) at away)) in omega arith)

-- the same by a row of valuations and a set of teams
pub away_row : (r : Reading) (row : List Valuation) → r.n ≤ 12 → row ≡ valuations_of r → (here : Set) → here ≡ present r
    → (t : ℕ) → t < r.n → T (not (here t)) → (S : Set) → worth (matroids r.m row t) S ≡ 0
away_row r row few e here is-here t l away S =
    ap (λ (x : List Valuation). worth (matroids r.m x t) S) e
    ∙ ap (λ (M : Matroid r.m). worth M S) (matroids_of r few t)
    ∙ away_worth r t l (subst (λ (A : Set). T (not (A t))) is-here away) S
