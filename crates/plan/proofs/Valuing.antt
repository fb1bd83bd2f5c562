-- The loop of `valuations_of`, and the matroids of the valuations.
use Prim.Native.Nat.{ℕ, ◌^◌, ◌≤◌, ◌<◌}
use mathlib.Core.Path.{◌≡◌, refl, sym, ap, ap₂, ◌∙◌}
use mathlib.Core.Bool.{Bool, true, false, cond}
use mathlib.Core.List.{List, [], ◌∷◌}
use native.Mathlib.Omega.{arith}
use native.Mathlib.Decide.{dec_lt}
use lib.Dec.{ltb}
use lib.ListN.{length, get_or, get_or-eq_default}
use borrow.Author.Tests.{lt-ltb, le-ltb}
use Rattle.matroid.specs.Set.{◌∖◌}
use Rattle.matroid.specs.Cuts.{each}
use Rattle.sets.specs.Bits.{bit, word}
use Rattle.std.proofs.lemmas.List.{get_or_default}
use Rattle.team.specs.declared.Team.{Team}
use Rattle.team.specs.Team.{blank_team}
use Rattle.days.specs.declared.Days.{Days}
use Rattle.days.specs.Days.{always, usable_on}
use Rattle.kinds.specs.declared.Valuation.{Valuation}
use Rattle.kinds.specs.Valuations.{matroid_of, blank_valuation, matroids}
use Rattle.plan.specs.declared.Reading.{Reading}
use Rattle.plan.specs.Teams.{usable, usable_words, glued, glued_to, valuation_of, valuations_of, team_matroid}
use Rattle.plan.specs.Valid.{Valid}
use Rattle.plan.specs.Entries.{Entries}
use Rattle.plan.proofs.Filling.{filled_all}
use Rattle.plan.proofs.Gluing.{word_minus}
use Rattle.sets.proofs.Each.{each_length, each_at}

-- the word of a team, by its days as the code reads them
pub own_word : (shelf : List Days) (m : ℕ) (days : List Days) (t : ℕ) (d : Days) → t < length days → word m (usable_on shelf (get_or days t d)) ≡ word m (usable_on shelf (get_or days t always))
own_word shelf m days t d l = ap (λ (x : Days). word m (usable_on shelf x)) (get_or_default days t d always l)

-- the word of a team of the plan in the table of these words
pub word_at : (r : Reading) (t : ℕ) (words : List ℕ) → r.n ≤ 12 → t < r.n → words ≡ usable_words r.shelf r.m r.days r.n → get_or words t 0 ≡ word r.m (usable r t)
word_at r t words few l is =
    ap (λ (x : List ℕ). get_or x t 0) is ∙ each_at (λ t. cond (ltb t r.n) (word r.m (usable r t)) 0) 0 12 t (omega arith) ∙ ap (λ (b : Bool). cond b (word r.m (usable r t)) 0) (lt-ltb t r.n l)

-- the valuation of a team of the plan
abbrev pub valued_at : Reading → ℕ → Valuation
valued_at r t = record { team = get_or r.teams t blank_team; usable = word r.m (usable r t ∖ glued r); glued = word r.m (glued_to r t) }

-- as the code has it, by the word of the team's usable instruments, and the words of those glued to anyone and to it
pub valued_lem : (r : Reading) → Valid r → (t : ℕ) → t < r.n → (d : Team) (own all free stuck : ℕ) → own ≡ word r.m (usable r t) → all ≡ word r.m (glued r)
    → free < 2 ^ 64 → ((j : ℕ) → bit free j ≡ (bit own ∖ bit all) j) → stuck ≡ word r.m (glued_to r t) → record { team = get_or r.teams t d; usable = free; glued = stuck } ≡ valuation_of r t
valued_lem r valid t l d own all free stuck is-own is_all fits is-free is_stuck =
    let few = valid.few in
    let teams_long = valid.teams_long in
    let same : get_or r.teams t d ≡ get_or r.teams t blank_team = get_or_default r.teams t d blank_team (omega arith) in
    let left : free ≡ word r.m (usable r t ∖ glued r) = word_minus r.m (usable r t) (glued r) free valid.small fits (λ j. is-free j ∙ ap₂ (λ (x y : ℕ). (bit x ∖ bit y) j) is-own is_all) in
    let here : valuation_of r t ≡ valued_at r t = rw (lt-ltb t r.n l) refl in
    (λ j. record { team = same j; usable = left j; glued = is_stuck j }) ∙ sym here

-- beyond the last team there is none
cond_twice : {X : Type 0} (b : Bool) (v d : X) → cond b v d ≡ cond b (cond b v d) d
cond_twice true v d = refl
cond_twice false v d = refl

pub valued_all : (r : Reading) (row : List Valuation) (none : Valuation) (gives : ℕ → Valuation → Type 0) → Entries 12 r.n none gives row → none ≡ blank_valuation
    → ((t : ℕ) (x : Valuation) → t < r.n → gives t x → x ≡ valuation_of r t) → row ≡ valuations_of r
unfolding valuations_of
valued_all r row none gives h blank is = filled_all 12 none gives r.n row h (valuation_of r) is blank_valuation blank (valuation_of r) (λ t l. cond_twice (ltb t r.n) (valued_at r t) blank_valuation)

-- the valuations' matroids are those of the teams
pub valuation_at : (r : Reading) → r.n ≤ 12 → (t : ℕ) → get_or (valuations_of r) t blank_valuation ≡ valuation_of r t
unfolding valuations_of
valuation_at r few t = elim (dec_lt t 12) [
  | yes l ↦ each_at (valuation_of r) blank_valuation 12 t l
  | no d ↦ get_or-eq_default (each 12 (λ t. valuation_of r t ∷ [])) blank_valuation {n = t} (let long = each_length (valuation_of r) 12 in omega arith) ∙ sym (rw (le-ltb t r.n (omega arith)))
]

pub matroids_of : (r : Reading) → r.n ≤ 12 → (t : ℕ) → matroids r.m (valuations_of r) t ≡ team_matroid r t
matroids_of r few t = ap (matroid_of r.m) (valuation_at r few t)

-- the same of a row in hand: it has twelve entries, and entry t is the valuation of team t
pub valued_long : (r : Reading) (row : List Valuation) → row ≡ valuations_of r → length row ≡ 12
unfolding valuations_of
valued_long r row e = ap length e ∙ each_length (valuation_of r) 12

pub valued_here : (r : Reading) (row : List Valuation) (t : ℕ) (d : Valuation) → r.n ≤ 12 → t < r.n → row ≡ valuations_of r → get_or row t d ≡ valuation_of r t
valued_here r row t d few l e = let long = valued_long r row e in get_or_default row t d blank_valuation (omega arith) ∙ ap (λ (x : List Valuation). get_or x t blank_valuation) e ∙ valuation_at r few t
