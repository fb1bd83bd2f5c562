-- The proved table: the cases that document 01 marks P, computed from the definitions and the plan's bytes.
use Prim.Native.Nat.{ℕ, zero, suc, ◌+◌, ◌-◌, ◌<◌}
use mathlib.Core.Path.{◌≡◌, refl, sym, ap, ◌∙◌, subst, subst⁻¹, fun_ext}
use mathlib.Core.Bool.{Bool, true, false, not, ◌&&◌, cond}
use mathlib.Core.List.{List, [], ◌∷◌}
use native.Mathlib.Omega.{arith}
use native.Mathlib.Decide.{dec_le, dec_lt, ℕ_discrete}
use lib.Dec.{T, eqb, ltb}
use lib.ListN.{length, get_or, replicate}
use borrow.Author.Tests.{lt-ltb, le-ltb, eq-eqb, ne_eqb}
use Rattle.matroid.specs.Taut.{and_left, and_right}
use Rattle.matroid.specs.Decide.{is_yes}
use Rattle.matroid.specs.Set.{Set, ◌∪◌, ◌∖◌, size}
use Rattle.matroid.specs.SetLaws.{size_agree, within?}
use Rattle.matroid.specs.Sum.{sum}
use Rattle.matroid.specs.Search.{largest}
use Rattle.matroid.specs.Matroid.{Matroid, worth}
use Rattle.matroid.specs.Build.{restrict, contracted}
use Rattle.matroid.specs.Division.{bundle, total}
use Rattle.matroid.specs.Cuts.{cuts}
use Rattle.matroid.specs.Share.{least, share}
use Rattle.matroid.specs.Best.{best}
use Rattle.matroid.proofs.Rank.{worth_same}
use Rattle.sets.specs.Bits.{bit, word}
use Rattle.sets.proofs.Gathering.{bit_word}
use Rattle.team.specs.declared.Team.{Team}
use Rattle.team.specs.Team.{blank_team}
use Rattle.days.specs.Days.{always, within}
use Rattle.caps.specs.Partition.{partition}
use Rattle.loops.specs.Graphic.{graphic}
use Rattle.kinds.specs.Teams.{kind_matroid}
use Rattle.kinds.specs.declared.Valuation.{Valuation}
use Rattle.kinds.specs.Valuations.{matroid_of, matroid_of_lem}
use Rattle.kinds.proofs.Above.{plain_worth}
use Rattle.plan.specs.declared.Reading.{Reading}
use Rattle.command.specs.declared.Command.{Command}
use Rattle.command.specs.declared.State.{State}
use Rattle.command.specs.Rule.{rule, first_broken}
use Rattle.command.specs.Command.{command_at, bytes_of}
use Rattle.judge.specs.Fault.{fault, is_end}
use Rattle.carry.specs.Carry.{start, changed_team, changed_state}
use Rattle.plan.specs.Read.{refused, accepted, finished, read_from, read_plan}
use Rattle.plan.specs.Teams.{usable, glued, glued_to, team_before, all_stand, team_matroid, present, present_count}
use Rattle.plan.proofs.Steps.{number, rows_after, step_refused, step_end, step_next, plan_start, plan_none}
use Rattle.plan.proofs.Gluing.{yes_worth}
use Rattle.plan.proofs.Glued.{worth_above_glued}
use Rattle.plan.proofs.Answers.{absent_any, rest_zero}

-- ---- from a team's valuation to its tables

-- the matroid of a team before any instrument is glued, by its kind and tables and its usable instruments
abbrev own_matroid : (r : Reading) → ℕ → Matroid r.m
own_matroid r t = restrict (kind_matroid r.m (get_or r.teams t blank_team)) (bit (word r.m (usable r t)))

before_worth : (r : Reading) (t : ℕ) (S : Set) → worth (team_before r t) S ≡ worth (own_matroid r t) S
before_worth r t = plain_worth r.m (get_or r.teams t blank_team) (word r.m (usable r t))

-- whether the glued instruments of every team stand, by what they are worth
abbrev own_stand : Reading → Bool
own_stand r = eqb (size r.n (λ t. not (eqb (worth (own_matroid r t) (glued_to r t)) (size r.m (glued_to r t))))) 0

own_stand_lem : (r : Reading) → all_stand r ≡ own_stand r
unfolding all_stand
own_stand_lem r =
    ap (λ (k : ℕ). eqb k 0)
    (size_agree r.n (λ t. not (is_yes ((team_before r t).decide (glued_to r t)))) (λ t. not (eqb (worth (own_matroid r t) (glued_to r t)) (size r.m (glued_to r t))))
    (λ t l. ap not (sym (yes_worth (team_before r t) (glued_to r t) (worth (own_matroid r t) (glued_to r t)) (size r.m (glued_to r t)) (sym (before_worth r t (glued_to r t))) refl))))

-- Read, with this test in place of that by the matroids, which are shut
own_end : List ℕ → ℕ → State → List Team → Reading
own_end file at s rows = let r = accepted s rows in first_broken r (rule (not (own_stand r)) (refused 18 at) ∷ rule (ltb (at + 1) (length file)) (refused 9 (at + 1)) ∷ [])

own_from : ℕ → List ℕ → ℕ → State → List Team → Reading
own_from zero file at s rows = refused 2 (length file)
own_from (suc k) file at s rows =
    let command = command_at file at in
    elim (eqb (number file at s rows) 0) [
      | false ↦ refused (number file at s rows) at
      | true ↦ elim (is_end command) [
        | true ↦ own_end file at s rows
        | false ↦ own_from k file (at + bytes_of command) (changed_state s command) (rows_after s rows command)
      ]
    ]

own_read : List ℕ → Reading
own_read file = elim (eqb (get_or file 0 0) 1) [
  | false ↦ refused 1 0
  | true ↦ own_from (suc (length file)) file 0 start (replicate 14 blank_team)
]

own_from_lem : (k : ℕ) (file : List ℕ) (at : ℕ) (s : State) (rows : List Team) → read_from k file at s rows ≡ own_from k file at s rows
unfolding read_from own_from own_end
own_from_lem zero file at s rows = refl
own_from_lem (suc k) file at s rows = go (ℕ_discrete f 0) (is_end command) refl (own_from_lem k file (at + bytes_of command) (changed_state s command) (rows_after s rows command))
  where
    command : Command
    command = command_at file at

    f : ℕ
    f = number file at s rows

    ends : finished file at s rows ≡ own_end file at s rows
    ends = ap (λ (b : Bool). first_broken (accepted s rows) (rule (not b) (refused 18 at) ∷ rule (ltb (at + 1) (length file)) (refused 9 (at + 1)) ∷ [])) (own_stand_lem (accepted s rows))

    go : Dec (f ≡ 0) → (b : Bool) → is_end command ≡ b → read_from k file (at + bytes_of command) (changed_state s command) (rows_after s rows command) ≡ own_from k file (at + bytes_of command) (changed_state s command) (rows_after s rows command)
        → read_from (suc k) file at s rows ≡ own_from (suc k) file at s rows
    go (no d) b e rest = step_refused k file at s rows d ∙ sym (rw (ne_eqb f 0 d, own_from) refl)
    go (yes z) true e rest = step_end k file at s rows z e ∙ ends ∙ sym (rw (eq-eqb f 0 z, e, own_from) refl)
    go (yes z) false e rest = step_next k file at s rows z e ∙ rest ∙ sym (rw (eq-eqb f 0 z, e, own_from) refl)

own_read_lem : (file : List ℕ) → read_plan file ≡ own_read file
unfolding own_read
own_read_lem file = go (ℕ_discrete (get_or file 0 0) 1)
  where
    go : Dec (get_or file 0 0 ≡ 1) → read_plan file ≡ own_read file
    go (yes e) = plan_start file e ∙ own_from_lem (suc (length file)) file 0 start (replicate 14 blank_team) ∙ sym (rw (eq-eqb (get_or file 0 0) 1 e, own_read) refl)
    go (no d) = plan_none file d ∙ sym (rw (ne_eqb (get_or file 0 0) 1 d, own_read) refl)

-- what a set is worth to a team of the plan above its glued instruments, by its tables, and 0 to a team not in the plan
abbrev own_worth : Reading → ℕ → Set → ℕ
own_worth r t S = cond (ltb t r.n) (worth (own_matroid r t) ((S ∖ glued r) ∪ glued_to r t) - size r.m (glued_to r t)) 0

-- it is what the team's valuation says
own_worth_lem : (file : List ℕ) (t : ℕ) → worth (team_matroid (read_plan file) t) ≡ own_worth (read_plan file) t
own_worth_lem file t = fun_ext (λ S. go S (dec_lt t (read_plan file).n) (ℕ_discrete (read_plan file).refusal 0))
  where
    r : Reading
    r = read_plan file

    go : (S : Set) → Dec (t < r.n) → Dec (r.refusal ≡ 0) → worth (team_matroid r t) S ≡ own_worth r t S
    go S (yes l) (yes z) = let above = worth_above_glued file z t l S in let own = before_worth r t ((S ∖ glued r) ∪ glued_to r t) in rw (ap (λ (b : Bool). cond b (worth (own_matroid r t) ((S ∖ glued r) ∪ glued_to r t) - size r.m (glued_to r t)) 0) (lt-ltb t r.n l)) (omega arith)
    go S (yes l) (no d) = let none = (rest_zero file).1 d in absurd (omega arith)
    go S (no o) _ = rw (ap (λ (b : Bool). cond b (worth (own_matroid r t) ((S ∖ glued r) ∪ glued_to r t) - size r.m (glued_to r t)) 0) (le-ltb t r.n (omega arith))) (absent_any r t S (omega arith))

-- ---- the cases

-- what a set, as a word, is worth to a team of a plan
abbrev pub worth_in : List ℕ → ℕ → ℕ → ℕ
worth_in file team set = worth (team_matroid (read_plan file) team) (bit set)

-- a team's share among those present, and the best total
abbrev share_in : List ℕ → ℕ → ℕ
share_in file team = share (team_matroid (read_plan file) team) (present_count (read_plan file))

abbrev best_in : List ℕ → ℕ
best_in file = best (read_plan file).n (team_matroid (read_plan file))

-- each is computed by the team's tables
abbrev share_by : Reading → ℕ → ℕ
share_by r team = largest (λ C. least (present_count r) (λ t. own_worth r team (bundle C t))) (cuts r.m (present_count r))

abbrev total_by : Reading → (ℕ → ℕ) → ℕ
total_by r D = sum r.n (λ t. own_worth r t (bundle D t))

abbrev best_by : Reading → ℕ
best_by r = largest (total_by r) (cuts r.m (suc r.n))

worth_by : (file : List ℕ) (team set w : ℕ) → own_worth (own_read file) team (bit set) ≡ w → worth_in file team set ≡ w
worth_by file team set w e = ap (λ (v : Set → ℕ). v (bit set)) (own_worth_lem file team) ∙ ap (λ (r : Reading). own_worth r team (bit set)) (own_read_lem file) ∙ e

share_by_lem : (file : List ℕ) (team w : ℕ) → share_by (own_read file) team ≡ w → share_in file team ≡ w
unfolding share
share_by_lem file team w e =
    let r = read_plan file in
    ap (λ (v : Set → ℕ). largest (λ C. least (present_count r) (λ t. v (bundle C t))) (cuts r.m (present_count r))) (own_worth_lem file team) ∙ ap (λ (r : Reading). share_by r team) (own_read_lem file) ∙ e

total_by_lem : (file : List ℕ) (D : ℕ → ℕ) → total (read_plan file).n (team_matroid (read_plan file)) D ≡ total_by (read_plan file) D
total_by_lem file D =
    let r = read_plan file in
    ap (λ (v : ℕ → Set → ℕ). sum r.n (λ t. v t (bundle D t))) (fun_ext (own_worth_lem file))

best_by_lem : (file : List ℕ) (w : ℕ) → best_by (own_read file) ≡ w → best_in file ≡ w
unfolding best
best_by_lem file w e =
    let r = read_plan file in
    ap (λ (f : (ℕ → ℕ) → ℕ). largest f (cuts r.m (suc r.n))) (fun_ext (total_by_lem file)) ∙ ap best_by (own_read_lem file) ∙ e

-- a part of the reading
read_by : {X : Type 0} (file : List ℕ) (f : Reading → X) (x : X) → f (own_read file) ≡ x → f (read_plan file) ≡ x
read_by file f x e = ap f (own_read_lem file) ∙ e

-- plan A
abbrev plan_a : List ℕ
plan_a = 1 ∷ 1 ∷ 2 ∷ 3 ∷ 2 ∷ 6 ∷ 0 ∷ 1 ∷ 2 ∷ 6 ∷ 1 ∷ 1 ∷ 2 ∷ 2 ∷ 1 ∷ 4 ∷ 0 ∷ 1 ∷ 5 ∷ 1 ∷ 0 ∷ 7 ∷ []

-- team 0: {0,1} is worth 1; team 1: {0} is worth 0; shares 1 and 0; best total 2
plan_a_worth_0 : worth_in plan_a 0 3 ≡ 1
unfolding worth bit own_read own_from own_end command_at fault changed_team changed_state dec_le partition graphic within?
plan_a_worth_0 = worth_by plan_a 0 3 1 refl

plan_a_worth_1 : worth_in plan_a 1 1 ≡ 0
unfolding worth bit own_read own_from own_end command_at fault changed_team changed_state dec_le partition graphic within?
plan_a_worth_1 = worth_by plan_a 1 1 0 refl

plan_a_share_0 : share_in plan_a 0 ≡ 1
unfolding worth bit own_read own_from own_end command_at fault changed_team changed_state dec_le partition graphic share within?
plan_a_share_0 = share_by_lem plan_a 0 1 refl

plan_a_share_1 : share_in plan_a 1 ≡ 0
unfolding worth bit own_read own_from own_end command_at fault changed_team changed_state dec_le partition graphic share within?
plan_a_share_1 = share_by_lem plan_a 1 0 refl

plan_a_best : best_in plan_a ≡ 2
unfolding worth bit own_read own_from own_end command_at fault changed_team changed_state dec_le partition graphic best within?
plan_a_best = best_by_lem plan_a 2 refl

-- spans 1-2, 2-3, 1-3, 9 channels: all three are worth 2
abbrev triangle9 : List ℕ
triangle9 = 1 ∷ 1 ∷ 3 ∷ 3 ∷ 9 ∷ 6 ∷ 0 ∷ 1 ∷ 2 ∷ 6 ∷ 1 ∷ 2 ∷ 3 ∷ 6 ∷ 2 ∷ 1 ∷ 3 ∷ 7 ∷ []

triangle9_worth : worth_in triangle9 0 7 ≡ 2
unfolding worth bit own_read own_from own_end command_at fault changed_team changed_state dec_le graphic within?
triangle9_worth = worth_by triangle9 0 7 2 refl

-- with 1 channel, 1
abbrev triangle1 : List ℕ
triangle1 = 1 ∷ 1 ∷ 3 ∷ 3 ∷ 1 ∷ 6 ∷ 0 ∷ 1 ∷ 2 ∷ 6 ∷ 1 ∷ 2 ∷ 3 ∷ 6 ∷ 2 ∷ 1 ∷ 3 ∷ 7 ∷ []

triangle1_worth : worth_in triangle1 0 7 ≡ 1
unfolding worth bit own_read own_from own_end command_at fault changed_team changed_state dec_le graphic within?
triangle1_worth = worth_by triangle1 0 7 1 refl

-- three gauges on one pair of joints, two such teams of 9 channels: share 1
abbrev parallel : List ℕ
parallel = 1 ∷ 1 ∷ 3 ∷ 3 ∷ 9 ∷ 6 ∷ 0 ∷ 1 ∷ 2 ∷ 6 ∷ 1 ∷ 1 ∷ 2 ∷ 6 ∷ 2 ∷ 1 ∷ 2 ∷ 3 ∷ 9 ∷ 6 ∷ 0 ∷ 1 ∷ 2 ∷ 6 ∷ 1 ∷ 1 ∷ 2 ∷ 6 ∷ 2 ∷ 1 ∷ 2 ∷ 7 ∷ []

parallel_share_0 : share_in parallel 0 ≡ 1
unfolding worth bit own_read own_from own_end command_at fault changed_team changed_state dec_le graphic share within?
parallel_share_0 = share_by_lem parallel 0 1 refl

parallel_share_1 : share_in parallel 1 ≡ 1
unfolding worth bit own_read own_from own_end command_at fault changed_team changed_state dec_le graphic share within?
parallel_share_1 = share_by_lem parallel 1 1 refl

-- instruments 0 to 2 in a class of cap 1, 3 in another of cap 1, 4 channels, two such teams: share 1
abbrev threes : List ℕ
threes = 1 ∷ 1 ∷ 4 ∷ 2 ∷ 4 ∷ 4 ∷ 0 ∷ 1 ∷ 4 ∷ 1 ∷ 1 ∷ 5 ∷ 0 ∷ 0 ∷ 5 ∷ 1 ∷ 0 ∷ 5 ∷ 2 ∷ 0 ∷ 5 ∷ 3 ∷ 1 ∷ 2 ∷ 4 ∷ 4 ∷ 0 ∷ 1 ∷ 4 ∷ 1 ∷ 1 ∷ 5 ∷ 0 ∷ 0 ∷ 5 ∷ 1 ∷ 0 ∷ 5 ∷ 2 ∷ 0 ∷ 5 ∷ 3 ∷ 1 ∷ 7 ∷ []

threes_share_0 : share_in threes 0 ≡ 1
unfolding worth bit own_read own_from own_end command_at fault changed_team changed_state dec_le partition share within?
threes_share_0 = share_by_lem threes 0 1 refl

threes_share_1 : share_in threes 1 ≡ 1
unfolding worth bit own_read own_from own_end command_at fault changed_team changed_state dec_le partition share within?
threes_share_1 = share_by_lem threes 1 1 refl

-- m = 0: every set is worth 0, whatever bits its word has, and the share is 0; of a CAPS team
abbrev none_caps : List ℕ
none_caps = 1 ∷ 1 ∷ 0 ∷ 2 ∷ 9 ∷ 7 ∷ []

none_caps_worth_none : worth_in none_caps 0 0 ≡ 0
unfolding worth bit own_read own_from own_end command_at fault changed_team changed_state dec_le partition within?
none_caps_worth_none = worth_by none_caps 0 0 0 refl

none_caps_worth_all : worth_in none_caps 0 18446744073709551615 ≡ 0
unfolding worth bit own_read own_from own_end command_at fault changed_team changed_state dec_le partition within?
none_caps_worth_all = worth_by none_caps 0 18446744073709551615 0 refl

none_caps_share : share_in none_caps 0 ≡ 0
unfolding worth bit own_read own_from own_end command_at fault changed_team changed_state dec_le partition share within?
none_caps_share = share_by_lem none_caps 0 0 refl

-- and of a LOOPS team
abbrev none_loops : List ℕ
none_loops = 1 ∷ 1 ∷ 0 ∷ 3 ∷ 9 ∷ 7 ∷ []

none_loops_worth_none : worth_in none_loops 0 0 ≡ 0
unfolding worth bit own_read own_from own_end command_at fault changed_team changed_state dec_le graphic within?
none_loops_worth_none = worth_by none_loops 0 0 0 refl

none_loops_worth_all : worth_in none_loops 0 18446744073709551615 ≡ 0
unfolding worth bit own_read own_from own_end command_at fault changed_team changed_state dec_le graphic within?
none_loops_worth_all = worth_by none_loops 0 18446744073709551615 0 refl

none_loops_share : share_in none_loops 0 ≡ 0
unfolding worth bit own_read own_from own_end command_at fault changed_team changed_state dec_le graphic share within?
none_loops_share = share_by_lem none_loops 0 0 refl

-- 0 and 1 in classes 0 and 1, 2 and 3 in class 2, all caps 1, 2 channels: 2 for 0 and 3 for 1 each work alone, yet {2,3} does not stand
abbrev trap : List ℕ
trap = 1 ∷ 1 ∷ 4 ∷ 2 ∷ 2 ∷ 4 ∷ 0 ∷ 1 ∷ 4 ∷ 1 ∷ 1 ∷ 4 ∷ 2 ∷ 1 ∷ 5 ∷ 0 ∷ 0 ∷ 5 ∷ 1 ∷ 1 ∷ 5 ∷ 2 ∷ 2 ∷ 5 ∷ 3 ∷ 2 ∷ 7 ∷ []

trap_whole : worth_in trap 0 3 ≡ 2
unfolding worth bit own_read own_from own_end command_at fault changed_team changed_state dec_le partition within?
trap_whole = worth_by trap 0 3 2 refl

trap_first : worth_in trap 0 6 ≡ 2
unfolding worth bit own_read own_from own_end command_at fault changed_team changed_state dec_le partition within?
trap_first = worth_by trap 0 6 2 refl

trap_second : worth_in trap 0 9 ≡ 2
unfolding worth bit own_read own_from own_end command_at fault changed_team changed_state dec_le partition within?
trap_second = worth_by trap 0 9 2 refl

trap_both : worth_in trap 0 12 ≡ 1
unfolding worth bit own_read own_from own_end command_at fault changed_team changed_state dec_le partition within?
trap_both = worth_by trap 0 12 1 refl

-- a team that takes both instruments, and one that is away: its share is 2, where among two it would be 1
abbrev leave : List ℕ
leave = 1 ∷ 1 ∷ 2 ∷ 2 ∷ 2 ∷ 4 ∷ 0 ∷ 2 ∷ 5 ∷ 0 ∷ 0 ∷ 5 ∷ 1 ∷ 0 ∷ 2 ∷ 0 ∷ 7 ∷ []

leave_share : share_in leave 0 ≡ 2
unfolding worth bit own_read own_from own_end command_at fault changed_team changed_state dec_le partition share within?
leave_share = share_by_lem leave 0 2 refl

-- a team with channels is present, though it has named no instrument and every set is worth 0 to it
abbrev worthless : List ℕ
worthless = 1 ∷ 1 ∷ 2 ∷ 2 ∷ 2 ∷ 4 ∷ 0 ∷ 2 ∷ 5 ∷ 0 ∷ 0 ∷ 5 ∷ 1 ∷ 0 ∷ 2 ∷ 1 ∷ 7 ∷ []

worthless_share : share_in worthless 0 ≡ 1
unfolding worth bit own_read own_from own_end command_at fault changed_team changed_state dec_le partition share within?
worthless_share = share_by_lem worthless 0 1 refl

-- ---- loan days

-- "An instrument can be in a team's independent set only if the team's days lie within its shelf days."
in_days : (r : Reading) (t : ℕ) (S : Set) → t < r.n → (team_matroid r t).Indep S → (i : ℕ) → i < r.m → T (S i) → T (within (get_or r.days t always) (get_or r.shelf i always))
in_days r t S l indep i b s =
    let own = word r.m (usable r t ∖ glued r) in
    let v : Valuation = record { team = get_or r.teams t blank_team; usable = own; glued = word r.m (glued_to r t) } in
    let here : (matroid_of r.m v).Indep S = rw (lt-ltb t r.n l) at indep in
    let restricted : (restrict (contracted (kind_matroid r.m v.team) (bit v.glued)) (bit own)).Indep S = rw (matroid_of_lem r.m v) at here in
    let there = restricted.1.at i b s in
    and_left (usable r t i) (not (glued r i)) (and_right (ltb i r.m) ((usable r t ∖ glued r) i) (rw (bit_word r.m (usable r t ∖ glued r) i) at there))

-- one instrument, with a SHELF from a day below 256 to another, and a CAPS team that takes it, with such DAYS
abbrev lent : (from to from' to' : ℕ) → List ℕ
lent from to from' to' = 1 ∷ 1 ∷ 1 ∷ 10 ∷ 0 ∷ from ∷ 0 ∷ to ∷ 0 ∷ 2 ∷ 1 ∷ 11 ∷ from' ∷ 0 ∷ to' ∷ 0 ∷ 4 ∷ 0 ∷ 1 ∷ 5 ∷ 0 ∷ 0 ∷ 7 ∷ []

-- equal ends are within; one day before them or after them is not
lent_equal : worth_in (lent 5 9 5 9) 0 1 ≡ 1
unfolding worth bit own_read own_from own_end command_at fault changed_team changed_state dec_le partition within?
lent_equal = worth_by (lent 5 9 5 9) 0 1 1 refl

lent_early : worth_in (lent 5 9 4 9) 0 1 ≡ 0
unfolding worth bit own_read own_from own_end command_at fault changed_team changed_state dec_le partition within?
lent_early = worth_by (lent 5 9 4 9) 0 1 0 refl

lent_late : worth_in (lent 5 9 5 10) 0 1 ≡ 0
unfolding worth bit own_read own_from own_end command_at fault changed_team changed_state dec_le partition within?
lent_late = worth_by (lent 5 9 5 10) 0 1 0 refl

-- a team without DAYS, and a SHELF from day 0 to 65,280 and some days
abbrev undated : (to : ℕ) → List ℕ
undated to = 1 ∷ 1 ∷ 1 ∷ 10 ∷ 0 ∷ 0 ∷ 0 ∷ to ∷ 255 ∷ 2 ∷ 1 ∷ 4 ∷ 0 ∷ 1 ∷ 5 ∷ 0 ∷ 0 ∷ 7 ∷ []

-- to 65,534 it is worthless to the team, to 65,535 usable
undated_short : worth_in (undated 254) 0 1 ≡ 0
unfolding worth bit own_read own_from own_end command_at fault changed_team changed_state dec_le partition within?
undated_short = worth_by (undated 254) 0 1 0 refl

undated_whole : worth_in (undated 255) 0 1 ≡ 1
unfolding worth bit own_read own_from own_end command_at fault changed_team changed_state dec_le partition within?
undated_whole = worth_by (undated 255) 0 1 1 refl

-- a from that is its to is 17, at the offset of the command
lent_none : ((read_plan (lent 5 5 5 9)).refusal ≡ 17) × ((read_plan (lent 5 5 5 9)).place ≡ 3)
unfolding read_plan read_from command_at fault changed_team changed_state
lent_none = (refl, refl)

lent_no_days : ((read_plan (lent 5 9 6 6)).refusal ≡ 17) × ((read_plan (lent 5 9 6 6)).place ≡ 11)
unfolding read_plan read_from command_at fault changed_team changed_state
lent_no_days = (refl, refl)

-- ---- document 02, note 5: "joints are now 0 to 39, and 40 to 63 meet 5; document 01's joint cases become 27 and 28 in hexadecimal"

-- a LOOPS team of 9 channels with a SPAN of one instrument
abbrev spanned : (a b : ℕ) → List ℕ
spanned a b = 1 ∷ 1 ∷ 1 ∷ 3 ∷ 9 ∷ 6 ∷ 0 ∷ a ∷ b ∷ 7 ∷ []

-- 27 is a joint, first and second
joint_27_first : worth_in (spanned 39 0) 0 1 ≡ 1
unfolding worth bit own_read own_from own_end command_at fault changed_team changed_state dec_le graphic within?
joint_27_first = worth_by (spanned 39 0) 0 1 1 refl

joint_27_second : worth_in (spanned 0 39) 0 1 ≡ 1
unfolding worth bit own_read own_from own_end command_at fault changed_team changed_state dec_le graphic within?
joint_27_second = worth_by (spanned 0 39) 0 1 1 refl

-- 28 is 5 at the offset of the command, first and second, and so is 3F
joint_28_first : ((read_plan (spanned 40 0)).refusal ≡ 5) × ((read_plan (spanned 40 0)).place ≡ 5)
unfolding read_plan read_from command_at fault changed_team changed_state
joint_28_first = (refl, refl)

joint_28_second : ((read_plan (spanned 0 40)).refusal ≡ 5) × ((read_plan (spanned 0 40)).place ≡ 5)
unfolding read_plan read_from command_at fault changed_team changed_state
joint_28_second = (refl, refl)

joint_3_f : ((read_plan (spanned 63 0)).refusal ≡ 5) × ((read_plan (spanned 0 63)).refusal ≡ 5)
unfolding read_plan read_from command_at fault changed_team changed_state
joint_3_f = (refl, refl)

-- ---- document 02, note 6: glued gauges

-- the triangle of spans with gauge 0 glued: the two others would close a loop with it, so they are worth 1 where they were worth 2, and the bit of
-- the glued one counts nothing
abbrev glued_triangle : List ℕ
glued_triangle = 1 ∷ 1 ∷ 3 ∷ 3 ∷ 9 ∷ 12 ∷ 0 ∷ 6 ∷ 0 ∷ 1 ∷ 2 ∷ 6 ∷ 1 ∷ 2 ∷ 3 ∷ 6 ∷ 2 ∷ 1 ∷ 3 ∷ 7 ∷ []

glued_triangle_lem : (worth_in glued_triangle 0 6 ≡ 1) × (worth_in glued_triangle 0 7 ≡ 1) × (worth_in glued_triangle 0 1 ≡ 0)
unfolding worth bit own_read own_from own_end command_at fault changed_team changed_state dec_le graphic within?
glued_triangle_lem = (worth_by glued_triangle 0 6 1 refl, worth_by glued_triangle 0 7 1 refl, worth_by glued_triangle 0 1 0 refl)

-- two instruments in a class of cap 1, and so in another team: the one that is glued to team 0 uses up its cap, and is worthless to team 1
abbrev glued_caps : List ℕ
glued_caps = 1 ∷ 1 ∷ 2 ∷ 2 ∷ 9 ∷ 4 ∷ 0 ∷ 1 ∷ 5 ∷ 0 ∷ 0 ∷ 5 ∷ 1 ∷ 0 ∷ 12 ∷ 0 ∷ 2 ∷ 9 ∷ 4 ∷ 0 ∷ 1 ∷ 5 ∷ 0 ∷ 0 ∷ 5 ∷ 1 ∷ 0 ∷ 7 ∷ []

glued_caps_lem : (worth_in glued_caps 0 2 ≡ 0) × (worth_in glued_caps 1 1 ≡ 0) × (worth_in glued_caps 1 2 ≡ 1) × (best_in glued_caps ≡ 1) × (share_in glued_caps 1 ≡ 0)
unfolding worth bit own_read own_from own_end command_at fault changed_team changed_state dec_le partition within? best share
glued_caps_lem = (worth_by glued_caps 0 2 0 refl, worth_by glued_caps 1 1 0 refl, worth_by glued_caps 1 2 1 refl, best_by_lem glued_caps 1 refl, share_by_lem glued_caps 1 0 refl)

-- one instrument that a CAPS team of some channels glues, with its PUT or with none, and the rest of the plan
abbrev gluing : (channels : ℕ) (rest : List ℕ) → List ℕ
gluing channels rest = 1 ∷ 1 ∷ 1 ∷ 2 ∷ channels ∷ 4 ∷ 0 ∷ 1 ∷ 12 ∷ 0 ∷ rest

-- with its PUT it stands
glued_put : (read_plan (gluing 1 (5 ∷ 0 ∷ 0 ∷ 7 ∷ []))).refusal ≡ 0
unfolding own_read own_from own_end command_at fault changed_team changed_state worth bit dec_le partition within?
glued_put = read_by (gluing 1 (5 ∷ 0 ∷ 0 ∷ 7 ∷ [])) (λ r. r.refusal) 0 refl

-- with none, or without channels, it is 18 at the offset of END, also where bytes follow
glued_unnamed : ((read_plan (gluing 1 (7 ∷ 0 ∷ []))).refusal ≡ 18) × ((read_plan (gluing 1 (7 ∷ 0 ∷ []))).place ≡ 10)
unfolding own_read own_from own_end command_at fault changed_team changed_state worth bit dec_le partition within?
glued_unnamed = (read_by (gluing 1 (7 ∷ 0 ∷ [])) (λ r. r.refusal) 18 refl, read_by (gluing 1 (7 ∷ 0 ∷ [])) (λ r. r.place) 10 refl)

glued_away : ((read_plan (gluing 0 (5 ∷ 0 ∷ 0 ∷ 7 ∷ []))).refusal ≡ 18) × ((read_plan (gluing 0 (5 ∷ 0 ∷ 0 ∷ 7 ∷ []))).place ≡ 13)
unfolding own_read own_from own_end command_at fault changed_team changed_state worth bit dec_le partition within?
glued_away = (read_by (gluing 0 (5 ∷ 0 ∷ 0 ∷ 7 ∷ [])) (λ r. r.refusal) 18 refl, read_by (gluing 0 (5 ∷ 0 ∷ 0 ∷ 7 ∷ [])) (λ r. r.place) 13 refl)

-- a second time, in the next team, it is 6 at the offset of the command; before any team it is 4; an instrument not below m is 5; 0D is 3
glued_twice : ((read_plan (gluing 1 (2 ∷ 1 ∷ 12 ∷ 0 ∷ 7 ∷ []))).refusal ≡ 6) × ((read_plan (gluing 1 (2 ∷ 1 ∷ 12 ∷ 0 ∷ 7 ∷ []))).place ≡ 12)
unfolding read_plan read_from command_at fault changed_team changed_state
glued_twice = (refl, refl)

glued_early : (read_plan (1 ∷ 1 ∷ 1 ∷ 12 ∷ 0 ∷ 2 ∷ 1 ∷ 7 ∷ [])).refusal ≡ 4
unfolding read_plan read_from command_at fault changed_team changed_state
glued_early = refl

glued_beyond : (read_plan (1 ∷ 1 ∷ 1 ∷ 2 ∷ 1 ∷ 12 ∷ 1 ∷ 7 ∷ [])).refusal ≡ 5
unfolding read_plan read_from command_at fault changed_team changed_state
glued_beyond = refl

unknown_0_d : (read_plan (1 ∷ 1 ∷ 1 ∷ 2 ∷ 1 ∷ 13 ∷ 0 ∷ 7 ∷ [])).refusal ≡ 3
unfolding read_plan read_from command_at fault changed_team changed_state
unknown_0_d = refl

-- ---- sets that are no words

-- whether two sets have the same members below m
abbrev pub alike : ℕ → Set → Set → Bool
alike zero A B = true
alike (suc m) A B = cond (A m) (B m) (not (B m)) && alike m A B

alike_at : (m : ℕ) (A B : Set) → T (alike m A B) → (j : ℕ) → j < m → A j ≡ B j
alike_at zero A B t j l = absurd (omega arith)
alike_at (suc m) A B t j l = go (ℕ_discrete j m) (alike_at m A B (and_right (cond (A m) (B m) (not (B m))) (alike m A B) t))
  where
    same : (a b : Bool) → T (cond a b (not b)) → a ≡ b
    same true true t = refl
    same false false t = refl
    same true false t = absurd t
    same false true t = absurd t

    go : Dec (j ≡ m) → ((k : ℕ) → k < m → A k ≡ B k) → A j ≡ B j
    go (yes e) rest = rw e (same (A m) (B m) (and_left (cond (A m) (B m) (not (B m))) (alike m A B) t))
    go (no d) rest = rest j (omega arith)

-- a set is worth what a word of the same members is worth
pub worth_alike : (file : List ℕ) (team set w : ℕ) (S : Set) → worth_in file team set ≡ w → T (alike (read_plan file).m S (bit set)) → worth (team_matroid (read_plan file) team) S ≡ w
worth_alike file team set w S e t =
    let at = alike_at (read_plan file).m S (bit set) t in
    worth_same (team_matroid (read_plan file) team) {S = S} {S' = bit set} (record { at = λ j l a. subst T (at j l) a }) (record { at = λ j l a. subst⁻¹ T (at j l) a }) ∙ e

-- ---- appendix D

-- the six-instrument case of arXiv 2012.12710, appendix D: pairs {0,1} and {2,3} capped at 1, {4,5} at 2, 6 channels; the other team takes all: both shares 3
abbrev pub appendix_d : List ℕ
appendix_d = 1 ∷ 1 ∷ 6 ∷ 2 ∷ 6 ∷ 4 ∷ 0 ∷ 1 ∷ 4 ∷ 1 ∷ 1 ∷ 4 ∷ 2 ∷ 2 ∷ 5 ∷ 0 ∷ 0 ∷ 5 ∷ 1 ∷ 0 ∷ 5 ∷ 2 ∷ 1 ∷ 5 ∷ 3 ∷ 1 ∷ 5 ∷ 4 ∷ 2 ∷ 5 ∷ 5 ∷ 2 ∷ 2 ∷ 6 ∷ 4 ∷ 0 ∷ 6 ∷ 5 ∷ 0 ∷ 0 ∷ 5 ∷ 1 ∷ 0 ∷ 5 ∷ 2 ∷ 0 ∷ 5 ∷ 3 ∷ 0 ∷ 5 ∷ 4 ∷ 0 ∷ 5 ∷ 5 ∷ 0 ∷ 7 ∷ []

appendix_d_share_0 : share_in appendix_d 0 ≡ 3
unfolding worth bit own_read own_from own_end command_at fault changed_team changed_state dec_le partition share within?
appendix_d_share_0 = share_by_lem appendix_d 0 3 refl

appendix_d_share_1 : share_in appendix_d 1 ≡ 3
unfolding worth bit own_read own_from own_end command_at fault changed_team changed_state dec_le partition share within?
appendix_d_share_1 = share_by_lem appendix_d 1 3 refl

appendix_d_best : best_in appendix_d ≡ 6
unfolding worth bit own_read own_from own_end command_at fault changed_team changed_state dec_le partition best within?
appendix_d_best = best_by_lem appendix_d 6 refl

-- giving {4,5} and {0,1,2,3} has total 6
abbrev greedy_d : ℕ → ℕ
greedy_d g = cond (ltb g 4) 1 0

appendix_d_total : total (read_plan appendix_d).n (team_matroid (read_plan appendix_d)) greedy_d ≡ 6
unfolding worth bit own_read own_from own_end command_at fault changed_team changed_state dec_le partition within?
appendix_d_total = total_by_lem appendix_d greedy_d ∙ read_by appendix_d (λ r. total_by r greedy_d) 6 refl

appendix_d_refusal : (read_plan appendix_d).refusal ≡ 0
unfolding own_read own_from own_end command_at fault changed_team changed_state worth dec_le partition within? bit
appendix_d_refusal = read_by appendix_d (λ r. r.refusal) 0 refl

appendix_d_m : (read_plan appendix_d).m ≡ 6
unfolding own_read own_from own_end command_at fault changed_team changed_state worth dec_le partition within? bit
appendix_d_m = read_by appendix_d (λ r. r.m) 6 refl

appendix_d_n : (read_plan appendix_d).n ≡ 2
unfolding own_read own_from own_end command_at fault changed_team changed_state worth dec_le partition within? bit
appendix_d_n = read_by appendix_d (λ r. r.n) 2 refl

-- the reading, with its numbers written out
abbrev pub appendix_d_read : Reading
appendix_d_read =
    let r = read_plan appendix_d in
    record { refusal = 0; place = r.place; m = 6; n = 2; teams = r.teams; shelf = r.shelf; days = r.days; glue = r.glue }

pub appendix_d_is : read_plan appendix_d ≡ appendix_d_read
appendix_d_is =
    let r = read_plan appendix_d in
    λ j. record { refusal = appendix_d_refusal j; place = r.place; m = appendix_d_m j; n = appendix_d_n j; teams = r.teams; shelf = r.shelf; days = r.days; glue = r.glue }

-- both teams are present
pub appendix_d_present : (present (read_plan appendix_d) 0 ≡ true) × (present (read_plan appendix_d) 1 ≡ true)
unfolding own_read own_from own_end command_at fault changed_team changed_state worth dec_le partition within? bit
appendix_d_present = (read_by appendix_d (λ r. present r 0) true refl, read_by appendix_d (λ r. present r 1) true refl)

-- what the sets of the sheet below are worth to the two teams
pub appendix_d_0_none : worth_in appendix_d 0 0 ≡ 0
unfolding worth bit own_read own_from own_end command_at fault changed_team changed_state dec_le partition within?
appendix_d_0_none = worth_by appendix_d 0 0 0 refl

pub appendix_d_0_rest : worth_in appendix_d 0 15 ≡ 2
unfolding worth bit own_read own_from own_end command_at fault changed_team changed_state dec_le partition within?
appendix_d_0_rest = worth_by appendix_d 0 15 2 refl

pub appendix_d_0_bundle : worth_in appendix_d 0 48 ≡ 2
unfolding worth bit own_read own_from own_end command_at fault changed_team changed_state dec_le partition within?
appendix_d_0_bundle = worth_by appendix_d 0 48 2 refl

pub appendix_d_0_part_0 : worth_in appendix_d 0 21 ≡ 3
unfolding worth bit own_read own_from own_end command_at fault changed_team changed_state dec_le partition within?
appendix_d_0_part_0 = worth_by appendix_d 0 21 3 refl

pub appendix_d_0_part_1 : worth_in appendix_d 0 42 ≡ 3
unfolding worth bit own_read own_from own_end command_at fault changed_team changed_state dec_le partition within?
appendix_d_0_part_1 = worth_by appendix_d 0 42 3 refl

pub appendix_d_0_all : worth_in appendix_d 0 63 ≡ 4
unfolding worth bit own_read own_from own_end command_at fault changed_team changed_state dec_le partition within?
appendix_d_0_all = worth_by appendix_d 0 63 4 refl

pub appendix_d_1_none : worth_in appendix_d 1 0 ≡ 0
unfolding worth bit own_read own_from own_end command_at fault changed_team changed_state dec_le partition within?
appendix_d_1_none = worth_by appendix_d 1 0 0 refl

pub appendix_d_1_bundle : worth_in appendix_d 1 15 ≡ 4
unfolding worth bit own_read own_from own_end command_at fault changed_team changed_state dec_le partition within?
appendix_d_1_bundle = worth_by appendix_d 1 15 4 refl

pub appendix_d_1_part_0 : worth_in appendix_d 1 7 ≡ 3
unfolding worth bit own_read own_from own_end command_at fault changed_team changed_state dec_le partition within?
appendix_d_1_part_0 = worth_by appendix_d 1 7 3 refl

pub appendix_d_1_part_1 : worth_in appendix_d 1 56 ≡ 3
unfolding worth bit own_read own_from own_end command_at fault changed_team changed_state dec_le partition within?
appendix_d_1_part_1 = worth_by appendix_d 1 56 3 refl

pub appendix_d_1_all : worth_in appendix_d 1 63 ≡ 6
unfolding worth bit own_read own_from own_end command_at fault changed_team changed_state dec_le partition within?
appendix_d_1_all = worth_by appendix_d 1 63 6 refl

-- the sheet of that division: total 6 with the bound of no instruments; share 3 with {0,1,2,3} and parts {0,2,4} and {1,3,5}; share 3 with no
-- instruments and parts {0,1,2} and {3,4,5}
abbrev pub appendix_d_sheet : List ℕ
appendix_d_sheet =
    17 ∷ 6 ∷ 2 ∷ 6
    ∷ 18 ∷ 0 ∷ 1 ∷ 18 ∷ 1 ∷ 1 ∷ 18 ∷ 2 ∷ 1 ∷ 18 ∷ 3 ∷ 1 ∷ 18 ∷ 4 ∷ 0 ∷ 18 ∷ 5 ∷ 0
    ∷ 19 ∷ 0 ∷ 0 ∷ 0 ∷ 0 ∷ 0 ∷ 0 ∷ 0 ∷ 0
    ∷ 20 ∷ 0 ∷ 3 ∷ 15 ∷ 0 ∷ 0 ∷ 0 ∷ 0 ∷ 0 ∷ 0 ∷ 0
    ∷ 21 ∷ 0 ∷ 0 ∷ 21 ∷ 1 ∷ 1 ∷ 21 ∷ 2 ∷ 0 ∷ 21 ∷ 3 ∷ 1 ∷ 21 ∷ 4 ∷ 0 ∷ 21 ∷ 5 ∷ 1
    ∷ 20 ∷ 1 ∷ 3 ∷ 0 ∷ 0 ∷ 0 ∷ 0 ∷ 0 ∷ 0 ∷ 0 ∷ 0
    ∷ 21 ∷ 0 ∷ 0 ∷ 21 ∷ 1 ∷ 0 ∷ 21 ∷ 2 ∷ 0 ∷ 21 ∷ 3 ∷ 1 ∷ 21 ∷ 4 ∷ 1 ∷ 21 ∷ 5 ∷ 1
    ∷ 22 ∷ []

pub appendix_d_sheet_length : length appendix_d_sheet ≡ 90
appendix_d_sheet_length = refl
