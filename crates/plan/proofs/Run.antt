-- The loop of `read_commands`: what is still to be read decides the answer.
use Prim.Native.Nat.{ℕ, zero, suc, ◌+◌, ◌-◌, ◌≤◌, ◌<◌}
use Rattle.std.specs.Prelude.{Option, Some, None, Result, Ok, Err}
use mathlib.Core.Path.{◌≡◌, refl, sym, ap, ◌∙◌, subst}
use mathlib.Core.Bool.{Bool, true, false, ◌||◌, cond, or-false}
use mathlib.Core.Logic.{◌⊎◌, inl, inr, ◌≢◌, ⊎_elim}
use mathlib.Core.List.{List}
use native.Mathlib.Omega.{arith}
use native.Mathlib.Decide.{ℕ_discrete, dec_le}
use lib.Dec.{eqb, leb, ltb}
use lib.ListN.{length, get_or, set, replicate, length-set}
use lib.Seq.{get_or-set_same, get_or-set_other, ext_get_or}
use borrow.Author.Tests.{lt-leb, le-leb, eq-eqb, ne_eqb, eqb-true, eqb-false}
use Rattle.command.specs.declared.Command.{Command}
use Rattle.command.specs.declared.Command.TheVariants.{Missing, Unknown, Short, Start, Caps, Loops, Mounts, Class, Put, Span, Fit, Shelf, Days, Glue, End}
use Rattle.plan.specs.declared.step.Ending.{Ending}
use Rattle.command.specs.declared.refusal.Refusal.{Refusal}
use Rattle.command.specs.Refusal.{refuse}
use Rattle.plan.specs.declared.Reading.{Reading}
use Rattle.command.specs.declared.State.{State}
use Rattle.team.specs.declared.Team.{Team}
use Rattle.command.specs.Command.{command_at, bytes_of}
use Rattle.judge.specs.Fault.{fault, is_end}
use Rattle.carry.specs.Carry.{start, open_team, row_of, changed_team, changed_state}
use Rattle.row.specs.Days.{days_of}
use Rattle.team.specs.Team.{blank_team}
use Rattle.days.specs.declared.Days.{Days as LoanDays}
use Rattle.days.specs.Days.{always}
use Rattle.plan.specs.Read.{refused, accepted, finished, teams_of, team_days, shelf_days, read_from, read_plan}
use Rattle.plan.specs.Progress.{row_at, rows_in, Followed, Ended}
use Rattle.judge.proofs.Standing.{whole}
use Rattle.sets.proofs.Each.{each_length, each_at}
use Rattle.plan.proofs.Steps.{row_of_lem, worked_on, number, next, step_refused, step_end, step_next, plan_start}
use Rattle.plan.proofs.Following.{few_teams, small_pool, way_of, state_of}

-- The answer is what reading from here on comes to, and there is fuel for it.
pub record Run (file : List ℕ) (at : ℕ) (s : State) (teams : List Team) : Type 0 where
  pub inside : at ≤ length file
  pub few : s.n ≤ 12
  pub small : s.m ≤ 64
  pub fuel : ℕ
  pub enough : length file < at + fuel
  pub same : read_plan file ≡ read_from fuel file at s teams

-- at the start
pub run_start : (file : List ℕ) → get_or file 0 0 ≡ 1 → Run file 0 start (replicate 14 blank_team)
run_start file e = record { inside = omega arith; few = omega arith; small = omega arith; fuel = suc (length file); enough = omega arith; same = plan_start file e }

module _ (file : List ℕ) (at : ℕ) (s : State) (teams : List Team) (run : Run file at s teams) where
  -- while the end is not passed there is fuel for one command more
  more : (k : ℕ) × (run.fuel ≡ suc k)
  more = go run.fuel run.enough run.inside
    where
      go : (f : ℕ) → length file < at + f → at ≤ length file → (k : ℕ) × (f ≡ suc k)
      go zero l i = absurd (omega arith)
      go (suc k) l i = (k, refl)

  -- so the answer is that of the command here
  here : {r : Reading} → ((k : ℕ) → read_from (suc k) file at s teams ≡ r) → r ≡ read_plan file
  here {r} h = let (k, e) = more in sym (run.same ∙ ap (λ (f : ℕ). read_from f file at s teams) e ∙ h k)

  run_refused : number file at s teams ≢ 0 → refused (number file at s teams) at ≡ read_plan file
  run_refused d = here (λ k. step_refused k file at s teams d)

  run_end : number file at s teams ≡ 0 → is_end (command_at file at) ≡ true → finished file at s teams ≡ read_plan file
  run_end z e = here (λ k. step_end k file at s teams z e)

  run_next : number file at s teams ≡ 0 → is_end (command_at file at) ≡ false → next Run file at s teams
  run_next z e =
      let (k, f) = more in
      let w = whole file at s (worked_on s teams (command_at file at)) z in
      let some = w.some in
      let enough = run.enough in
      record {
        inside = w.fits;
        few = few_teams at s (worked_on s teams (command_at file at)) (command_at file at) run.few z;
        small = small_pool at s (worked_on s teams (command_at file at)) (command_at file at) run.small z;
        fuel = k;
        enough = omega arith;
        same = run.same ∙ ap (λ (f : ℕ). read_from f file at s teams) f ∙ step_next k file at s teams z e;
      }

  -- a command that is carried out is passed
  run_longer : number file at s teams ≡ 0 → length file - (at + bytes_of (command_at file at)) < length file - at
  run_longer z =
      let w = whole file at s (worked_on s teams (command_at file at)) z in
      let some = w.some in
      let fits = w.fits in
      omega arith

-- ---- the rows

-- whether row k holds what has been read: one of the first n, the pool's, or that of the glued instruments
abbrev held : (n k : ℕ) → Bool
held n k = leb k n || eqb k 13

-- row k of the rows
row_in : (rows : List ℕ) (n k : ℕ) → k < 14 → get_or (rows_in rows n) k blank_team ≡ cond (held n k) (row_at rows k) blank_team
unfolding rows_in
row_in rows n k l = each_at (λ k. cond (held n k) (row_at rows k) blank_team) blank_team 14 k l

-- it is row k of the table where it is one of the first n, or row 13
pub row_first : (rows : List ℕ) (n k : ℕ) → k < 14 → k ≤ n → get_or (rows_in rows n) k blank_team ≡ row_at rows k
row_first rows n k l b = row_in rows n k l ∙ rw (le-leb k n b) refl

pub row_last : (rows : List ℕ) (n k : ℕ) → n ≤ 12 → k ≡ 13 → get_or (rows_in rows n) k blank_team ≡ row_at rows k
row_last rows n k few e = row_in rows n k (omega arith) ∙ rw (lt-leb k n (omega arith), eq-eqb k 13 e) refl

-- the teams of these rows, and their days
pub team_row : (rows : List ℕ) (n t : ℕ) → t < 12 → get_or (rows_in rows n) (t + 1) blank_team ≡ cond (ltb t n) (row_at rows (t + 1)) blank_team
team_row rows n t l =
    let e : t + 1 ≡ suc t = omega arith in
    row_in rows n (t + 1) (omega arith) ∙ rw (ne_eqb (t + 1) 13 (omega arith), or-false (leb (t + 1) n)) (ap (λ (k : ℕ). cond (leb k n) (row_at rows (t + 1)) blank_team) e)

pub days_row : (rows : List ℕ) (n t : ℕ) → t < 12 → days_of (get_or (rows_in rows n) (t + 1) blank_team) ≡ cond (ltb t n) (days_of (row_at rows (t + 1))) always
days_row rows n t l = ap days_of (team_row rows n t l) ∙ go (ltb t n)
  where
    go : (b : Bool) → days_of (cond b (row_at rows (t + 1)) blank_team) ≡ cond b (days_of (row_at rows (t + 1))) always
    go true = refl
    go false = refl

-- the answer to a file that is accepted, by its parts
pub accepted_is : (rows : List ℕ) (s : State) (teams : List Team) (days shelf : List LoanDays) → teams ≡ teams_of (rows_in rows s.n) → days ≡ team_days (rows_in rows s.n)
    → shelf ≡ shelf_days s.m (row_at rows 0) → s.n ≤ 12 → (glue : List ℕ) → glue ≡ (row_at rows 13).named
    → record { refusal = 0; place = 0; m = s.m; n = s.n; teams = teams; shelf = shelf; days = days; glue = glue } ≡ accepted s (rows_in rows s.n)
accepted_is rows s teams days shelf is-teams is_days is_shelf few glue is_glue =
    let is-shelf' = is_shelf ∙ ap (shelf_days s.m) (sym (row_first rows s.n 0 (omega arith) (omega arith))) in
    let is-glue' = is_glue ∙ ap (λ (t : Team). t.named) (sym (row_last rows s.n 13 few refl)) in
    λ j. record { refusal = 0; place = 0; m = s.m; n = s.n; teams = is-teams j; shelf = is-shelf' j; days = is_days j; glue = is-glue' j }

rows_long : (rows : List ℕ) (n : ℕ) → length (rows_in rows n) ≡ 14
unfolding rows_in
rows_long rows n = each_length (λ k. cond (held n k) (row_at rows k) blank_team) 14

-- tables with the same rows
rows_same : (rows rows' : List ℕ) (n : ℕ) → ((k : ℕ) → k ≤ 13 → row_at rows' k ≡ row_at rows k) → rows_in rows' n ≡ rows_in rows n
rows_same rows rows' n same =
    let long = rows_long rows' n in
    ext_get_or blank_team (rows_in rows' n) (rows_in rows n) (long ∙ sym (rows_long rows n))
    (λ k l. row_in rows' n k (omega arith) ∙ ap (λ (team : Team). cond (held n k) team blank_team) (same k (omega arith)) ∙ sym (row_in rows n k (omega arith)))

-- one row changed: it is the last, where there are as many as before or one more, or that of the glued instruments
module _ (rows rows' : List ℕ) (n n' j : ℕ) (team : Team) (few : n' ≤ 12) (near : ((n' ≡ n) × ((j ≡ n') ⊎ (j ≡ 13))) ⊎ ((n' ≡ n + 1) × (j ≡ n')))
    (row : row_at rows' j ≡ team) (other : (k : ℕ) → k ≤ 13 → k ≢ j → row_at rows' k ≡ row_at rows k) where
  -- the other rows are the same as before
  other_row : (k : ℕ) → k < 14 → k ≢ j → get_or (rows_in rows' n') k blank_team ≡ get_or (rows_in rows n) k blank_team
  other_row k l d =
      row_in rows' n' k l ∙ ap (λ (x : Team). cond (held n' k) x blank_team) (other k (omega arith) d) ∙ ap (λ (b : Bool). cond (b || eqb k 13) (row_at rows k) blank_team) (below near (dec_le k n)) ∙ sym (row_in rows n k l)
    where
      below : ((n' ≡ n) × ((j ≡ n') ⊎ (j ≡ 13))) ⊎ ((n' ≡ n + 1) × (j ≡ n')) → Dec (k ≤ n) → leb k n' ≡ leb k n
      below (inl (e, _)) c = ap (leb k) e
      below (inr (e, last)) (yes b) = le-leb k n' (omega arith) ∙ sym (le-leb k n b)
      below (inr (e, last)) (no b) = lt-leb k n' (omega arith) ∙ sym (lt-leb k n (omega arith))

  -- the changed one is held
  this_row : (k : ℕ) → k ≡ j → get_or (rows_in rows' n') k blank_team ≡ row_at rows' k
  this_row k e = ⊎_elim (λ w. ⊎_elim (λ last. row_first rows' n' k (omega arith) (omega arith)) (λ glue. row_last rows' n' k few (e ∙ glue)) w.1) (λ w. let last = w.1 in row_first rows' n' k (omega arith) (omega arith)) near

  inside : j < 14
  inside = ⊎_elim (λ w. ⊎_elim (λ last. omega arith) (λ glue. omega arith) w.1) (λ w. let last = w.1 in omega arith) near

  rows_set : rows_in rows' n' ≡ set (rows_in rows n) j team
  rows_set = ext_get_or blank_team (rows_in rows' n') (set (rows_in rows n) j team) (long' ∙ sym (length-set (rows_in rows n) j team ∙ long)) (λ k l. at k (omega (arith, long')) (ℕ_discrete k j))
    where
      long : length (rows_in rows n) ≡ 14
      long = rows_long rows n

      long' : length (rows_in rows' n') ≡ 14
      long' = rows_long rows' n'

      at : (k : ℕ) → k < 14 → Dec (k ≡ j) → get_or (rows_in rows' n') k blank_team ≡ get_or (set (rows_in rows n) j team) k blank_team
      at k l (yes e) = this_row k e ∙ rw e (row ∙ sym (get_or-set_same (rows_in rows n) j team blank_team (omega (arith, long, inside))))
      at k l (no d) = other_row k l d ∙ sym (get_or-set_other (rows_in rows n) j k team blank_team d)

-- a command opens no team, or one more, in whose row it works and which does not depend on what stood there
data Opening (s : State) (command : Command) : Type 0 where
  none : (changed_state s command).n ≡ s.n → Opening s command
  one : (changed_state s command).n ≡ s.n + 1 → ((n : ℕ) → row_of n command ≡ n) → ((n : ℕ) (team team' : Team) → changed_team n team command ≡ changed_team n team' command) → Opening s command

opening : (s : State) (command : Command) → Opening s command
unfolding changed_state changed_team
opening s Missing = none refl
opening s Unknown = none refl
opening s Short = none refl
opening s (Start version m) = none refl
opening s (Caps channels) = one refl (λ n. refl) (λ n team team'. refl)
opening s (Loops channels) = one refl (λ n. refl) (λ n team team'. refl)
opening s (Mounts channels) = one refl (λ n. refl) (λ n team team'. refl)
opening s (Class class most) = none refl
opening s (Put instrument class) = none refl
opening s (Span instrument a b) = none refl
opening s (Fit instrument a b c d) = none refl
opening s (Shelf instrument a b c d) = none refl
opening s (Days a b c d) = none refl
opening s (Glue instrument) = none refl
opening s End = none refl

-- Where the loop stands: the rows of the table are those that have been read.
pub record Stands (file : List ℕ) (at : ℕ) (s : State) (rows : List ℕ) : Type 0 where
  pub run : Run file at s (rows_in rows s.n)
  pub long : length rows ≡ 4802

-- before the first command every row is blank
none_read : (rows : List ℕ) → row_at rows 0 ≡ blank_team → row_at rows 13 ≡ blank_team → rows_in rows 0 ≡ replicate 14 blank_team
unfolding rows_in
none_read rows blank free = rw (blank, free) refl

-- at the start
pub stands_start : (file rows : List ℕ) → get_or file 0 0 ≡ 1 → length rows ≡ 4802 → row_at rows 0 ≡ blank_team → row_at rows 13 ≡ blank_team → Stands file 0 start rows
stands_start file rows e long blank free = record { run = subst (Run file 0 start) (sym (none_read rows blank free)) (run_start file e); long = long }

-- the refusal that following a command comes to, and the state at an END
abbrev refusal_in : Refusal → Result (Option State) Refusal → Refusal
refusal_in e (Err d) = d
refusal_in e (Ok o) = e

abbrev ending_state : State → Result Ending Refusal → State
ending_state s (Err e) = s
ending_state s (Ok end) = end.s

-- a refusal is no END
abbrev ended : Result Ending Refusal → ℕ
ended (Err e) = 0
ended (Ok end) = 1

ended_not : (e : Refusal) (end : Ending) → ◌≡◌ {A = Result Ending Refusal} (Err e) (Ok end) → ⊥
ended_not e end w = let z : ◌≡◌ {A = ℕ} 0 1 = ap ended w in omega arith

module _ (file : List ℕ) (at : ℕ) (s : State) (rows : List ℕ) (here : Stands file at s rows) (p : Result (Option State) Refusal) (rows' : List ℕ) (done : Followed rows at s (command_at file at) p rows') where
  abbrev command : Command
  command = command_at file at

  abbrev read : List Team
  read = rows_in rows s.n

  few : s.n ≤ 12
  few = here.run.few

  -- the row that the command works on
  abbrev here_row : ℕ
  here_row = row_of s.n command

  is_open : row_at rows here_row ≡ open_team read here_row
  is_open = let l = few in sym (⊎_elim (λ e. row_first rows s.n here_row (omega arith) (omega arith)) (λ e. row_last rows s.n here_row few e) (row_of_lem s.n command))

  abbrev f : ℕ
  f = fault at s (row_at rows here_row) command

  found : f ≡ number file at s read
  found = ap (λ (team : Team). fault at s team command) is_open

  -- what following a command comes to, by the rule that is broken and whether it is END
  data Way : Type 0 where
    refuses : f ≢ 0 → p ≡ refuse f at → Way
    ends : f ≡ 0 → is_end command ≡ true → p ≡ Ok None → Way
    goes : f ≡ 0 → is_end command ≡ false → p ≡ Ok (Some (changed_state s command)) → Way

  way : Way
  way = go (eqb f 0) refl (is_end command) refl done.is
    where
      go : (b : Bool) → eqb f 0 ≡ b → (b' : Bool) → is_end command ≡ b'
          → p ≡ cond b (cond b' (Ok None) (Ok (Some (changed_state s command)))) (refuse f at) → Way
      go true t true e is = ends (eqb-true f 0 t) e is
      go true t false e is = goes (eqb-true f 0 t) e is
      go false t b' e is = refuses (eqb-false f 0 t) is

  -- where reading stops: at a command that breaks a rule
  pub stops_refused : (e : Refusal) → p ≡ Err e → Ended file (Err e) rows'
  stops_refused e stop = go way
    where
      go : Way → Ended file (Err e) rows'
      go (refuses d is) = record {
        few = λ end w. absurd (ended_not e end w);
        small = λ end w. absurd (ended_not e end w);
        same =
            let same_e : e ≡ record { number = f; place = at } = ap (refusal_in e) (sym stop ∙ is) in
            rw same_e (ap (λ (k : ℕ). refused k at) found ∙ run_refused file at s read here.run (λ z. d (found ∙ z)));
      }
      go (ends z t is) = let w : ◌≡◌ {A = ℕ} 0 1 = ap way_of (sym stop ∙ is) in absurd (omega arith)
      go (goes z t is) = let w : ◌≡◌ {A = ℕ} 0 2 = ap way_of (sym stop ∙ is) in absurd (omega arith)

  -- and at an END in its place
  pub stops_end : p ≡ Ok None → Ended file (Ok (record { at = at; s = s })) rows'
  stops_end stop = go way
    where
      go : Way → Ended file (Ok (record { at = at; s = s })) rows'
      go (refuses d is) = let w : ◌≡◌ {A = ℕ} 1 0 = ap way_of (sym stop ∙ is) in absurd (omega arith)
      go (ends z t is) = record {
        few = λ end w. subst (λ (x : State). x.n ≤ 12) (ap (ending_state s) w) few;
        small = λ end w. subst (λ (x : State). x.m ≤ 64) (ap (ending_state s) w) here.run.small;
        same = ap (finished file at s) (rows_same rows rows' s.n (λ k l. done.other k l (λ next e. let w : ◌≡◌ {A = ℕ} 1 2 = ap way_of (sym stop ∙ e) in absurd (omega arith)))) ∙ run_end file at s read here.run (sym found ∙ z) t;
      }
      go (goes z t is) = let w : ◌≡◌ {A = ℕ} 1 2 = ap way_of (sym stop ∙ is) in absurd (omega arith)

  module _ (next : State) (on : p ≡ Ok (Some next)) where
    -- where it goes on
    goes_on : (f ≡ 0) × (is_end command ≡ false) × (next ≡ changed_state s command)
    goes_on = go way
      where
        go : Way → (f ≡ 0) × (is_end command ≡ false) × (next ≡ changed_state s command)
        go (refuses d is) = let w : ◌≡◌ {A = ℕ} 2 0 = ap way_of (sym on ∙ is) in absurd (omega arith)
        go (ends z e is) = let w : ◌≡◌ {A = ℕ} 2 1 = ap way_of (sym on ∙ is) in absurd (omega arith)
        go (goes z e is) = (z, e, ap (state_of next) (sym on ∙ is))

    abbrev n' : ℕ
    n' = next.n

    -- there are as many teams as the command leaves
    count : n' ≡ (changed_state s command).n
    count = ap (λ (x : State). x.n) goes_on.2

    -- the row that the command then works on is that of before, changed
    abbrev next_row : ℕ
    next_row = row_of n' command

    changed_row : row_at rows' next_row ≡ changed_team n' (row_at rows here_row) command
    changed_row = done.row next on ∙ go (opening s command)
      where
        go : Opening s command → changed_team n' (row_at rows next_row) command ≡ changed_team n' (row_at rows here_row) command
        go (none e) = ap (λ (k : ℕ). changed_team n' (row_at rows (row_of k command)) command) (count ∙ e)
        go (one e own free) = free n' (row_at rows next_row) (row_at rows here_row)

    -- the rows are those of before, with that one changed
    rows_next : rows_in rows' n' ≡ set read next_row (changed_team n' (open_team read here_row) command)
    rows_next =
        rows_set rows rows' s.n n' next_row (changed_team n' (row_at rows here_row) command) few' near changed_row (λ k l d. done.other k l (λ later e w. d (w ∙ ap (λ (x : State). row_of x.n command) (sym (ap (state_of next) (sym on ∙ e)))))) ∙ ap (λ (team : Team). set read next_row (changed_team n' team command)) is_open
      where
        few' : n' ≤ 12
        few' = let l = few_teams at s (row_at rows here_row) command few goes_on.0 in omega (arith, count)

        near : ((n' ≡ s.n) × ((next_row ≡ n') ⊎ (next_row ≡ 13))) ⊎ ((n' ≡ s.n + 1) × (next_row ≡ n'))
        near = elim (opening s command) [ none e ↦ inl (count ∙ e, row_of_lem n' command) | one e own free ↦ inr (count ∙ e, own n') ]

    pub stands_next : length rows' ≡ length rows → Stands file (at + bytes_of command) next rows'
    stands_next long =
        let later = run_next file at s read here.run (sym found ∙ goes_on.0) goes_on.1 in
        record {
          run = subst (Run file (at + bytes_of command) next) (sym rows_next) (subst (λ (x : State). Run file (at + bytes_of command) x (set read (row_of x.n command) (changed_team x.n (open_team read here_row) command))) (sym goes_on.2) later);
          long = long ∙ here.long;
        }

    pub comes_nearer : length file - (at + bytes_of command) < length file - at
    comes_nearer = run_longer file at s read here.run (sym found ∙ goes_on.0)
