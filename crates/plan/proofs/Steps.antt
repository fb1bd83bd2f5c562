-- One command of a plan: where it stands whole, and what reading it comes to.
use Prim.Native.Nat.{ℕ, suc, ◌+◌, ◌≤◌, ◌<◌}
use mathlib.Core.Path.{◌≡◌, refl}
use mathlib.Core.Bool.{Bool, true, false, not, cond}
use mathlib.Core.Logic.{◌≢◌, ◌⊎◌, inl, inr, ⊎_elim}
use mathlib.Core.List.{List}
use lib.ListN.{length, get_or, set, replicate}
use lib.Dec.{ltb}
use borrow.Author.Tests.{eq-eqb, ne_eqb, ltb-false, lt-ltb, le-ltb}
use native.Mathlib.Omega.{arith}
use Rattle.command.specs.declared.Command.{Command}
use Rattle.command.specs.declared.Command.TheVariants.{Missing, Unknown, Short, Start, Caps, Loops, Mounts, Class, Put, Span, Fit, Shelf, Days, Glue, End}
use Rattle.command.specs.declared.State.{State}
use Rattle.team.specs.declared.Team.{Team}
use Rattle.command.specs.Command.{command_at, bytes_of}
use Rattle.judge.specs.Fault.{fault, is_end}
use Rattle.carry.specs.Carry.{start, open_team, row_of, changed_team, changed_state}
use Rattle.team.specs.Team.{blank_team}
use Rattle.plan.specs.declared.Reading.{Reading}
use Rattle.plan.specs.Teams.{all_stand}
use Rattle.plan.specs.Read.{refused, accepted, finished, read_from, read_plan}

-- a command works on the row of the team opened last, or on that of the glued instruments
pub row_of_lem : (n : ℕ) (command : Command) → (row_of n command ≡ n) ⊎ (row_of n command ≡ 13)
row_of_lem n Missing = inl refl
row_of_lem n Unknown = inl refl
row_of_lem n Short = inl refl
row_of_lem n (Start version m) = inl refl
row_of_lem n (Caps channels) = inl refl
row_of_lem n (Loops channels) = inl refl
row_of_lem n (Mounts channels) = inl refl
row_of_lem n (Class class most) = inl refl
row_of_lem n (Put instrument class) = inl refl
row_of_lem n (Span instrument a b) = inl refl
row_of_lem n (Fit instrument a b c d) = inl refl
row_of_lem n (Shelf instrument a b c d) = inl refl
row_of_lem n (Days a b c d) = inl refl
row_of_lem n (Glue instrument) = inr refl
row_of_lem n End = inl refl

pub row_le : (n : ℕ) (command : Command) → n ≤ 12 → row_of n command ≤ 13
row_le n command l = ⊎_elim (λ e. omega arith) (λ e. omega arith) (row_of_lem n command)

-- the row that a command works on, and the rows after it
abbrev pub worked_on : State → List Team → Command → Team
worked_on s rows command = open_team rows (row_of s.n command)

abbrev pub rows_after : State → List Team → Command → List Team
rows_after s rows command = let n' = (changed_state s command).n in set rows (row_of n' command) (changed_team n' (worked_on s rows command) command)

-- the rule that the command at an offset breaks
abbrev pub number : List ℕ → ℕ → State → List Team → ℕ
number file at s rows = let command = command_at file at in fault at s (worked_on s rows command) command

-- where a command that breaks no rule leads
abbrev pub next : (List ℕ → ℕ → State → List Team → Type 0) → List ℕ → ℕ → State → List Team → Type 0
next P file at s rows =
    let command = command_at file at in
    P file (at + bytes_of command) (changed_state s command) (rows_after s rows command)

module _ (fuel : ℕ) (file : List ℕ) (at : ℕ) (s : State) (rows : List Team) where
  -- the three ways of a command
  pub step_refused : number file at s rows ≢ 0 → read_from (suc fuel) file at s rows ≡ refused (number file at s rows) at
  unfolding read_from
  step_refused d = rw (ne_eqb (number file at s rows) 0 d, read_from) refl

  pub step_end : number file at s rows ≡ 0 → is_end (command_at file at) ≡ true → read_from (suc fuel) file at s rows ≡ finished file at s rows
  unfolding read_from
  step_end z e = rw (eq-eqb (number file at s rows) 0 z, e, read_from) refl

  pub step_next : number file at s rows ≡ 0 → is_end (command_at file at) ≡ false → next (λ file' at' s' rows'. read_from (suc fuel) file at s rows ≡ read_from fuel file' at' s' rows') file at s rows
  unfolding read_from
  step_next z e = rw (eq-eqb (number file at s rows) 0 z, e, read_from) refl

-- the two ways of the first byte
pub plan_start : (file : List ℕ) → get_or file 0 0 ≡ 1 → read_plan file ≡ read_from (suc (length file)) file 0 start (replicate 14 blank_team)
unfolding read_plan
plan_start file e = rw (eq-eqb (get_or file 0 0) 1 e, read_plan) refl

pub plan_none : (file : List ℕ) → get_or file 0 0 ≢ 1 → read_plan file ≡ refused 1 0
unfolding read_plan
plan_none file d = rw (ne_eqb (get_or file 0 0) 1 d, read_plan) refl

-- what an END in its place comes to: some team's glued instruments cannot stand, bytes follow, or the plan is accepted
pub finished_by : (P : Reading → Type 0) (file : List ℕ) (at : ℕ) (s : State) (rows : List Team) → P (refused 18 at) → P (refused 9 (at + 1))
    → (all_stand (accepted s rows) ≡ true → length file ≤ at + 1 → P (accepted s rows)) → P (finished file at s rows)
finished_by P file at s rows falls extra ends = stand (all_stand (accepted s rows)) refl
  where
    follow : (b : Bool) → ltb (at + 1) (length file) ≡ b → all_stand (accepted s rows) ≡ true → P (cond b (refused 9 (at + 1)) (accepted s rows))
    follow true t e = extra
    follow false t e = ends e (ltb-false (at + 1) (length file) t)

    stand : (b : Bool) → all_stand (accepted s rows) ≡ b → P (cond (not b) (refused 18 at) (cond (ltb (at + 1) (length file)) (refused 9 (at + 1)) (accepted s rows)))
    stand true e = follow (ltb (at + 1) (length file)) refl e
    stand false e = falls

-- the same, where it is known whether they stand
module _ (file : List ℕ) (at : ℕ) (s : State) (rows : List Team) where
  pub falls_here : all_stand (accepted s rows) ≡ false → refused 18 at ≡ finished file at s rows
  falls_here e = rw e refl

  pub extra_here : all_stand (accepted s rows) ≡ true → at + 1 < length file → refused 9 (at + 1) ≡ finished file at s rows
  extra_here e l = rw (e, lt-ltb (at + 1) (length file) l) refl

  pub ends_here : all_stand (accepted s rows) ≡ true → length file ≤ at + 1 → accepted s rows ≡ finished file at s rows
  ends_here e l = rw (e, le-ltb (at + 1) (length file) l) refl
