-- Reading one command: what the functions of `step` come to. A table of fourteen rows of 343 bytes has the pool's in row 0, that of the team
-- opened n-th in row n, and that of the glued instruments in row 13.
use Rattle.std.specs.Prelude.{ℕ, ◌*◌, ◌≤◌, ◌≡◌, ◌||◌, cond, List, [], ◌∷◌, ◌≢◌, eqb, leb, Option, Some, None, Result, Ok, Err}
use Rattle.matroid.specs.Cuts.{each}
use Rattle.team.specs.declared.Team.{Team}
use Rattle.team.specs.Team.{blank_team}
use Rattle.command.specs.declared.Command.{Command}
use Rattle.command.specs.declared.State.{State}
use Rattle.command.specs.declared.refusal.Refusal.{Refusal}
use Rattle.command.specs.Refusal.{refuse}
use Rattle.judge.specs.Fault.{fault, is_end}
use Rattle.carry.specs.Carry.{row_of, changed_team, changed_state}
use Rattle.row.specs.Row.{part, row_team}
use Rattle.plan.specs.declared.step.Ending.{Ending}
use Rattle.plan.specs.declared.Reading.{Reading}
use Rattle.plan.specs.Read.{refused, finished, read_plan}

-- the team of row k
unfoldable pub row_at : List ℕ → ℕ → Team
row_at rows k = row_team (part rows (343 * k) 343)

-- rows 0 to n and row 13, and blank ones between
unfoldable pub rows_in : List ℕ → ℕ → List Team
rows_in rows n = each 14 (λ k. cond (leb k n || eqb k 13) (row_at rows k) blank_team ∷ [])

-- after a command, given the row that it works on: it breaks a rule, it is an END in its place, or it is carried out
abbrev pub followed : ℕ → State → Team → Command → Result (Option State) Refusal
followed at s team command =
    let number = fault at s team command in
    cond (eqb number 0) (cond (is_end command) (Ok None) (Ok (Some (changed_state s command)))) (refuse number at)

-- what is read and the rows after a command: where it is carried out, the row that it works on is changed, and no other
pub record Followed (rows : List ℕ) (at : ℕ) (s : State) (command : Command) (r : Result (Option State) Refusal) (rows' : List ℕ) : Type 0 where
  pub is : r ≡ followed at s (row_at rows (row_of s.n command)) command
  pub row : (next : State) → r ≡ Ok (Some next) → row_at rows' (row_of next.n command) ≡ changed_team next.n (row_at rows (row_of next.n command)) command
  pub other : (k : ℕ) → k ≤ 13 → ((next : State) → r ≡ Ok (Some next) → k ≢ row_of next.n command) → row_at rows' k ≡ row_at rows k

-- the answer where reading has stopped: at a command that breaks a rule, or at an END in its place
abbrev pub answered : List ℕ → Result Ending Refusal → List ℕ → Reading
answered file (Ok end) rows = finished file end.at end.s (rows_in rows end.s.n)
answered file (Err e) rows = refused e.number e.place

-- reading has stopped, and the answer is Read's
pub record Ended (file : List ℕ) (r : Result Ending Refusal) (rows : List ℕ) : Type 0 where
  pub few : (end : Ending) → r ≡ Ok end → end.s.n ≤ 12
  pub small : (end : Ending) → r ≡ Ok end → end.s.m ≤ 64
  pub same : answered file r rows ≡ read_plan file
