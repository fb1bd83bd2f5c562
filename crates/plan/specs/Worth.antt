-- Worth (document 01).
use Rattle.std.specs.Prelude.{ℕ, ◌≡◌, true, false, List, eqb, Ok, Result}
use Rattle.matroid.specs.Matroid.{worth}
use Rattle.sets.specs.Bits.{bit}
use Rattle.command.specs.declared.refusal.Refusal.{Refusal}
use Rattle.command.specs.Refusal.{refuse, number_of, place_of, value_of}
use Rattle.plan.specs.declared.Reading.{Reading}
use Rattle.plan.specs.Read.{read_plan}
use Rattle.plan.specs.Teams.{team_matroid}

-- "Read's refusals come first"; "to a team not in the plan every set is worth 0"
unfoldable pub answer_of : Reading → ℕ → ℕ → Result ℕ Refusal
answer_of r team set = elim (eqb r.refusal 0) [
  | false ↦ refuse r.refusal r.place
  | true ↦ Ok (worth (team_matroid r team) (bit set))
]

-- what Worth answers, "Given plan, team and set."
abbrev pub worth_answer : List ℕ → ℕ → ℕ → Result ℕ Refusal
worth_answer file team set = answer_of (read_plan file) team set

-- the answer's number, place and worth
abbrev pub worth_number : Result ℕ Refusal → ℕ
worth_number answer = number_of answer

abbrev pub worth_place : Result ℕ Refusal → ℕ
worth_place answer = place_of answer

abbrev pub worth_value : Result ℕ Refusal → ℕ
worth_value answer = value_of answer

-- Worth's answer in the paper's numbers: Read's number and place, and what the set is worth to the team. After a refusal there is no team, and
-- "to a team not in the plan every set is worth 0".
pub record WorthTold (file : List ℕ) (team set : ℕ) (answer : Result ℕ Refusal) : Type 0 where
  pub number : worth_number answer ≡ (read_plan file).refusal
  pub place : worth_place answer ≡ (read_plan file).place
  pub value : worth_value answer ≡ worth (team_matroid (read_plan file) team) (bit set)
