-- Build (document 01).
use Rattle.std.specs.Prelude.{ℕ, ◌≤◌, ◌≡◌, not, List, [], ◌∷◌, eqb, ltb, length, take, drop, Ok, Result}
use Rattle.plan.specs.declared.Reading.{Reading}
use Rattle.plan.specs.Read.{read_plan}
use Rattle.command.specs.Rule.{Rule, rule, first_broken}
use Rattle.command.specs.declared.refusal.Refusal.{Refusal}
use Rattle.command.specs.Refusal.{refuse, number_of, place_of, value_of}
use Rattle.sheet.specs.Layout.{length_of}
use Rattle.checker.specs.Verdict.{Accepted}
use Rattle.checker.specs.Check.{check_sheet}

-- the answer of Build: how many bytes the sheet has, or the refusal
abbrev pub Built : Type 0
Built = Result ℕ Refusal

-- "Read's refusals come first. Then a lent buffer shorter than L is 10, place L." A rule that is broken answers what is made of its number and place.
abbrev pub build_rules : {X : Type 0} → (refuse : (number place : ℕ) → X) → Reading → (room : ℕ) → List (Rule X)
build_rules refuse r room =
    rule (not (eqb r.refusal 0)) (refuse r.refusal r.place)
    ∷ rule (ltb room (length_of r.m r.n)) (refuse 10 (length_of r.m r.n))
    ∷ []

-- "Otherwise ... the answer is L."
unfoldable pub answer_by : Reading → (room : ℕ) → Built
answer_by r room = first_broken (Ok (length_of r.m r.n)) (build_rules refuse r room)

abbrev pub build_answer : (plan buffer : List ℕ) → Built
build_answer plan buffer = answer_by (read_plan plan) (length buffer)

-- the answer's number, place and length
abbrev pub built_number : Built → ℕ
built_number answer = number_of answer

abbrev pub built_place : Built → ℕ
built_place answer = place_of answer

abbrev pub built_length : Built → ℕ
built_length answer = value_of answer

-- Build's answer in the paper's numbers: the refusal's number and place, or L; "every other part of the answer is then 0"
pub record BuildTold (plan buffer : List ℕ) (answer : Built) : Type 0 where
  pub number : built_number answer ≡ first_broken 0 (build_rules (λ number place. number) (read_plan plan) (length buffer))
  pub place : built_place answer ≡ first_broken 0 (build_rules (λ number place. place) (read_plan plan) (length buffer))
  pub long : built_length answer ≡ first_broken (length_of (read_plan plan).m (read_plan plan).n) (build_rules (λ number place. 0) (read_plan plan) (length buffer))

-- On a refusal the buffer is as it was. Otherwise "the first L bytes become the sheet, the rest stays": Check accepts the first L bytes, and
-- every byte beyond them is as before.
pub data Answered (plan before after : List ℕ) : Built → Type 0 where
  untouched : (number place : ℕ) → after ≡ before → Answered plan before after (refuse number place)
  sheet : (long : ℕ) → length after ≡ length before → long ≤ length before → check_sheet plan (take long after) ≡ Accepted → drop long after ≡ drop long before → Answered plan before after (Ok long)
