-- Check (document 01): "These come in rising order of number over the whole sheet".
use Rattle.std.specs.Prelude.{ℕ, not, List, [], ◌∷◌, eqb, ltb, length}
use Rattle.plan.specs.declared.Reading.{Reading}
use Rattle.plan.specs.Read.{read_plan}
use Rattle.plan.specs.Teams.{team_matroid, present}
use Rattle.sheet.specs.Layout.{length_of}
use Rattle.sheet.specs.Fields.{holder_at}
use Rattle.sheet.specs.Form.{form, first_fault}
use Rattle.checker.specs.Verdict.{Verdict, Accepted}
use Rattle.command.specs.Rule.{Rule, rule, first_broken}
use Rattle.command.specs.Refusal.{refuse}
use Rattle.checker.specs.Rules.{dependent_at, total_holds, wrong_share_at, short_at}

-- 13 "A bundle not independent", 14, 15 and 16, each at the lowest such team. A rule that is broken answers what is made of its number and place.
abbrev pub division_rules : {X : Type 0} → (refuse : (number place : ℕ) → X) → Reading → List ℕ → List (Rule X)
division_rules refuse r sheet =
    rule (ltb (dependent_at r.n (team_matroid r) (holder_at sheet)) r.n) (refuse 13 (dependent_at r.n (team_matroid r) (holder_at sheet)))
    ∷ rule (not (total_holds r.n (team_matroid r) sheet)) (refuse 14 0)
    ∷ rule (ltb (wrong_share_at r.n (present r) (team_matroid r) sheet) r.n) (refuse 15 (wrong_share_at r.n (present r) (team_matroid r) sheet))
    ∷ rule (ltb (short_at r.m r.n sheet) r.n) (refuse 16 (short_at r.m r.n sheet))
    ∷ []

-- "A sheet not of L bytes is 11, place 0. The first byte that differs from what form, order or range allows is 12, place its offset"
abbrev pub form_rules : {X : Type 0} → (refuse : (number place : ℕ) → X) → Reading → List ℕ → List (Rule X)
form_rules refuse r sheet =
    rule (not (eqb (length sheet) (length_of r.m r.n))) (refuse 11 0)
    ∷ rule (ltb (first_fault (form r.m r.n (present r)) sheet 0) (length_of r.m r.n)) (refuse 12 (first_fault (form r.m r.n (present r)) sheet 0))
    ∷ division_rules refuse r sheet

-- "Read's refusals come first."
abbrev pub sheet_rules : {X : Type 0} → (refuse : (number place : ℕ) → X) → Reading → List ℕ → List (Rule X)
sheet_rules refuse r sheet = rule (not (eqb r.refusal 0)) (refuse r.refusal r.place) ∷ form_rules refuse r sheet

-- what a sheet comes to, by the reading of a plan
unfoldable pub verdict_of : Reading → List ℕ → Verdict
verdict_of r sheet = first_broken Accepted (sheet_rules refuse r sheet)

abbrev pub check_sheet : (plan sheet : List ℕ) → Verdict
check_sheet plan sheet = verdict_of (read_plan plan) sheet

-- Check's number and its place: "Acceptance answers 0"
abbrev pub check_number : (plan sheet : List ℕ) → ℕ
check_number plan sheet = first_broken 0 (sheet_rules (λ number place. number) (read_plan plan) sheet)

abbrev pub check_place : (plan sheet : List ℕ) → ℕ
check_place plan sheet = first_broken 0 (sheet_rules (λ number place. place) (read_plan plan) sheet)
