-- A verdict in the paper's numbers: "A refusal answers its number and place", "Acceptance answers 0".
use Rattle.std.specs.Prelude.{ℕ, ◌≡◌, List}
use Rattle.checker.specs.Verdict.{Verdict, verdict_number, verdict_place}
use Rattle.checker.specs.Check.{check_number, check_place}

pub record CheckTold (plan sheet : List ℕ) (v : Verdict) : Type 0 where
  pub number : verdict_number v ≡ check_number plan sheet
  pub place : verdict_place v ≡ check_place plan sheet
