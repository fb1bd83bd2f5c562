-- The answer of Check, as the paper's number and place.
use Rattle.std.specs.Prelude.{ℕ, ⊤, Ok, Result}
use Rattle.command.specs.declared.refusal.Refusal.{Refusal}
use Rattle.command.specs.Refusal.{number_of, place_of}

-- nothing beside it where the sheet is accepted, and else the refusal
abbrev pub Verdict : Type 0
Verdict = Result ⊤ Refusal

abbrev pub Accepted : Verdict
Accepted = Ok tt

-- "A refusal answers its number and place"; "Acceptance answers 0"
abbrev pub verdict_number : Verdict → ℕ
verdict_number v = number_of v

abbrev pub verdict_place : Verdict → ℕ
verdict_place v = place_of v
