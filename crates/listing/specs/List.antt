-- The listing of a sheet, by a plan: Check's refusals come first, and then the buffer is as it was.
use Rattle.std.specs.Prelude.{ℕ, List, Ok, Err}
use Rattle.plan.specs.Read.{read_plan}
use Rattle.checker.specs.Verdict.{Verdict}
use Rattle.checker.specs.Check.{check_sheet}
use Rattle.builder.specs.Build.{Built}
use Rattle.listing.specs.Listing.{listing_by}
use Rattle.listing.specs.Lent.{text_answer, text_in}

-- by Check's verdict
abbrev pub answer_by : Verdict → (text buffer : List ℕ) → Built
answer_by (Ok x) text buffer = text_answer text buffer
answer_by (Err refusal) text buffer = Err refusal

abbrev pub bytes_by : Verdict → (text buffer : List ℕ) → List ℕ
bytes_by (Ok x) text buffer = text_in text buffer
bytes_by (Err refusal) text buffer = buffer

-- the answer
abbrev pub list_answer : (plan sheet buffer : List ℕ) → Built
list_answer plan sheet buffer = answer_by (check_sheet plan sheet) (listing_by (read_plan plan) sheet) buffer

-- and what the buffer then holds
abbrev pub list_bytes : (plan sheet buffer : List ℕ) → List ℕ
list_bytes plan sheet buffer = bytes_by (check_sheet plan sheet) (listing_by (read_plan plan) sheet) buffer
