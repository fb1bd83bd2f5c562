-- What the program `divide` prints of a plan: the listing of a sheet that Check accepts, or the plan's refusal. Several sheets may be good.
use Rattle.std.specs.Prelude.{ℕ, ◌≡◌, List}
use Rattle.plan.specs.Read.{read_plan}
use Rattle.checker.specs.Verdict.{Accepted}
use Rattle.checker.specs.Check.{check_sheet}
use Rattle.builder.specs.Build.{Built}
use Rattle.listing.specs.Listing.{listing_by, refusal_line}
use Rattle.listing.specs.Lent.{text_answer, text_in}

-- the text of a plan
pub data WeekText (plan : List ℕ) : List ℕ → Type 0 where
  refused : ((read_plan plan).refusal ≡ 0 → ⊥) → WeekText plan (refusal_line (read_plan plan).refusal (read_plan plan).place)
  listed : (sheet : List ℕ) → check_sheet plan sheet ≡ Accepted → WeekText plan (listing_by (read_plan plan) sheet)

-- it is put into the lent buffer
pub record Week (plan before after : List ℕ) (r : Built) : Type 0 where
  pub text : List ℕ
  pub is : WeekText plan text
  pub answer : r ≡ text_answer text before
  pub bytes : after ≡ text_in text before
