-- The weekly listing (document 01): of a sheet that Check accepts, and of a plan that `divide` reads.
use Rattle.std.specs.Prelude.{ℕ, ◌≤◌, ◌<◌, ◌≡◌, ◌≢◌, List, ◌++◌, length, drop}
use Rattle.plan.specs.Read.{read_plan}
use Rattle.checker.specs.Stated.{Stated}
use Rattle.listing.specs.Listing.{listing_by, refusal_line}
use Rattle.demands.specs.One.{Checks}
use Rattle.demands.specs.Three.{Good}

-- a buffer that starts with a text, and is as before beyond it
abbrev pub StartsWith : (text before after : List ℕ) → Type 0
StartsWith text before after = after ≡ text ++ drop (length text) before

-- the listing of a sheet, by a plan
pub record Lists (plan sheet before after : List ℕ) (number place long : ℕ) : Type 0 where
  -- Check's refusals come first
  pub refused : (Stated (read_plan plan) sheet → ⊥) → Checks plan sheet number place × (after ≡ before)
  -- then a lent buffer shorter than the listing is 10, place its length
  pub short : Stated (read_plan plan) sheet → length before < length (listing_by (read_plan plan) sheet) → (number ≡ 10) × (place ≡ length (listing_by (read_plan plan) sheet)) × (after ≡ before)
  -- otherwise the first bytes become the listing, the rest stays, and the answer is its length
  pub listed : Stated (read_plan plan) sheet → length (listing_by (read_plan plan) sheet) ≤ length before
      → (number ≡ 0) × (long ≡ length (listing_by (read_plan plan) sheet)) × StartsWith (listing_by (read_plan plan) sheet) before after
  -- a buffer of 512 bytes is always long enough
  pub most : Stated (read_plan plan) sheet → length (listing_by (read_plan plan) sheet) ≤ 512

-- the line of a refusal: what is answered is a number, a place and a length
pub record Lines (number place : ℕ) (before after : List ℕ) (told at long : ℕ) : Type 0 where
  pub short : length before < length (refusal_line number place) → (told ≡ 10) × (at ≡ length (refusal_line number place)) × (after ≡ before)
  pub written : length (refusal_line number place) ≤ length before → (told ≡ 0) × (long ≡ length (refusal_line number place)) × StartsWith (refusal_line number place) before after

-- the listing of a good sheet
pub record ListsGood (plan before after : List ℕ) (long : ℕ) : Type 0 where
  pub sheet : List ℕ
  pub stated : Stated (read_plan plan) sheet
  pub good : Good plan sheet
  pub long_is : long ≡ length (listing_by (read_plan plan) sheet)
  pub bytes : StartsWith (listing_by (read_plan plan) sheet) before after

-- what `divide` prints, from a buffer of 512 bytes
pub record Prints (plan before after : List ℕ) (number long : ℕ) : Type 0 where
  pub fits : 512 ≤ length before → number ≡ 0
  -- "A refused plan prints `REFUSED`, number and place"
  pub refused : 512 ≤ length before → (read_plan plan).refusal ≢ 0
      → (long ≡ length (refusal_line (read_plan plan).refusal (read_plan plan).place)) × StartsWith (refusal_line (read_plan plan).refusal (read_plan plan).place) before after
  pub divided : 512 ≤ length before → (read_plan plan).refusal ≡ 0 → ListsGood plan before after long
