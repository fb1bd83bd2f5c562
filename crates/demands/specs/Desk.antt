-- "The desk program, in C, calls Build and Check on byte buffers; a refusal is 65,536 × its number + its place." So are Worth, Page and the listing called.
use Rattle.std.specs.Prelude.{ℕ, ◌+◌, ◌*◌, ◌≤◌, ◌<◌, ◌≡◌, List, take, drop}
use Rattle.plan.specs.Read.{read_plan}
use Rattle.sheet.specs.Layout.{share_start}
use Rattle.checker.specs.Stated.{Stated}
use Rattle.demands.specs.One.{Builds, Checks}
use Rattle.demands.specs.Two.{Values, Accepts}
use Rattle.demands.specs.Pages.{Pages}
use Rattle.demands.specs.Listings.{Lists}

-- one number tells Build's number, place and length: number and place of a refusal, or the length
pub record DeskBuilds (plan before after : List ℕ) (r : ℕ) : Type 0 where
  pub number : ℕ
  pub place : ℕ
  pub long : ℕ
  pub is : r ≡ 65536 * number + place + long
  pub small : (number ≤ 18) × (place < 65536) × (long < 65536)
  pub builds : Builds plan before after number place long

-- the same of the listing
pub record DeskLists (plan sheet before after : List ℕ) (r : ℕ) : Type 0 where
  pub number : ℕ
  pub place : ℕ
  pub long : ℕ
  pub is : r ≡ 65536 * number + place + long
  pub small : (number ≤ 18) × (place < 65536) × (long < 65536)
  pub lists : Lists plan sheet before after number place long

-- and Check's number and place
pub record DeskChecks (plan sheet : List ℕ) (r : ℕ) : Type 0 where
  pub number : ℕ
  pub place : ℕ
  pub is : r ≡ 65536 * number + place
  pub small : (number ≤ 18) × (place < 65536)
  pub checks : Checks plan sheet number place
  pub accepts : Accepts plan sheet number

-- Worth's number and place, and the worth
pub record DeskValues (plan : List ℕ) (team set : ℕ) (r : ℕ) : Type 0 where
  pub number : ℕ
  pub place : ℕ
  pub worth : ℕ
  pub is : r ≡ 65536 * number + place + worth
  pub small : (number ≤ 18) × (place < 65536) × (worth ≤ 64)
  pub values : Values plan team set number place worth

-- Page: 65,536 × the length of the stretch + its offset in the sheet, 0 for the empty one
pub record DeskPages (plan sheet : List ℕ) (t : ℕ) (r : ℕ) : Type 0 where
  pub long : ℕ
  pub offset : ℕ
  pub is : r ≡ 65536 * long + offset
  pub small : (long < 65536) × (offset < 65536)
  -- the bytes there are the page
  pub pages : Pages plan sheet t (take long (drop offset sheet))
  -- they are the team's own SHARE and PARTs, not bytes elsewhere that are equal to them
  pub given : t < (read_plan plan).n → Stated (read_plan plan) sheet → (long ≡ 11 + 3 * (read_plan plan).m) × (offset ≡ share_start (read_plan plan).m t)
  pub absent : (read_plan plan).n ≤ t → r ≡ 0
  pub refused : (Stated (read_plan plan) sheet → ⊥) → r ≡ 0
