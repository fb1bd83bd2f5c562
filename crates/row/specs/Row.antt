-- A team as a row of 343 bytes: its kind, its channels, the cap of each of 16 classes, then five tables over 64 instruments: the byte of the
-- command that names one, and the four operands of that command after the instrument; last the command that says its days, five bytes.
use Rattle.std.specs.Prelude.{ℕ, ◌≤◌, ◌<◌, ◌≡◌, ◌⊎◌, List, length, get_or, take, drop}
use Rattle.team.specs.declared.Team.{Team}

-- so many entries of a list, from an offset on
unfoldable pub part : List ℕ → (at many : ℕ) → List ℕ
part l at many = take many (drop at l)

-- the team of a row
unfoldable pub row_team : List ℕ → Team
row_team row = record {
  kind = get_or row 0 0;
  channels = get_or row 1 0;
  cap = part row 2 16;
  named = part row 18 64;
  first = part row 82 64;
  second = part row 146 64;
  third = part row 210 64;
  fourth = part row 274 64;
  days = part row 338 5;
}

-- r has a byte from one offset up to another, and elsewhere what the row had
pub record Filled (row : List ℕ) (from to byte : ℕ) (r : List ℕ) : Type 0 where
  pub long : length r ≡ length row
  pub new : (i d : ℕ) → from ≤ i → i < to → get_or r i d ≡ byte
  pub old : (i d : ℕ) → (i < from) ⊎ (to ≤ i) → get_or r i d ≡ get_or row i d
