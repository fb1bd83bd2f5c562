-- The fields of a sheet, by offset.
use Rattle.std.specs.Prelude.{ℕ, zero, suc, ◌+◌, ◌*◌, List, get_or}
use Rattle.sheet.specs.Layout.{give_start, bound_start, share_start, part_start}

-- a number of k bytes, low byte first
unfoldable pub number_at : (k : ℕ) → List ℕ → ℕ → ℕ
number_at zero sheet at = 0
number_at (suc k) sheet at = get_or sheet at 0 + 256 * number_at k sheet (at + 1)

-- "A set is 8 bytes; bit k stands for instrument k."
abbrev pub word_at : List ℕ → ℕ → ℕ
word_at sheet at = number_at 8 sheet at

-- the total that HEAD states
abbrev pub total_at : List ℕ → ℕ
total_at sheet = get_or sheet 3 0

-- the team that the GIVE of an instrument names, FF for the pool: the division of the sheet
abbrev pub holder_at : List ℕ → ℕ → ℕ
holder_at sheet g = get_or sheet (give_start g + 2) 0

-- BOUND's set
abbrev pub bound_at : (m : ℕ) → List ℕ → ℕ
bound_at m sheet = word_at sheet (bound_start m + 1)

-- the share and the set that the SHARE of a team states
abbrev pub share_at : (m : ℕ) → List ℕ → ℕ → ℕ
share_at m sheet t = get_or sheet (share_start m t + 2) 0

abbrev pub set_at : (m : ℕ) → List ℕ → ℕ → ℕ
set_at m sheet t = word_at sheet (share_start m t + 3)

-- the part that a team's PART of an instrument names
abbrev pub part_at : (m : ℕ) → List ℕ → (t : ℕ) → ℕ → ℕ
part_at m sheet t g = get_or sheet (part_start m t g + 2) 0
