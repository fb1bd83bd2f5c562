-- Sheets whose GIVEs name other teams.
use Rattle.std.specs.Prelude.{◌≡◌, ◌≢◌, ◌+◌, ◌<◌, ℕ, List, slice_index}
use Rattle.sheet.specs.Layout.{give_start}

-- The GIVE of each instrument below m, of the first n that teams are listed for, names the listed team; each other byte is what it was.
pub record IsGiven (m : ℕ) (teams : List ℕ) (n : ℕ) (old new : List ℕ) : Type 0 where
  pub named : (g : ℕ) → g < n → g < m → slice_index new (give_start g + 2) ≡ slice_index teams g
  pub others : (k : ℕ) → ((g : ℕ) → g < n → g < m → k ≢ give_start g + 2) → slice_index new k ≡ slice_index old k
