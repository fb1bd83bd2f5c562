-- The form of a sheet as facts about its bytes: what `form` tests, command by command.
use Rattle.std.specs.Prelude.{ℕ, ◌+◌, ◌-◌, ◌*◌, ◌^◌, ◌<◌, ◌≡◌, true, not, List, T, get_or}
use Rattle.matroid.specs.Set.{Set, size}
use Rattle.sheet.specs.Layout.{give_start, bound_start, share_start, part_start}
use Rattle.sheet.specs.Fields.{holder_at, share_at, part_at}
use Rattle.sheet.specs.Form.{holder}

-- no byte of the set at an offset has a bit at or above m
abbrev pub SetFormed : (m : ℕ) → List ℕ → ℕ → Type 0
SetFormed m sheet at = (k : ℕ) → k < 8 → get_or sheet (at + k) 0 < 2 ^ (m - 8 * k)

-- of n teams those in `present` are present
pub record Formed (m n : ℕ) (present : Set) (sheet : List ℕ) : Type 0 where
  pub head_byte : get_or sheet 0 0 ≡ 17
  pub head_m : get_or sheet 1 0 ≡ m
  pub head_n : get_or sheet 2 0 ≡ n
  pub give_byte : (g : ℕ) → g < m → get_or sheet (give_start g) 0 ≡ 18
  pub give_item : (g : ℕ) → g < m → get_or sheet (give_start g + 1) 0 ≡ g
  pub give_team : (g : ℕ) → g < m → holder n (holder_at sheet g) ≡ true
  pub bound_byte : get_or sheet (bound_start m) 0 ≡ 19
  pub bound_set : SetFormed m sheet (bound_start m + 1)
  pub share_byte : (t : ℕ) → t < n → get_or sheet (share_start m t) 0 ≡ 20
  pub share_team : (t : ℕ) → t < n → get_or sheet (share_start m t + 1) 0 ≡ t
  pub part_byte : (t : ℕ) → t < n → (g : ℕ) → g < m → get_or sheet (part_start m t g) 0 ≡ 21
  pub part_item : (t : ℕ) → t < n → (g : ℕ) → g < m → get_or sheet (part_start m t g + 1) 0 ≡ g
  -- the set and the parts of a team that is present
  pub share_set : (t : ℕ) → t < n → T (present t) → SetFormed m sheet (share_start m t + 3)
  pub part_below : (t : ℕ) → t < n → T (present t) → (g : ℕ) → g < m → part_at m sheet t g < size n present
  -- share, set and parts of a team that is away
  pub away_share_lem : (t : ℕ) → t < n → T (not (present t)) → share_at m sheet t ≡ 0
  pub away_set : (t : ℕ) → t < n → T (not (present t)) → (k : ℕ) → k < 8 → get_or sheet (share_start m t + 3 + k) 0 ≡ 0
  pub away_part_lem : (t : ℕ) → t < n → T (not (present t)) → (g : ℕ) → g < m → part_at m sheet t g ≡ 0
  pub end_byte : get_or sheet (share_start m n) 0 ≡ 22
