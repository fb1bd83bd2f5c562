-- What an accepted reading holds.
use Rattle.std.specs.Prelude.{ℕ, ◌≤◌, ◌<◌, ◌≡◌, ◌⊎◌, ◌≢◌, length, get_or}
use Rattle.plan.specs.declared.Reading.{Reading}
use Rattle.team.specs.declared.Team.{Team}
use Rattle.team.specs.Team.{caps_kind, loops_kind, mounts_kind, joints, blank_team}

-- How a team of a kind has instrument i of m in its tables, by the byte of the command that names it and that command's operands after it:
-- not at all, put in a class below 16, with a span of two different joints, or fit for some mounts. 255 fills the rest.
pub data Naming (m kind i : ℕ) : (command first second third fourth : ℕ) → Type 0 where
  unnamed : Naming m kind i 255 255 255 255 255
  by_put : (class : ℕ) → kind ≡ caps_kind → i < m → class < 16 → Naming m kind i 5 class 255 255 255
  by_span : (a b : ℕ) → kind ≡ loops_kind → i < m → a < joints → b < joints → a ≢ b → Naming m kind i 6 a b 255 255
  by_fit : (a b c d : ℕ) → kind ≡ mounts_kind → i < m → Naming m kind i 9 a b c d

-- the tables of a team of the plan, among m instruments
pub record ValidTeam (m : ℕ) (team : Team) : Type 0 where
  pub cap_long : length team.cap ≡ 16
  pub named_long : length team.named ≡ 64
  pub first_long : length team.first ≡ 64
  pub second_long : length team.second ≡ 64
  pub third_long : length team.third ≡ 64
  pub fourth_long : length team.fourth ≡ 64
  pub days_long : length team.days ≡ 5
  -- the team is of a kind
  pub kind : (team.kind ≡ caps_kind) ⊎ (team.kind ≡ loops_kind) ⊎ (team.kind ≡ mounts_kind)
  -- and every instrument is named as a command of that kind of team names it, or not at all
  pub instrument : (i : ℕ) → Naming m team.kind i (get_or team.named i 255) (get_or team.first i 255) (get_or team.second i 255) (get_or team.third i 255) (get_or team.fourth i 255)

-- an accepted reading: 1 to 12 teams, at most 64 instruments, and every team in order
pub record Valid (r : Reading) : Type 0 where
  pub teams_long : length r.teams ≡ 12
  pub shelf_long : length r.shelf ≡ 64
  pub days_long : length r.days ≡ 12
  pub some : 1 ≤ r.n
  pub few : r.n ≤ 12
  pub small : r.m ≤ 64
  pub team : (t : ℕ) → t < r.n → ValidTeam r.m (get_or r.teams t blank_team)
