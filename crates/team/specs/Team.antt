-- A team of which the plan file names nothing, the kinds of team, and the number of joints.
use Rattle.std.specs.Prelude.{ℕ, replicate}
use Rattle.team.specs.declared.Team.{Team}

-- the kinds of team, by the byte that opens one: 02 CAPS, 03 LOOPS, 08 MOUNTS
abbrev pub caps_kind : ℕ
caps_kind = 2

abbrev pub loops_kind : ℕ
loops_kind = 3

abbrev pub mounts_kind : ℕ
mounts_kind = 8

-- how many joints a LOOPS team can name: "joints are now 0 to 39" (document 02, note 5)
unfoldable pub joints : ℕ
joints = 40

-- a team of which nothing is named but its kind, its channels and one cap for each class: "one fixed filler wherever the file names nothing",
-- 255, which is no kind, no class, no joint and no command that names an instrument
abbrev pub opened_team : (kind channels cap : ℕ) → Team
opened_team kind channels cap = record {
  kind = kind;
  channels = channels;
  cap = replicate 16 cap;
  named = replicate 64 255;
  first = replicate 64 255;
  second = replicate 64 255;
  third = replicate 64 255;
  fourth = replicate 64 255;
  days = replicate 5 255;
}

-- a team of which the file names nothing
abbrev pub blank_team : Team
blank_team = opened_team 255 255 255
