-- The kinds of team as an enum, and the bytes that open a team of each.
use Rattle.std.specs.Prelude.{ℕ, ◌≡◌, ◌≢◌, Result, MatchResult}
use Rattle.team.specs.declared.kind.Kind.{Kind}
use Rattle.team.specs.declared.kind.Kind.TheVariants.{Caps, Loops, Mounts}
use Rattle.team.specs.declared.kind.NoKind.{NoKind}
use Rattle.team.specs.Team.{caps_kind, loops_kind, mounts_kind}

-- the byte that opens a team of a kind
abbrev pub byte_of : Kind → ℕ
byte_of Caps = caps_kind
byte_of Loops = loops_kind
byte_of Mounts = mounts_kind

-- the kind that a byte opens, or the byte itself where it opens none
abbrev pub Opens : ℕ → Result Kind NoKind → Type 0
Opens byte = λ r. MatchResult r (λ kind. byte_of kind ≡ byte) (λ e. (e.0 ≡ byte) × (byte ≢ caps_kind) × (byte ≢ loops_kind) × (byte ≢ mounts_kind))
