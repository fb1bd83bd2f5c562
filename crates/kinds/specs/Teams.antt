-- From a team its matroid, by its kind (document 01, "Worth and share"; document 02, note 1).
use Rattle.std.specs.Prelude.{ℕ, cond, eqb}
use Rattle.matroid.specs.Matroid.{Matroid}
use Rattle.matroid.specs.Build.{truncate, rank_zero}
use Rattle.team.specs.declared.Team.{Team}
use Rattle.team.specs.Team.{caps_kind, loops_kind, mounts_kind}
use Rattle.caps.specs.Partition.{caps_of}
use Rattle.loops.specs.Graphic.{loops_of}
use Rattle.mounts.specs.Transversal.{mounts_of}

-- What a team's kind asks of an independent set. It makes sense for any bytes in the tables; to a team of no kind only the empty set is independent.
abbrev pub structure_of : (m : ℕ) → Team → Matroid m
structure_of m team =
    cond (eqb team.kind caps_kind) (caps_of m team.first team.cap)
    (cond (eqb team.kind loops_kind) (loops_of m team.first team.second)
    (cond (eqb team.kind mounts_kind) (mounts_of m team.named team.first team.second team.third team.fourth)
    (rank_zero m)))

-- "and the set is no larger than channels", for every kind
abbrev pub kind_matroid : (m : ℕ) → Team → Matroid m
kind_matroid m team = truncate (structure_of m team) team.channels
