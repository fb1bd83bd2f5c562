-- A team's structure, by its kind.
use Prim.Native.Nat.{ℕ}
use mathlib.Core.Path.{◌≡◌, refl}
use borrow.Author.Tests.{eq-eqb, ne_eqb}
use Rattle.matroid.specs.Build.{rank_zero}
use Rattle.team.specs.declared.Team.{Team}
use Rattle.team.specs.Team.{caps_kind, loops_kind, mounts_kind}
use Rattle.caps.specs.Partition.{caps_of}
use Rattle.loops.specs.Graphic.{loops_of}
use Rattle.mounts.specs.Transversal.{mounts_of}
use Rattle.kinds.specs.Teams.{structure_of}

pub of_caps : (m : ℕ) (team : Team) → team.kind ≡ caps_kind → structure_of m team ≡ caps_of m team.first team.cap
of_caps m team e = rw (eq-eqb team.kind caps_kind e) refl

pub of_loops : (m : ℕ) (team : Team) → team.kind ≡ loops_kind → structure_of m team ≡ loops_of m team.first team.second
of_loops m team e = rw (e) refl

pub of_mounts : (m : ℕ) (team : Team) → team.kind ≡ mounts_kind → structure_of m team ≡ mounts_of m team.named team.first team.second team.third team.fourth
of_mounts m team e = rw (e) refl

pub of_none : (m : ℕ) (team : Team) → (team.kind ≡ caps_kind → ⊥) → (team.kind ≡ loops_kind → ⊥) → (team.kind ≡ mounts_kind → ⊥) → structure_of m team ≡ rank_zero m
of_none m team d e f = rw (ne_eqb team.kind caps_kind d, ne_eqb team.kind loops_kind e, ne_eqb team.kind mounts_kind f) refl
