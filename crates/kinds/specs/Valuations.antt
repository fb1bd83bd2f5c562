-- From a valuation its matroid.
use Rattle.std.specs.Prelude.{ℕ, ◌≡◌, refl, List, get_or}
use Rattle.matroid.specs.Matroid.{Matroid}
use Rattle.matroid.specs.Build.{restrict, contracted}
use Rattle.sets.specs.Bits.{bit}
use Rattle.team.specs.Team.{blank_team}
use Rattle.kinds.specs.declared.Valuation.{Valuation}
use Rattle.kinds.specs.Teams.{kind_matroid}

-- the valuation of a team of no kind
abbrev pub blank_valuation : Valuation
blank_valuation = record { team = blank_team; usable = 0; glued = 0 }

-- The team's matroid, contracted by the glued instruments and restricted to the usable ones: a set is independent where it holds usable
-- instruments alone and is independent for the team together with the glued ones. Where the glued set is not independent every set is worth 0.
-- It is shut: what stands above this crate uses worth and the two laws alone.
pub matroid_of : (m : ℕ) → Valuation → Matroid m
matroid_of m v = restrict (contracted (kind_matroid m v.team) (bit v.glued)) (bit v.usable)

-- the definition as an equation, for this crate's proofs and for the table of proved cases
pub matroid_of_lem : (m : ℕ) (v : Valuation) → matroid_of m v ≡ restrict (contracted (kind_matroid m v.team) (bit v.glued)) (bit v.usable)
unfolding matroid_of
matroid_of_lem m v = refl

-- the matroids of a row of valuations
abbrev pub matroids : (m : ℕ) → List Valuation → ℕ → Matroid m
matroids m valuations t = matroid_of m (get_or valuations t blank_valuation)
