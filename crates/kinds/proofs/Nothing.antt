-- Where a team's kind makes every set worth 0, so does its valuation: to a team of no kind, and to a team of no channels.
use Prim.Native.Nat.{ℕ}
use mathlib.Core.Path.{◌≡◌, ap, ◌∙◌}
use native.Mathlib.Omega.{arith}
use Rattle.matroid.specs.Set.{Set, ◌∩◌, ◌∪◌}
use Rattle.matroid.specs.Matroid.{Matroid, worth}
use Rattle.matroid.specs.Build.{truncate, rank_zero, contracted}
use Rattle.matroid.proofs.Building.{worth_truncate, worth_rank_zero, worth_restrict, contracted_yes, contracted_no}
use Rattle.sets.specs.Bits.{bit}
use Rattle.kinds.specs.declared.Valuation.{Valuation}
use Rattle.kinds.specs.Teams.{structure_of, kind_matroid}
use Rattle.kinds.specs.Valuations.{matroid_of, blank_valuation, matroid_of_lem}

-- what is worth 0 is worth 0 above G, wherever G is independent or not
contracted_nothing : {m : ℕ} (M : Matroid m) (G : Set) → ((S : Set) → worth M S ≡ 0) → (S : Set) → worth (contracted M G) S ≡ 0
contracted_nothing M G zero S = elim (M.decide G) [
  | yes g ↦ let above = contracted_yes M G g S in let none = zero (S ∪ G) in omega arith
  | no d ↦ contracted_no M G d S
]

nothing_worth : (m : ℕ) (v : Valuation) → ((S : Set) → worth (kind_matroid m v.team) S ≡ 0) → (S : Set) → worth (matroid_of m v) S ≡ 0
nothing_worth m v zero S =
    let M = kind_matroid m v.team in
    rw (matroid_of_lem m v) (worth_restrict (contracted M (bit v.glued)) (bit v.usable) S ∙ contracted_nothing M (bit v.glued) zero (S ∩ bit v.usable))

-- a team of no kind
pub blank_worth : (m : ℕ) (S : Set) → worth (matroid_of m blank_valuation) S ≡ 0
blank_worth m = nothing_worth m blank_valuation (λ S. let cut = worth_truncate (rank_zero m) 255 S in let none = worth_rank_zero m S in omega arith)

-- a team of no channels
pub idle_worth : (m : ℕ) (v : Valuation) → v.team.channels ≡ 0 → (S : Set) → worth (matroid_of m v) S ≡ 0
idle_worth m v e = nothing_worth m v (λ S. ap (λ (c : ℕ). worth (truncate (structure_of m v.team) c) S) e ∙ (let cut = worth_truncate (structure_of m v.team) 0 S in omega arith))
