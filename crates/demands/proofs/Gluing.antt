-- "Glued instruments stay FF on the sheet; a team for one is 13" (document 02, note 6). It follows from independence.
use Prim.Native.Nat.{ℕ, zero, suc, ◌+◌, ◌<◌}
use mathlib.Core.Path.{◌≡◌, refl, sym, subst, subst⁻¹}
use mathlib.Core.List.{List}
use native.Mathlib.Omega.{arith}
use native.Mathlib.Decide.{ℕ_discrete}
use lib.Dec.{T}
use lib.ListN.{length}
use Rattle.matroid.specs.SetLaws.{eq→eqb}
use Rattle.matroid.specs.Division.{bundle}
use Rattle.plan.specs.Read.{read_plan}
use Rattle.plan.specs.Teams.{glued, present, team_matroid}
use Rattle.plan.proofs.Glued.{glued_in_none}
use Rattle.sheet.specs.Fields.{holder_at}
use Rattle.sheet.specs.Formed.{Formed}
use Rattle.demands.specs.One.{L, Lowest, Independent, Checks}

-- where P fails of some team below n, there is a lowest one: of those from t on the first, where P holds of those before
lowest : (n : ℕ) (P : ℕ → Type 0) → ((t : ℕ) → Dec (P t)) → (last : ℕ) → last < n → (P last → ⊥) → (left t : ℕ) → t + left ≡ last → ((u : ℕ) → u < t → P u) → (u : ℕ) × Lowest n P u
lowest n P decide last l fails zero t near before = (t, record { below = omega arith; fails = subst (λ (k : ℕ). P k → ⊥) (sym (omega arith)) fails; before = before })
lowest n P decide last l fails (suc left) t near before = elim (decide t) [
  | yes here ↦ lowest n P decide last l fails left (t + 1) (omega arith) (λ u b. elim (ℕ_discrete u t) [ yes e ↦ subst⁻¹ P e here | no o ↦ before u (omega arith) ])
  | no d ↦ (t, record { below = omega arith; fails = d; before = before })
]

-- a sheet in its form that has a team for a glued instrument is 13
pub glued_13 : (plan sheet : List ℕ) (number place : ℕ) → Checks plan sheet number place → (read_plan plan).refusal ≡ 0 → length sheet ≡ L (read_plan plan)
    → Formed (read_plan plan).m (read_plan plan).n (present (read_plan plan)) sheet → (i : ℕ) → i < (read_plan plan).m → T (glued (read_plan plan) i) → holder_at sheet i < (read_plan plan).n → number ≡ 13
glued_13 plan sheet number place checks z long formed i b g held =
    let r = read_plan plan in
    let (t, low) = lowest r.n (Independent r sheet) (λ t. (team_matroid r t).decide (bundle (holder_at sheet) t)) (holder_at sheet i) held
    (λ indep. glued_in_none plan z (holder_at sheet i) held (bundle (holder_at sheet) (holder_at sheet i)) i b g (eq→eqb (holder_at sheet i) (holder_at sheet i) refl) indep) (holder_at sheet i) 0 (omega arith) (λ u l. absurd (omega arith)) in
    (checks.rule_13 z long formed t low).0
