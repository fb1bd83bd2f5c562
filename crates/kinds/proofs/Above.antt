-- What a valuation gains above its glued instruments, by the valuation of the same team with none glued.
use Prim.Native.Nat.{ℕ, ◌+◌, ◌<◌}
use mathlib.Core.Path.{◌≡◌, refl, ap, ◌∙◌, subst, subst⁻¹, fun_ext}
use mathlib.Core.Bool.{Bool, true, false, ◌&&◌, ◌||◌, not}
use mathlib.Core.Logic.{◌↔◌, inl, inr}
use native.Mathlib.Omega.{arith}
use lib.Dec.{T}
use Rattle.matroid.specs.Taut.{both, and_left, and_right, or_cases, follows₂}
use Rattle.matroid.specs.Set.{Set, ◌∪◌, ◌∩◌, ◌∖◌, complement, size, Within}
use Rattle.matroid.specs.SetLaws.{size_none, union_left, union_least}
use Rattle.matroid.specs.Matroid.{Matroid, worth}
use Rattle.matroid.specs.Build.{restrict}
use Rattle.matroid.proofs.Rank.{worth_same}
use Rattle.matroid.proofs.Building.{worth_restrict}
use Rattle.sets.specs.Bits.{bit}
use Rattle.sets.proofs.Below.{bit_none, none_there}
use Rattle.team.specs.declared.Team.{Team}
use Rattle.kinds.specs.Teams.{kind_matroid}
use Rattle.kinds.specs.Valuations.{matroid_of, matroid_of_lem}
use Rattle.kinds.proofs.Contracting.{stands_empty, indep_above, worth_above}

-- ---- none glued

-- what is in A or in the empty word's set is in A
beside_none : {m : ℕ} (A : Set) → Within m (A ∪ bit 0) A
beside_none A = record { at = λ j l t. elim (or_cases (A j) (bit 0 j) t) [ inl a ↦ a | inr n ↦ absurd (subst T (bit_none j) n) ] }

module _ (m : ℕ) (team : Team) (usable : ℕ) where
  abbrev Plain : Matroid m
  Plain = matroid_of m (record { team = team; usable = usable; glued = 0 })

  -- a set is independent where it is usable and independent for the team
  pub plain_indep : (A : Set) → Plain.Indep A ↔ (Within m A (bit usable) × (kind_matroid m team).Indep A)
  plain_indep A =
      let M = kind_matroid m team in
      let above = indep_above M (bit 0) (bit usable) (stands_empty M 0 refl) A in
      rw (matroid_of_lem m (record { team = team; usable = usable; glued = 0 })) (
        λ i. let (k, _, j) = above.0 i in (k, M.part (union_left A (bit 0)) j),
        λ (k, j). above.1 (k, record { at = λ j l t. none_there j }, M.part (beside_none A) j),
      )

  -- and worth what its usable part is worth to the team
  pub plain_worth : (S : Set) → worth Plain S ≡ worth (restrict (kind_matroid m team) (bit usable)) S
  plain_worth S =
      let M = kind_matroid m team in
      let K = bit usable in
      let whole = (S ∩ K) ∪ bit 0 in
      let above = worth_above M (bit 0) K (stands_empty M 0 refl) S whole (worth M whole) (size m (bit 0)) (λ j. refl) refl refl in
      let none = ap (size m) (fun_ext bit_none) ∙ size_none m in
      let same = worth_same M {S = whole} {S' = S ∩ K} (beside_none (S ∩ K)) (union_left (S ∩ K) (bit 0)) in
      rw (matroid_of_lem m (record { team = team; usable = usable; glued = 0 }), worth_restrict M K S) (omega arith)

-- ---- some glued

-- Of the instruments that a team could use those in a set are glued to anyone, and no longer usable; those glued to the team are independent.
module _ (m : ℕ) (team : Team) (usable usable' glued : ℕ) (all : Set) (rest : (j : ℕ) → j < m → bit usable' j ≡ (bit usable ∖ all) j)
    (own : Within m (bit glued) all) (stands : (Plain m team usable).Indep (bit glued)) where
  abbrev M : Matroid m
  M = kind_matroid m team

  abbrev N : Matroid m
  N = matroid_of m (record { team = team; usable = usable'; glued = glued })

  abbrev G : Set
  G = bit glued

  -- the glued ones are usable and independent for the team
  stuck : Within m G (bit usable) × M.Indep G
  stuck = (plain_indep m team usable G).0 stands

  -- "A set is independent for a team if it holds no instrument glued to anyone and, together with the team's glued ones, was independent before"
  pub indep_for : (S : Set) → N.Indep S ↔ (Within m S (complement all) × (Plain m team usable).Indep (S ∪ G))
  indep_for S =
      let above = indep_above M G (bit usable') stuck.1 S in
      rw (matroid_of_lem m (record { team = team; usable = usable'; glued = glued })) (
        λ i.
            let (k, o, j) = above.0 i in
            let free : (j : ℕ) → j < m → T (S j) → T (bit usable j && not (all j)) = λ j l t. subst T (rest j l) (k.at j l t) in (
              record { at = λ j l t. and_right (bit usable j) (not (all j)) (free j l t) },
              (plain_indep m team usable (S ∪ G)).1 (union_least {A = S} {B = G} (record { at = λ j l t. and_left (bit usable j) (not (all j)) (free j l t) }) stuck.0, j),
            ),
        λ (o, i).
            let (k, j) = (plain_indep m team usable (S ∪ G)).0 i in
            above.1 (
              record { at = λ j l t. subst⁻¹ T (rest j l) (both (bit usable j) (not (all j)) (k.at j l ((union_left {m = m} S G).at j l t)) (o.at j l t)) },
              record { at = λ j l t. outside (all j) (G j) (o.at j l t) (own.at j l) },
              j,
            ),
      )
    where
      outside : (a g : Bool) → T (not a) → (T g → T a) → T (not g)
      outside a false t f = tt
      outside true true t f = t
      outside false true t f = f tt

  -- "Worth therefore counts what is gained above the glued gauges."
  pub gained : (S : Set) → worth N S + size m G ≡ worth (Plain m team usable) ((S ∖ all) ∪ G)
  gained S =
      let whole = (S ∩ bit usable') ∪ G in
      let above = worth_above M G (bit usable') stuck.1 S whole (worth M whole) (size m G) (λ j. refl) refl refl in
      let plain = plain_worth m team usable ((S ∖ all) ∪ G) ∙ worth_restrict M (bit usable) ((S ∖ all) ∪ G) in
      let same = worth_same M {S = whole} {S' = ((S ∖ all) ∪ G) ∩ bit usable} (record { at = inside }) (record { at = outside }) in
      rw (matroid_of_lem m (record { team = team; usable = usable'; glued = glued })) (omega arith)
    where
      inside : (j : ℕ) → j < m → T (((S ∩ bit usable') ∪ G) j) → T ((((S ∖ all) ∪ G) ∩ bit usable) j)
      inside j l t = elim (or_cases (S j && bit usable' j) (G j) t) [
        | inl a ↦
            let s = and_left (S j) (bit usable' j) a in
            let u = subst T (rest j l) (and_right (S j) (bit usable' j) a) in
            both ((S j && not (all j)) || G j) (bit usable j) (follows₂ (λ a g. a) (λ a g. a || g) tt (S j && not (all j)) (G j) (both (S j) (not (all j)) s (and_right (bit usable j) (not (all j)) u))) (and_left (bit usable j) (not (all j)) u)
        | inr g ↦ both ((S j && not (all j)) || G j) (bit usable j) (follows₂ (λ a g. g) (λ a g. a || g) tt (S j && not (all j)) (G j) g) (stuck.0.at j l g)
      ]

      outside : (j : ℕ) → j < m → T ((((S ∖ all) ∪ G) ∩ bit usable) j) → T (((S ∩ bit usable') ∪ G) j)
      outside j l t = elim (or_cases (S j && not (all j)) (G j) (and_left ((S j && not (all j)) || G j) (bit usable j) t)) [
        | inl a ↦
            let u = subst⁻¹ T (rest j l) (both (bit usable j) (not (all j)) (and_right ((S j && not (all j)) || G j) (bit usable j) t) (and_right (S j) (not (all j)) a)) in
            follows₂ (λ a g. a) (λ a g. a || g) tt (S j && bit usable' j) (G j) (both (S j) (bit usable' j) (and_left (S j) (not (all j)) a) u)
        | inr g ↦ follows₂ (λ a g. g) (λ a g. a || g) tt (S j && bit usable' j) (G j) g
      ]
