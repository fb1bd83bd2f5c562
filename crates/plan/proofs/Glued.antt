-- Note 6 of an accepted plan: which sets are independent for a team, what a set is worth to it, and that a glued instrument is in no bundle.
use Prim.Native.Nat.{ℕ, ◌+◌, ◌<◌}
use mathlib.Core.Path.{◌≡◌, refl, sym, ap, ◌∙◌, subst⁻¹}
use mathlib.Core.Bool.{Bool, true, false, ◌&&◌, ◌||◌, not}
use mathlib.Core.Logic.{◌↔◌}
use mathlib.Core.List.{List}
use native.Mathlib.Omega.{arith}
use lib.Dec.{T, ltb, T_not}
use lib.ListN.{get_or}
use borrow.Author.Tests.{lt-ltb, ne_eqb, eqb-true}
use Rattle.matroid.specs.Taut.{T→true}
use Rattle.matroid.specs.Set.{Set, ◌∪◌, ◌∖◌, size, Within}
use Rattle.matroid.specs.SetLaws.{within₃, union_left, union_right, union_least, within_trans, size_same}
use Rattle.matroid.specs.Matroid.{worth}
use Rattle.matroid.proofs.Rank.{worth_same}
use Rattle.sets.specs.Bits.{bit, word}
use Rattle.sets.proofs.Gathering.{bit_word}
use Rattle.team.specs.Team.{blank_team}
use Rattle.kinds.proofs.Above.{indep_for, gained}
use Rattle.plan.specs.declared.Reading.{Reading}
use Rattle.plan.specs.Read.{read_plan}
use Rattle.plan.specs.Teams.{usable, glued_to, glued, team_before, all_stand, team_matroid, IndependentFor}
use Rattle.plan.proofs.Steps.{finished_by}
use Rattle.plan.proofs.Bounds.{all_readings}
use Rattle.plan.proofs.Gluing.{Stands, yes_indep, in_word, of_word, each_stands}
use Rattle.plan.proofs.Bounds.{bounded}

-- "18, a team whose glued gauges were not independent before this note": in an accepted plan those of every team were
pub accepted_stands : (file : List ℕ) → (read_plan file).refusal ≡ 0 → (t : ℕ) → t < (read_plan file).n → Stands (read_plan file) t
accepted_stands file z = each_stands (read_plan file) (all_readings file (λ r. r.refusal ≡ 0 → all_stand r ≡ true) (λ at s rows _ _ d e. absurd (d e)) (λ at s rows _ _ _ _. finished_by (λ r. r.refusal ≡ 0 → all_stand r ≡ true) file at s rows (λ e. absurd (omega arith)) (λ e. absurd (omega arith)) (λ stand _ _. stand)) (λ e. absurd (omega arith)) z)

-- a team whose glued instruments stand
module _ (r : Reading) (few : r.n < 13) (t : ℕ) (l : t < r.n) (stands : Stands r t) where
  abbrev own : ℕ
  own = word r.m (glued_to r t)

  -- its usable instruments are those of before without the glued ones
  rest : (j : ℕ) → j < r.m → bit (word r.m (usable r t ∖ glued r)) j ≡ (bit (word r.m (usable r t)) ∖ glued r) j
  rest j b = bit_word r.m (usable r t ∖ glued r) j ∙ go (ltb j r.m) (usable r t j) (glued r j) ∙ ap (λ (u : Bool). u && not (glued r j)) (sym (bit_word r.m (usable r t) j))
    where
      go : (u a g : Bool) → (u && (a && not g)) ≡ ((u && a) && not g)
      go true a g = refl
      go false a g = refl

  -- those glued to it are glued to anyone
  glued_own : Within r.m (glued_to r t) (glued r)
  glued_own = record { at = λ j b g. go j (eqb-true (get_or r.glue j 255) (t + 1) (T→true (glued_to r t j) g)) }
    where
      go : (j : ℕ) → get_or r.glue j 255 ≡ t + 1 → T (glued r j)
      go j e = subst⁻¹ (λ (b : Bool). T (not b)) (ne_eqb (get_or r.glue j 255) 255 (omega arith)) tt

  own_stands : (team_before r t).Indep (bit own)
  own_stands = (team_before r t).part (of_word (team_before r t) (glued_to r t)) (yes_indep (team_before r t) (glued_to r t) stands)

  -- "A set is independent for a team if it holds no instrument glued to anyone and, together with the team's glued ones, was independent before this
  -- note."
  pub independent_by : (S : Set) → (team_matroid r t).Indep S ↔ IndependentFor r t S
  independent_by S =
      let M = team_before r t in
      let by = indep_for r.m (get_or r.teams t blank_team) (word r.m (usable r t)) (word r.m (usable r t ∖ glued r)) own (glued r) rest (within_trans (of_word M (glued_to r t)) glued_own) own_stands S in
      rw (lt-ltb t r.n l) (
        λ i. let (u, b) = by.0 i in record { unglued = u; before = M.part (union_least (union_left S (bit own)) (within_trans (in_word M (glued_to r t)) (union_right S (bit own)))) b },
        λ i. by.1 (i.unglued, M.part (union_least (union_left S (glued_to r t)) (within_trans (of_word M (glued_to r t)) (union_right S (glued_to r t)))) i.before),
      )

  -- "Worth therefore counts what is gained above the glued gauges."
  pub worth_gained : (S : Set) → worth (team_matroid r t) S + size r.m (glued_to r t) ≡ worth (team_before r t) ((S ∖ glued r) ∪ glued_to r t)
  worth_gained S =
      let M = team_before r t in
      let by = gained r.m (get_or r.teams t blank_team) (word r.m (usable r t)) (word r.m (usable r t ∖ glued r)) own (glued r) rest (within_trans (of_word M (glued_to r t)) glued_own) own_stands S in
      let few = size_same r.m (of_word M (glued_to r t)) (in_word M (glued_to r t)) in
      let free = S ∖ glued r in
      let same = worth_same M {S = free ∪ bit own} {S' = free ∪ glued_to r t}
      (union_least (union_left free (glued_to r t)) (within_trans (of_word M (glued_to r t)) (union_right free (glued_to r t))))
      (union_least (union_left free (bit own)) (within_trans (in_word M (glued_to r t)) (union_right free (bit own)))) in
      rw (lt-ltb t r.n l) (omega arith)

  -- bits of glued instruments count nothing
  pub glued_nothing : (S : Set) → worth (team_matroid r t) S ≡ worth (team_matroid r t) (S ∖ glued r)
  glued_nothing S =
      let M = team_before r t in
      let whole = worth_gained S in
      let free = worth_gained (S ∖ glued r) in
      let same = worth_same M {S = (S ∖ glued r) ∪ glued_to r t} {S' = ((S ∖ glued r) ∖ glued r) ∪ glued_to r t}
      (within₃ (λ s g o. (s && not g) || o) (λ s g o. ((s && not g) && not g) || o) tt S (glued r) (glued_to r t))
      (within₃ (λ s g o. ((s && not g) && not g) || o) (λ s g o. (s && not g) || o) tt S (glued r) (glued_to r t)) in
      omega arith

-- the same of every team of an accepted plan
module _ (file : List ℕ) (z : (read_plan file).refusal ≡ 0) (t : ℕ) (l : t < (read_plan file).n) where
  abbrev r : Reading
  r = read_plan file

  few : r.n < 13
  few = let f = ((bounded file).valid z).few in omega arith

  pub independent_for : (S : Set) → (team_matroid r t).Indep S ↔ IndependentFor r t S
  independent_for = independent_by r few t l (accepted_stands file z t l)

  pub worth_above_glued : (S : Set) → worth (team_matroid r t) S + size r.m (glued_to r t) ≡ worth (team_before r t) ((S ∖ glued r) ∪ glued_to r t)
  worth_above_glued = worth_gained r few t l (accepted_stands file z t l)

  pub glued_counts_nothing : (S : Set) → worth (team_matroid r t) S ≡ worth (team_matroid r t) (S ∖ glued r)
  glued_counts_nothing = glued_nothing r few t l (accepted_stands file z t l)

  -- "a team for one is 13": a bundle with a glued instrument is not independent
  pub glued_in_none : (S : Set) (i : ℕ) → i < r.m → T (glued r i) → T (S i) → (team_matroid r t).Indep S → ⊥
  glued_in_none S i b g s indep = T_not (glued r i) (((independent_for S).0 indep).unglued.at i b s) g
