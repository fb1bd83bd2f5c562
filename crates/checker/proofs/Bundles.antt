-- The words of a division or a cut stand for its bundles: they are worth the same and have the same size.
use Prim.Native.Nat.{ℕ, ◌≤◌, ◌<◌}
use mathlib.Core.Path.{◌≡◌, refl, sym, ap, ◌∙◌, subst, fun_ext}
use mathlib.Core.Bool.{true, false, false≢true}
use mathlib.Core.List.{List}
use native.Mathlib.Omega.{arith}
use lib.Dec.{T, eqb, ltb, lt→ltb}
use lib.ListN.{length, get_or, take}
use lib.Seq.{get_or-take}
use Rattle.matroid.specs.Taut.{both, and_right}
use Rattle.matroid.specs.Decide.{is_yes}
use Rattle.matroid.specs.Set.{Set, size}
use Rattle.matroid.specs.Matroid.{Matroid, worth}
use Rattle.matroid.specs.Division.{bundle}
use Rattle.matroid.proofs.Sets.{size_le}
use Rattle.matroid.proofs.Rank.{worth_same, worth_indep, indep_worth, worth_le_size}
use Rattle.sets.specs.Bits.{bit}
use Rattle.sets.specs.Bundles.{Bundles}
use Rattle.std.proofs.lemmas.List.{get_or_default}
use Rattle.kinds.specs.declared.Valuation.{Valuation}
use Rattle.kinds.specs.Valuations.{matroid_of, matroids, blank_valuation}
use Rattle.plan.specs.declared.Reading.{Reading}
use Rattle.plan.specs.Teams.{valuations_of, team_matroid}
use Rattle.plan.proofs.Valuing.{matroids_of}
use Rattle.sets.proofs.Below.{under_size}
use Rattle.checker.specs.Rules.{independent}

-- how many are in a word
unfoldable pub counted : List ℕ → ℕ → ℕ
counted words t = size 64 (bit (get_or words t 0))

pub counted_le : (words : List ℕ) (t : ℕ) → counted words t ≤ 64
unfolding counted
counted_le words t = size_le 64 (bit (get_or words t 0))

module _ (m : ℕ) (D : ℕ → ℕ) (words : List ℕ) (w : Bundles m D words) (t : ℕ) (l : t < 12) where
  pub worth_word : (M : Matroid m) → worth M (bit (get_or words t 0)) ≡ worth M (bundle D t)
  worth_word M = worth_same M {S = bit (get_or words t 0)} {S' = bundle D t}
      (record { at = λ k b h. and_right (ltb k m) (eqb (D k) t) (subst T (w.at t l k) h) })
      (record { at = λ k b h. subst T (sym (w.at t l k)) (both (ltb k m) (eqb (D k) t) (lt→ltb k m b) h) })

  pub size_word : m ≤ 64 → counted words t ≡ size m (bundle D t)
  unfolding counted
  size_word small = ap (size 64) (fun_ext (λ j. w.at t l j)) ∙ under_size 64 m (bundle D t) small

-- worth is at most m
pub worth_small : {m : ℕ} (M : Matroid m) (S : Set) → worth M S ≤ m
worth_small {m} M S = let a = worth_le_size M S in let b = size_le m S in omega arith

-- a set is independent where it is worth its size
module _ {m : ℕ} (M : Matroid m) (A : Set) where
  pub independent_yes : worth M A ≡ size m A → independent M A ≡ true
  independent_yes e = go (M.decide A)
    where
      go : (d : Dec (M.Indep A)) → is_yes d ≡ true
      go (yes i) = refl
      go (no n) = absurd (n (indep_worth M A e))

  pub independent_no : (worth M A ≡ size m A → ⊥) → independent M A ≡ false
  independent_no d = go (M.decide A)
    where
      go : (d : Dec (M.Indep A)) → is_yes d ≡ false
      go (yes i) = absurd (d (worth_indep M A i))
      go (no n) = refl

  pub independent_worth : independent M A ≡ true → worth M A ≡ size m A
  independent_worth = go (M.decide A)
    where
      go : (d : Dec (M.Indep A)) → is_yes d ≡ true → worth M A ≡ size m A
      go (yes i) e = worth_indep M A i
      go (no n) e = absurd (false≢true e)

-- an entry of twelve valuations, as the code reads it, has the matroid of that team
pub agent_at : (m : ℕ) (row : List Valuation) (t : ℕ) (d : Valuation) → length row ≡ 12 → t < 12 → ◌≡◌ {A = Matroid m} (matroid_of m (get_or row t d)) (matroids m row t)
agent_at m row t d long l = ap (matroid_of m) (get_or_default row t d blank_valuation (omega arith))

-- and so has an entry of the first n of them
pub agent_taken : (m n : ℕ) (row : List Valuation) (t : ℕ) (d : Valuation) → length row ≡ 12 → n ≤ 12 → t < n → ◌≡◌ {A = Matroid m} (matroid_of m (get_or (take n row) t d)) (matroids m row t)
agent_taken m n row t d long few l = ap (matroid_of m) (get_or-take n row t d l) ∙ agent_at m row t d long (omega arith)

-- the matroids of a plan's valuations are those of its teams
pub agents_are : (r : Reading) (row : List Valuation) → r.n ≤ 12 → row ≡ valuations_of r → ◌≡◌ {A = ℕ → Matroid r.m} (matroids r.m row) (team_matroid r)
agents_are r row few e = ap (matroids r.m) e ∙ fun_ext (matroids_of r few)
