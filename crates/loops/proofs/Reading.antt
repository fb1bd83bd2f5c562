-- What a table of labels gives: whether two joints are apart, and the next groups.
use Prim.Native.Nat.{ℕ}
use mathlib.Core.Path.{◌≡◌, refl, sym}
use mathlib.Core.Bool.{true, false, not}
use mathlib.Core.List.{List}
use lib.Dec.{eqb, ltb}
use lib.ListN.{length, get_or}
use Rattle.team.specs.Team.{joints}
use Rattle.loops.specs.Groups.{Groups, relabel, joined, apart}
use Rattle.loops.specs.Forests.{groups_of}

module _ (table : List ℕ) (a b i j : ℕ) (long : length table ≡ joints) (is-a : i ≡ a) (is_b : j ≡ b) where
  pub apart_first : false ≡ ltb i (length table) → false ≡ apart (groups_of table) a b
  unfolding apart
  apart_first f = rw (sym (rw (long, is-a) at f)) refl

  module _ (first : true ≡ ltb i (length table)) where
    pub apart_second : false ≡ ltb j (length table) → false ≡ apart (groups_of table) a b
    unfolding apart
    apart_second f = rw (sym (rw (long, is-a) at first), sym (rw (long, is_b) at f)) refl

    pub apart_both : (p q : ℕ) → true ≡ ltb j (length table) → p ≡ get_or table i 0 → q ≡ get_or table j 0 → not (eqb p q) ≡ apart (groups_of table) a b
    unfolding apart
    apart_both p q second ep eq = rw (sym (rw (long, is-a) at first), sym (rw (long, is_b) at second), ep, eq, is-a, is_b) refl

-- the labels at two places that are those of two joints give the next groups
pub joined_by : (G : Groups) (a b i j : ℕ) → i ≡ a → j ≡ b → (k : ℕ) → relabel (G i) (G j) (G k) ≡ joined G a b k
joined_by G a b i j is-a is_b k = rw (is-a, is_b) refl
