-- Matroids on the numbers below m, and the worth of a set: its matroid rank, the size of its largest independent part.
use Rattle.std.specs.Prelude.{ℕ, zero, suc, ◌<◌, not, cond, List, [], ◌∷◌, ◌++◌, map, T}
use Rattle.std.proofs.Math.Logic.{ite}
use Rattle.matroid.specs.Set.{Set, none, with, size, Within}
use Rattle.matroid.specs.Search.{largest}

-- a member of B that A lacks and stays independent with
pub record Gain (m : ℕ) (Indep : Set → Type 0) (A B : Set) : Type 0 where
  pub at : ℕ
  pub below : at < m
  pub there : T (B at)
  pub fresh : T (not (A at))
  pub indep : Indep (with A at)

-- Which sets are independent is decided. The empty set is, a part of an independent set is, and a smaller one gains a member from a larger one.
pub record Matroid (m : ℕ) : Type 1 where
  pub Indep : Set → Type 0
  pub decide : (A : Set) → Dec (Indep A)
  pub empty : Indep none
  pub part : {A B : Set} → Within m A B → Indep B → Indep A
  pub gain : {A B : Set} → Indep A → Indep B → size m A < size m B → Gain m Indep A B

-- the parts of S below m: those without the number m - 1 and, where S has it, those with it
abbrev pub parts : ℕ → Set → List Set
parts zero S = none ∷ []
parts (suc m) S = let rest = parts m S in cond (S m) (rest ++ map (λ A. with A m) rest) rest

-- the size of an independent set, and 0 for any other
abbrev pub value : {m : ℕ} → Matroid m → Set → ℕ
value {m} M A = ite (M.decide A) (size m A) 0

-- the matroid rank of S: the size of its largest independent part
unfoldable pub worth : {m : ℕ} → Matroid m → Set → ℕ
worth {m} M S = largest (value M) (parts m S)
