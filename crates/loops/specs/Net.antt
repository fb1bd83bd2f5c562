-- LOOPS (document 01, "Worth and share"): "each has a SPAN, no closed loop exists". "A closed loop is k different joints, k at least 2, with k
-- different instruments joining each to the next and the last to the first." The channels are every kind's and stand above the kinds.
use Rattle.std.specs.Prelude.{ℕ, suc, ◌≤◌, ◌<◌, ◌≡◌, ◌&&◌, not, T, eqb, ltb}
use Rattle.matroid.specs.Set.{Set, Within}
use Rattle.team.specs.Team.{joints}

-- the two ends that each instrument names
pub record Net : Type 0 where
  pub end_a : ℕ → ℕ
  pub end_b : ℕ → ℕ

abbrev pub net : (end_a end_b : ℕ → ℕ) → Net
net end_a end_b = record { end_a = end_a; end_b = end_b }

-- the instruments with a span: their ends are two different joints
unfoldable pub spans : Net → Set
unfolding joints
spans N g = ltb (N.end_a g) joints && (ltb (N.end_b g) joints && not (eqb (N.end_a g) (N.end_b g)))

-- f takes k different values below k
abbrev pub Different : ℕ → (ℕ → ℕ) → Type 0
Different k f = (i j : ℕ) → i < k → j < k → f i ≡ f j → i ≡ j

module _ (N : Net) where
  open N use {end_a, end_b}

  -- an instrument with a span joins its two joints, either way round
  pub data Joins (g : ℕ) : ℕ → ℕ → Type 0 where
    forth : T (spans N g) → Joins g (end_a g) (end_b g)
    back : T (spans N g) → Joins g (end_b g) (end_a g)

  -- g is an instrument of A below n that joins a to b
  pub record Link (n : ℕ) (A : Set) (g a b : ℕ) : Type 0 where
    pub below : g < n
    pub member : T (A g)
    pub joins : Joins g a b

  -- k different joints, k at least 2, with k different instruments of A joining each to the next and the last to the first
  pub record ClosedLoop (n : ℕ) (A : Set) : Type 0 where
    pub k : ℕ
    pub long : 2 ≤ k
    pub joint : ℕ → ℕ
    pub gauge : ℕ → ℕ
    pub joints_differ : Different k joint
    pub gauges_differ : Different k gauge
    pub links : (i : ℕ) → i < k → Link n A (gauge i) (joint i) (joint (suc i))
    -- what follows the last joint is the first
    pub closed : joint k ≡ joint 0

  -- instruments of A lead from one joint to another
  pub data Walk (n : ℕ) (A : Set) : ℕ → ℕ → Type 0 where
    stay : {a : ℕ} → Walk n A a a
    step : {a b c : ℕ} (g : ℕ) → Link n A g a b → Walk n A b c → Walk n A a c

  -- every member has a span, and no closed loop is made of members
  pub record LoopFree (m : ℕ) (A : Set) : Type 0 where
    pub spanned : Within m A (spans N)
    pub no_loop : ClosedLoop m A → ⊥
