-- Breadth-first search over the exchange graph: its labels, and what they mean.
use Rattle.std.specs.Prelude.{ℕ, ◌+◌, ◌<◌, ◌≡◌, T}
use Rattle.matroid.specs.Set.{Set}
use Rattle.matroid.specs.Matroid.{Matroid}
use Rattle.matroid.specs.Exchange.{CanGain, Edge}
use Rattle.matroid.specs.Levels.{Levels}

-- The labels of a search: the level of a number, the number it was reached from, and the team that gets it.
pub record Labels : Type 0 where
  pub level : ℕ → ℕ
  pub parent : ℕ → ℕ
  pub to : ℕ → ℕ

module _ {m : ℕ} (n : ℕ) (M : ℕ → Matroid m) (D : ℕ → ℕ) (src : Set) where
  -- why g was reached: a source team can gain it, or it can take the place of its parent, which was reached one level before
  pub data Reason (S : Set) (L : Labels) (g : ℕ) : Type 0 where
    root : L.level g ≡ 0 → T (src (L.to g)) → L.to g < n → CanGain M D (L.to g) g → Reason S L g
    step : T (S (L.parent g)) → L.level g ≡ L.level (L.parent g) + 1 → Edge n M D (L.parent g) g → L.to g ≡ D (L.parent g) → Reason S L g

  -- what is known of the labels once the search has stopped
  pub record Traced (S : Set) (L : Labels) : Type 0 where
    pub below : (g : ℕ) → T (S g) → g < m
    pub reason : (g : ℕ) → T (S g) → Reason S L g
    pub levels : (t : ℕ) → t < n → T (src t) → Levels n M D t S L.level

  -- what the source teams below k can gain, each with a team that can gain it
  pub record Rooted (k : ℕ) (S : Set) (to : ℕ → ℕ) : Type 0 where
    pub below : (g : ℕ) → T (S g) → g < m
    pub gained : (g : ℕ) → T (S g) → T (src (to g)) × (to g < n) × CanGain M D (to g) g
    pub all : (t g : ℕ) → t < k → T (src t) → g < m → CanGain M D t g → T (S g)
