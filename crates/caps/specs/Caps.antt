-- CAPS (document 01, "Worth and share"): "each instrument in it was PUT, no class has more than its cap". The channels are every kind's and
-- stand above the kinds.
use Rattle.std.specs.Prelude.{ℕ, ◌≤◌, ◌<◌}
use Rattle.matroid.specs.Set.{Set, ◌∩◌, size, Within}
use Rattle.matroid.specs.Division.{bundle, held}

-- how many classes there are
unfoldable pub classes : ℕ
classes = 16

-- the instruments that are put in a class
abbrev pub put : (ℕ → ℕ) → Set
put class = held classes class

-- how many members of A are of class c
abbrev pub count : ℕ → (ℕ → ℕ) → Set → ℕ → ℕ
count m class A c = size m (bundle class c ∩ A)

-- every member is put in a class, and no class has more members than its cap
pub record Capped (m : ℕ) (class cap : ℕ → ℕ) (A : Set) : Type 0 where
  pub placed : Within m A (put class)
  pub capped : (c : ℕ) → c < classes → count m class A c ≤ cap c
