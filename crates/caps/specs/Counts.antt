-- The members of a set counted by class, as a table of 16 numbers.
use Rattle.std.specs.Prelude.{ℕ, ◌<◌, min, ◌≡◌, ◌↔◌, List, T, length, get_or}
use Rattle.matroid.specs.Set.{Set}
use Rattle.matroid.specs.Sum.{sum}
use Rattle.sets.specs.Bits.{bit}
use Rattle.caps.specs.Caps.{count}
use Rattle.caps.specs.Partition.{class_in}

-- entry c is how many members of A below m are of class c
pub record Counts (class : List ℕ) (m : ℕ) (A : Set) (counts : List ℕ) : Type 0 where
  pub long : length counts ≡ 16
  pub at : (c : ℕ) → c < 16 → get_or counts c 0 ≡ count m (class_in class) A c

-- the entries of the first n classes, up to the caps, added up
unfoldable pub capped_sum : (counts cap : List ℕ) → ℕ → ℕ
capped_sum counts cap n = sum n (λ c. min (get_or cap c 0) (get_or counts c 0))

-- j is put in a class whose entry is below the cap
abbrev pub HasRoom : (class cap counts : List ℕ) → ℕ → Type 0
HasRoom class cap counts j = (class_in class j < 16) × (get_or counts (class_in class j) 0 < get_or cap (class_in class j) 0)

-- r holds the numbers below g that have room
pub record Room (class cap counts : List ℕ) (g r : ℕ) : Type 0 where
  pub at : (j : ℕ) → T (bit r j) ↔ ((j < g) × HasRoom class cap counts j)
