-- MOUNTS (document 02, note 1): "A set is independent if every instrument in it can have a mount of its own that it fits". The channels are
-- every kind's and stand above the kinds.
use Rattle.std.specs.Prelude.{ℕ, ◌+◌, ◌*◌, ◌<◌, ◌≡◌, ◌&&◌, not, List, T, eqb, get_or}
use Rattle.matroid.specs.Set.{Set}
use Rattle.sets.specs.Bits.{bit}

-- how many mounts there are
unfoldable pub mounts : ℕ
mounts = 32

-- every member of A below m has a mount that it fits, and no two have the same; fits g is the set of the mounts that g fits
pub record Mounted (fits : ℕ → Set) (m : ℕ) (A : Set) : Type 0 where
  pub mount : ℕ → ℕ
  pub mount_lt : (g : ℕ) → g < m → T (A g) → mount g < mounts
  pub fit : (g : ℕ) → g < m → T (A g) → T (fits g (mount g))
  pub differ : (g h : ℕ) → g < m → h < m → T (A g) → T (A h) → mount g ≡ mount h → g ≡ h

-- "mounts, 32 bits": four bytes, the low one first, as one word
abbrev pub word_of : (a b c d : ℕ) → ℕ
word_of a b c d = a + 256 * b + 65536 * c + 16777216 * d

-- "bit k for mount k"; "No FIT, or one with no bits, makes an instrument worthless there": an instrument that no command names fits no mount
abbrev pub fits_of : (named first second third fourth : List ℕ) → ℕ → Set
fits_of named first second third fourth g k =
    not (eqb (get_or named g 255) 255) && bit (word_of (get_or first g 0) (get_or second g 0) (get_or third g 0) (get_or fourth g 0)) k
