-- A matching as tables: the instrument on each mount, and the mounts that are free. The words of the functions' contracts.
use Rattle.std.specs.Prelude.{ℕ, ◌+◌, ◌≤◌, ◌<◌, ◌≡◌, Bool, not, ◌⊎◌, List, T, length, get_or, set, Option, MatchOption}
use Rattle.matroid.specs.Set.{Set, with, size}
use Rattle.sets.specs.Bits.{bit}
use Rattle.matroid.specs.Matroid.{Matroid}
use Rattle.mounts.specs.declared.Tables.{Tables}
use Rattle.mounts.specs.declared.matching.Matching.{Matching}
use Rattle.mounts.specs.declared.matching.Freed.{Freed}
use Rattle.mounts.specs.Mounts.{Mounted, fits_of}
use Rattle.mounts.specs.Transversal.{mounts_of}

-- the mounts that each instrument fits, by a table of words
abbrev pub fits_in : List ℕ → ℕ → Set
fits_in fits g = bit (get_or fits g 0)

-- the matroid of a team's tables
abbrev pub mounts_in : (m : ℕ) → Tables → Matroid m
mounts_in m tables = mounts_of m tables.named tables.first tables.second tables.third tables.fourth

-- b says whether two sets have a member in common
pub record Meets (b : Bool) (A B : Set) : Type 0 where
  pub some : T b → (c : ℕ) × (T (B c) × T (A c))
  pub none : T (not b) → (c : ℕ) → T (B c) → T (not (A c))

-- the words of the members of a set are those of a team's tables
pub record Worded (named first second third fourth : List ℕ) (of : ℕ) (words : List ℕ) : Type 0 where
  pub at : (g : ℕ) → g < 64 → T (bit of g) → (k : ℕ) → fits_in words g k ≡ fits_of named first second third fourth g k

-- The members of A are on mounts that they fit, each on one; a mount that is not free has one of them. Mounts are 0 to 31.
pub record Placed (fits : ℕ → Set) (A : Set) (on : List ℕ) (free : Set) : Type 0 where
  pub long : length on ≡ 32
  pub low : (c : ℕ) → T (free c) → c < 32
  pub user : (c : ℕ) → c < 32 → T (not (free c)) → (get_or on c 0 < 64) × T (A (get_or on c 0)) × T (fits (get_or on c 0) c)
  pub mounted : (g : ℕ) → g < 64 → T (A g) → (c : ℕ) × (c < 32) × (T (not (free c)) × (get_or on c 0 ≡ g))
  pub single : (c d : ℕ) → c < 32 → d < 32 → T (not (free c)) → T (not (free d)) → get_or on c 0 ≡ get_or on d 0 → c ≡ d

-- the instruments that a matching takes are on mounts
abbrev pub Matched : (ℕ → Set) → Matching → Type 0
Matched fits held = Placed fits (bit held.taken) held.on (bit held.free)

-- Each free mount is in the set. From any other mount of it, the instrument there fits the mount `next`, which is in the set and was found before.
pub record Leads (fits : ℕ → Set) (held : Matching) (s : Freed) : Type 0 where
  pub long : (length s.next ≡ 32) × (length s.depth ≡ 32)
  pub low : (c : ℕ) → T (bit s.set c) → c < 32
  pub start : (c : ℕ) → T (bit held.free c) → T (bit s.set c)
  pub deep : (c : ℕ) → T (bit s.set c) → get_or s.depth c 0 ≤ size 64 (bit s.set)
  pub step : (c : ℕ) → T (bit s.set c) → T (not (bit held.free c))
      → T (bit s.set (get_or s.next c 0)) × T (fits (get_or held.on c 0) (get_or s.next c 0)) × (get_or s.depth (get_or s.next c 0) 0 < get_or s.depth c 0)

-- the instrument on a mount outside the set fits none of the set
abbrev pub Closed : (ℕ → Set) → Matching → Freed → Type 0
Closed fits held s = (c d : ℕ) → c < 32 → T (not (bit s.set c)) → T (bit s.set d) → T (not (fits (get_or held.on c 0) d))

-- r has the mount c besides, found last: its instrument can move to d
pub record Found (s r : Freed) (c d : ℕ) : Type 0 where
  pub has : (j : ℕ) → bit r.set j ≡ with (bit s.set) c j
  pub onward : r.next ≡ set s.next c d
  pub deeper : r.depth ≡ set s.depth c (size 64 (bit s.set) + 1)

-- a pass has made the set larger, or there is no other mount that can be freed
abbrev pub Swept : (fits : ℕ → Set) (held : Matching) (s : Freed) (r : Option Freed) → Type 0
Swept fits held s r = MatchOption r (Closed fits held s) (λ f. Leads fits held f × (size 64 (bit s.set) < size 64 (bit f.set)))

-- g has joined the matching, or the matching is as it was and g cannot be mounted beside the others
pub record Joined (fits : ℕ → Set) (held : Matching) (g : ℕ) (r : Matching) : Type 0 where
  pub matched : Matched fits r
  pub either : ((j : ℕ) → bit r.taken j ≡ with (bit held.taken) g j)
      ⊎ ((r ≡ held) × (Mounted fits 64 (with (bit held.taken) g) → ⊥))

-- a matching of members of A below m, beside which no other of them can be mounted
pub record Greatest (fits : ℕ → Set) (m : ℕ) (A : Set) (r : Matching) : Type 0 where
  pub matched : Matched fits r
  pub within : (g : ℕ) → T (bit r.taken g) → (g < m) × T (A g)
  pub stuck : (g : ℕ) → g < m → T (A g) → T (not (bit r.taken g)) → Mounted fits m (with (bit r.taken) g) → ⊥
