-- Give and return (document 01, "Worth and share"), which "leave both equal to a fresh count" (document 02, note 7).
-- Instruments are the numbers below m and 64, teams those below n and 12; an instrument whose owner is no team is in the pool (255 is what
-- is written there).
use Rattle.std.specs.Prelude.{ℕ, Bool, ◌&&◌, not, cond, List, ltb, get_or, set, replicate}
use Rattle.holding.specs.declared.Holding.{Holding}
use Rattle.holding.specs.Count.{counted}

-- "A division gives each instrument to one team or leaves it in the pool": the owner of g
unfoldable pub holder_of : Holding → ℕ → ℕ
holder_of h g = get_or h.owner g 255

-- g is an instrument
unfoldable pub is_instrument : Holding → ℕ → Bool
is_instrument h g = ltb g h.m && ltb g 64

-- t is a team
unfoldable pub is_team : Holding → ℕ → Bool
is_team h t = ltb t h.n && ltb t 12

-- no team holds g
unfoldable pub in_pool : Holding → ℕ → Bool
in_pool h g = not (is_team h (holder_of h g))

-- the same holding with other owners
abbrev pub with_owner : Holding → List ℕ → Holding
with_owner h owner = counted h.m h.n owner h.shares

-- "The holding with every instrument in the pool is made with both right."
abbrev pub all_in_pool : (m n : ℕ) (shares : List ℕ) → Holding
all_in_pool m n shares = counted m n (replicate 64 255) shares

-- the same holding measured against other shares
abbrev pub measured_by : Holding → (shares : List ℕ) → Holding
measured_by h shares = counted h.m h.n h.owner shares

-- "Give (instrument, team) puts a pool instrument with a team"; "Where an instrument, a team or the instrument's present place does not
-- fit this, the holding comes back unchanged."
unfoldable pub gave : Holding → (g t : ℕ) → Holding
gave h g t = cond (is_instrument h g && (is_team h t && in_pool h g)) (with_owner h (set h.owner g t)) h

-- "return (instrument) puts a held one in the pool"
unfoldable pub returned : Holding → (g : ℕ) → Holding
returned h g = cond (is_instrument h g && not (in_pool h g)) (with_owner h (set h.owner g 255)) h
