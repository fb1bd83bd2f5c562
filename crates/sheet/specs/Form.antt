-- The form of a sheet: one test for each byte (document 01, "The sheet", and "Check", refusal 12; document 02, note 2).
use Rattle.std.specs.Prelude.{ℕ, ◌+◌, ◌-◌, ◌*◌, ◌^◌, Bool, true, ◌||◌, cond, List, [], ◌∷◌, ◌++◌, eqb, ltb, length, get_or, ⊤, Ok, Err, Result}
use Rattle.matroid.specs.Set.{Set, size}
use Rattle.matroid.specs.Cuts.{each}

-- which bytes may stand at a place
abbrev pub Test : Type 0
Test = ℕ → Bool

-- one byte alone
abbrev pub is : ℕ → Test
is byte b = eqb b byte

-- a number below n
abbrev pub below : ℕ → Test
below n b = ltb b n

-- a team below n, or FF for the pool
abbrev pub holder : ℕ → Test
holder n b = ltb b n || eqb b 255

-- "total and share may be any byte"
abbrev pub any : Test
any b = true

-- byte k of a set: "a set byte with a bit at or above m" is not allowed
abbrev pub set_byte : (m k : ℕ) → Test
set_byte m k b = ltb b (2 ^ (m - 8 * k))

-- "A set is 8 bytes"
unfoldable pub set : (m : ℕ) → List Test
set m = each 8 (λ k. set_byte m k ∷ [])

-- a command's own byte and its first number
abbrev pub command : (byte number : ℕ) → List Test
command byte number = is byte ∷ is number ∷ []

-- 11 HEAD: m, n, total
abbrev pub head : (m n : ℕ) → List Test
head m n = command 17 m ++ is n ∷ any ∷ []

-- 12 GIVE: instrument, team (FF: pool)
abbrev pub give : (n g : ℕ) → List Test
give n g = command 18 g ++ holder n ∷ []

-- 13 BOUND: set
abbrev pub bound : (m : ℕ) → List Test
bound m = is 19 ∷ set m

-- 14 SHARE: team, share, set
abbrev pub share : (m t : ℕ) → List Test
share m t = command 20 t ++ any ∷ set m

-- 15 PART: instrument, part below p
abbrev pub part : (p g : ℕ) → List Test
part p g = command 21 g ++ below p ∷ []

-- 16 END
abbrev pub end : List Test
end = is 22 ∷ []

-- a present team's SHARE and its m PARTs by instrument: "A present team's PART bytes run from 0 to p−1"
abbrev pub present_page : (m p t : ℕ) → List Test
present_page m p t = share m t ++ each m (part p)

-- the same of a team that is away: "An away team's share, set and PART bytes are all 0"
abbrev pub away_share : (t : ℕ) → List Test
away_share t = command 20 t ++ each 9 (λ k. is 0 ∷ [])

abbrev pub away_part : (g : ℕ) → List Test
away_part g = command 21 g ++ is 0 ∷ []

abbrev pub away_page : (m t : ℕ) → List Test
away_page m t = away_share t ++ each m away_part

-- the page of a team: p teams are present, those in `present`
abbrev pub page : (m p : ℕ) → (present : Set) → (t : ℕ) → List Test
page m p present t = cond (present t) (present_page m p t) (away_page m t)

-- "HEAD; m GIVEs by instrument; BOUND; then for each team by number its SHARE and m PARTs by instrument; END"
unfoldable pub form : (m n : ℕ) → (present : Set) → List Test
form m n present = head m n ++ (each m (give n) ++ (bound m ++ (each n (page m (size n present) present) ++ end)))

-- The offset of the first byte, from an offset on, that its test does not allow. Where there is none it is the offset after the last test's.
unfoldable pub first_fault : List Test → List ℕ → ℕ → ℕ
first_fault [] sheet at = at
first_fault (test ∷ tests) sheet at = cond (test (get_or sheet at 0)) (first_fault tests sheet (at + 1)) at

-- what the tests come to from an offset on: it fails with the offset of the first byte that is not allowed
abbrev pub tested : List Test → List ℕ → ℕ → Result ⊤ ℕ
tested tests sheet at = cond (ltb (first_fault tests sheet at) (at + length tests)) (Err (first_fault tests sheet at)) (Ok tt)
