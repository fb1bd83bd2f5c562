-- Tests of both, and what is known where one passes.
use Prim.Native.Nat.{ℕ, ◌<◌}
use mathlib.Core.Path.{◌≡◌, refl}
use mathlib.Core.Bool.{Bool, true, false, ◌&&◌}
use native.Mathlib.Omega.{arith}
use borrow.Author.Tests.{ltb-true}
use lib.Dec.{ltb}
use Rattle.holding.specs.declared.Holding.{Holding}
use Rattle.holding.specs.Give.{is_instrument, is_team}

-- where both pass, the first passes
pub and_left : (a b : Bool) → (a && b) ≡ true → a ≡ true
and_left true b e = refl
and_left false b e = e

-- and the second
pub and_right : (a b : Bool) → (a && b) ≡ true → b ≡ true
and_right true b e = e
and_right false b e = let z : ◌≡◌ {A = ℕ} 0 1 = cc in absurd (omega arith)

-- an instrument has an entry in the list of owners
pub instrument_below : (h : Holding) (g : ℕ) → is_instrument h g ≡ true → g < 64
unfolding is_instrument
instrument_below h g e = ltb-true g 64 (and_right (ltb g h.m) (ltb g 64) e)

-- it is below m
pub instrument_m : (h : Holding) (g : ℕ) → is_instrument h g ≡ true → g < h.m
unfolding is_instrument
instrument_m h g e = ltb-true g h.m (and_left (ltb g h.m) (ltb g 64) e)

-- a team's number is a byte
pub team_below : (h : Holding) (t : ℕ) → is_team h t ≡ true → t < 12
unfolding is_team
team_below h t e = ltb-true t 12 (and_right (ltb t h.n) (ltb t 12) e)

-- it is below n
pub team_n : (h : Holding) (t : ℕ) → is_team h t ≡ true → t < h.n
unfolding is_team
team_n h t e = ltb-true t h.n (and_left (ltb t h.n) (ltb t 12) e)
