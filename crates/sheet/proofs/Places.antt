-- Where the commands of a sheet stand: each after the one before it, and END last.
use Prim.Native.Nat.{ℕ, ◌+◌, ◌*◌}
use mathlib.Core.Path.{◌≡◌, refl}
use native.Mathlib.Omega.{arith}
use Rattle.sheet.specs.Layout.{length_of, share_start, page_length}

-- END stands where a team more would start, and is the last byte
pub end_last : (m n : ℕ) → length_of m n ≡ share_start m n + 1
unfolding length_of share_start
end_last m n = omega arith

-- the first team's SHARE follows BOUND, and each other team's the bytes of the team before it
pub share_first : (m : ℕ) → share_start m 0 ≡ 4 + 3 * m + 9
unfolding share_start
share_first m = omega arith

pub share_next : (m t : ℕ) → share_start m (t + 1) ≡ share_start m t + page_length m
unfolding share_start
share_next m t = omega arith

-- "L is 25 for m = 0, n = 1; 54 for plan A; 2,642 for m = 64, n = 12."
pub length_least : length_of 0 1 ≡ 25
unfolding length_of
length_least = refl

pub length_plan_A : length_of 2 2 ≡ 54
unfolding length_of
length_plan_A = refl

pub length_most : length_of 64 12 ≡ 2642
unfolding length_of
length_most = refl
