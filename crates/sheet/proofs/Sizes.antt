-- A sheet and the offsets in it are small.
use Prim.Native.Nat.{ℕ, suc, ◌+◌, ◌*◌, ◌≤◌, ◌<◌}
use mathlib.Core.Path.{◌≡◌, refl}
use native.Mathlib.Omega.{arith}
use native.Mathlib.Nat.{mul-le-mul, mul-le-mul_right}
use Rattle.sheet.specs.Layout.{length_of, share_start}
use Rattle.sheet.proofs.Places.{end_last}

-- a product of numbers that are at most 64 and 12
pub small_product : (m n : ℕ) → m ≤ 64 → n ≤ 12 → m * n ≤ 768
small_product m n l k = mul-le-mul l k

-- the longest sheet has 2,642 bytes
pub length_le : (m n : ℕ) → m ≤ 64 → n ≤ 12 → length_of m n ≤ 2642
unfolding length_of
length_le m n l k = let p = small_product m n l k in omega arith

pub start_le : (m t : ℕ) → m ≤ 64 → t ≤ 12 → share_start m t ≤ 2641
start_le m t l k = let p = length_le m t l k in let e = end_last m t in omega arith

-- the bytes of each team lie before END
pub page_inside : (m n t at : ℕ) → t < n → at ≡ 4 + 3 * m + 9 + t * (11 + 3 * m) → at + (11 + 3 * m) < length_of m n
unfolding length_of
page_inside m n t at l e =
    let p : suc t * (11 + 3 * m) ≤ n * (11 + 3 * m) = mul-le-mul_right (11 + 3 * m) l in
    omega arith

-- and END is the byte after them
pub end_inside : (m n : ℕ) → 4 + 3 * m + 9 + n * (11 + 3 * m) < length_of m n
unfolding length_of
end_inside m n = omega arith

pub share_inside : (m n t : ℕ) → t < n → share_start m t + (11 + 3 * m) < length_of m n
unfolding share_start
share_inside m n t l = page_inside m n t (share_start m t) l refl
