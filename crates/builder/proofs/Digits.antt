-- A set as eight bytes: the bytes give the set back, and none has a bit at or above m.
use Prim.Native.Nat.{ℕ, zero, suc, ◌+◌, ◌-◌, ◌*◌, ◌/◌, ◌%◌, ◌^◌, ◌≤◌, ◌<◌}
use mathlib.Core.Path.{◌≡◌, refl, sym, ap, ◌∙◌, subst}
use mathlib.Core.Bool.{false}
use mathlib.Core.List.{List}
use native.Mathlib.Omega.{arith}
use native.Mathlib.Nat.{pow-suc, div-one, mod-lt, mod-one, div-eq_of_lt, lt_of_lt_of_le, lt_of_le_of_lt, mod-le, mod-eq_of_lt}
use native.Mathlib.Decide.{dec_le}
use lib.Dec.{T, not_T}
use lib.ListN.{get_or}
use lib.Pow.{pow_pos, pow_mono, pow-add, shr_lt, shr-shr, split, mod-pow-add}
use borrow.Author.Tests.{eqb-false}
use Rattle.matroid.specs.Taut.{T→false}
use Rattle.sets.specs.Bits.{bit}
use Rattle.sheet.specs.Fields.{number_at}
use Rattle.builder.specs.Rows.{set_bytes}

-- ---- a number whose ones are all below m

self_lt : (k : ℕ) → k < 2 ^ k
self_lt zero = omega arith
self_lt (suc k) = let below = self_lt k in let twice = pow-suc 2 k in omega arith

-- without its highest one a number is smaller
drop_bit : (k w : ℕ) → k < 2 ^ suc w → bit k w ≡ false → k < 2 ^ w
unfolding bit
drop_bit k w l e =
    let small = shr_lt {n = k} 1 w (subst (λ (x : ℕ). k < 2 ^ x) (let s : suc w ≡ 1 + w = omega arith in s) l) in
    let d = eqb-false (k / 2 ^ w % 2) 1 e in
    let zero' : k / 2 ^ w ≡ 0 = omega arith in
    let whole = split k w in
    let rest = mod-lt k (pow_pos w) in
    let none = ap (λ (x : ℕ). x * 2 ^ w) zero' in
    omega arith

descend : (d m k : ℕ) → k < 2 ^ (m + d) → ((g : ℕ) → m ≤ g → bit k g ≡ false) → k < 2 ^ m
descend zero m k l h = subst (λ (x : ℕ). k < 2 ^ x) (let e : m + 0 ≡ m = omega arith in e) l
descend (suc d) m k l h = descend d m k (drop_bit k (m + d) (subst (λ (x : ℕ). k < 2 ^ x) (let e : m + suc d ≡ suc (m + d) = omega arith in e) l) (h (m + d) (omega arith))) h

pub low_lt : (m k : ℕ) → ((g : ℕ) → T (bit k g) → g < m) → k < 2 ^ m
low_lt m k low = descend k m k (lt_of_lt_of_le (self_lt k) (pow_mono (omega arith))) (λ g l. T→false (bit k g) (not_T (bit k g) (λ t. let b = low g t in omega arith)))

-- ---- its bytes

pow_256 : (j : ℕ) → 256 ^ j ≡ 2 ^ (8 * j)
pow_256 zero = refl
pow_256 (suc j) =
    pow-suc 256 j
    ∙ ap (λ (x : ℕ). x * 256) (pow_256 j)
    ∙ sym (pow-add 2 (8 * j) 8)
    ∙ ap (λ (x : ℕ). 2 ^ x) (let e : 8 * j + 8 ≡ 8 * suc j = omega arith in e)

-- no byte has a bit at or above m
pub set_formed : (m k j : ℕ) → k < 2 ^ m → set_bytes k j < 2 ^ (m - 8 * j)
unfolding set_bytes
set_formed m k j l = lt_of_le_of_lt (mod-le (k / 256 ^ j) 256) (rw (pow_256 j) (go (dec_le (8 * j) m)))
  where
    go : Dec (8 * j ≤ m) → k / 2 ^ (8 * j) < 2 ^ (m - 8 * j)
    go (yes b) = shr_lt {n = k} (m - 8 * j) (8 * j) (subst (λ (x : ℕ). k < 2 ^ x) (let e : m ≡ m - 8 * j + 8 * j = omega arith in e) l)
    go (no d) =
        let none = div-eq_of_lt (lt_of_lt_of_le l (pow_mono {i = m} {j = 8 * j} (omega arith))) in
        let some = pow_pos (m - 8 * j) in
        rw none some

-- w bytes, low byte first, are a number below 2 ^ (8 w)
digits : (w : ℕ) (sheet : List ℕ) (at x : ℕ) → ((j : ℕ) → j < w → get_or sheet (at + j) 0 ≡ x / 2 ^ (8 * j) % 256) → number_at w sheet at ≡ x % 2 ^ (8 * w)
unfolding number_at
digits zero sheet at x h = sym (mod-one x)
digits (suc w) sheet at x h =
    let first : get_or sheet at 0 ≡ x % 256 = ap (λ (i : ℕ). get_or sheet i 0) (let e : at ≡ at + 0 = omega arith in e) ∙ h 0 (omega arith) ∙ ap (λ (y : ℕ). y % 256) (div-one x) in
    let rest = digits w sheet (at + 1) (x / 256) (λ j l.
    ap (λ (i : ℕ). get_or sheet i 0) (let e : at + 1 + j ≡ at + suc j = omega arith in e)
    ∙ h (suc j) (omega arith)
    ∙ ap (λ (y : ℕ). x / 2 ^ y % 256) (let e : 8 * suc j ≡ 8 + 8 * j = omega arith in e)
    ∙ ap (λ (y : ℕ). y % 256) (sym (shr-shr x 8 (8 * j)))) in
    let whole = mod-pow-add x (8 * w) 8 in
    let len : 2 ^ (8 * w + 8) ≡ 2 ^ (8 * suc w) = ap (λ (y : ℕ). 2 ^ y) (let e : 8 * w + 8 ≡ 8 * suc w = omega arith in e) in
    let same : x % 2 ^ (8 * w + 8) ≡ x % 2 ^ (8 * suc w) = ap (λ (y : ℕ). x % y) len in
    omega arith

-- the bytes of no members are 0
pub set_zero : (j : ℕ) → set_bytes 0 j ≡ 0
set_zero j =
    let e : 0 - 8 * j ≡ 0 = omega arith in
    let small = subst (λ (x : ℕ). set_bytes 0 j < 2 ^ x) e (set_formed 0 0 j (omega arith)) in
    omega arith

-- the eight bytes of a set are the set
pub set_back : (m k : ℕ) (sheet : List ℕ) (at : ℕ) → m ≤ 64 → k < 2 ^ m → ((j : ℕ) → j < 8 → get_or sheet (at + j) 0 ≡ set_bytes k j) → number_at 8 sheet at ≡ k
unfolding set_bytes
set_back m k sheet at small l h =
    digits 8 sheet at k (λ j b. h j b ∙ ap (λ (x : ℕ). k / x % 256) (pow_256 j))
    ∙ mod-eq_of_lt (lt_of_lt_of_le l (pow_mono {i = m} {j = 64} small))
