-- The loop that reads a number of several bytes, high byte first.
use Prim.Native.Nat.{ℕ, ◌+◌, ◌-◌, ◌*◌, ◌^◌, ◌≤◌, ◌<◌}
use mathlib.Core.Path.{◌≡◌, refl, ap, ◌∙◌}
use mathlib.Core.List.{List}
use native.Mathlib.Omega.{arith}
use native.Mathlib.Numerals.{add-one}
use lib.ListN.{get_or}
use lib.Pow.{pow-add, pow_mono}
use Rattle.sheet.specs.Fields.{number_at}

-- the word of the k bytes that end before `end`, and that it has no more than 8 k bits
pub record Read (s : List ℕ) (end k word : ℕ) : Type 0 where
  pub is : word ≡ number_at k s (end - k)
  pub small : word < 2 ^ (8 * k)

pub read_none : (s : List ℕ) (end : ℕ) → Read s end 0 0
unfolding number_at
read_none s end = record { is = refl; small = omega arith }

module _ (s : List ℕ) (at k word : ℕ) (h : Read s (at + 8) k word) (l : k < 8) where
  -- one byte more fits
  pub read_fits : (b : ℕ) → b < 256 → word * 256 + b < 2 ^ (8 * (k + 1))
  read_fits b small =
      let w = h.small in
      let e : 2 ^ (8 * (k + 1)) ≡ 2 ^ (8 * k) * 256 = ap (λ (x : ℕ). 2 ^ x) (omega arith) ∙ pow-add 2 (8 * k) 8 in
      omega arith

  -- and the word with it fits 64 bits
  pub read_word : (b : ℕ) → b < 256 → word * 256 + b < 18446744073709551616
  read_word b small =
      let f = read_fits b small in
      let m : 2 ^ (8 * (k + 1)) ≤ 2 ^ 64 = pow_mono {i = 8 * (k + 1)} {j = 64} (omega arith) in
      omega arith

  pub read_more : get_or s (at + 7 - k) 0 < 256 → Read s (at + 8) (k + 1) (word * 256 + get_or s (at + 7 - k) 0)
  unfolding number_at
  read_more small = record {
    is =
        let here : at + 8 - (k + 1) ≡ at + 7 - k = omega arith in
        let next : at + 7 - k + 1 ≡ at + 8 - k = omega arith in
        let e = h.is in
        rw (here, add-one k, number_at, next) (omega arith);
    small = read_fits (get_or s (at + 7 - k) 0) small;
  }

-- all 8 bytes
pub read_done : (s : List ℕ) (at k word : ℕ) → k ≤ 8 → 8 ≤ k → Read s (at + 8) k word → word ≡ number_at 8 s at
read_done s at k word l g h =
    let e : k ≡ 8 = omega arith in
    let start : at + 8 - k ≡ at = omega arith in
    h.is ∙ ap (number_at k s) start ∙ ap (λ (x : ℕ). number_at x s at) e
