-- Laws of sums: what a comparison of two sums tells of their terms.
use Prim.Native.Nat.{ℕ, zero, suc, ◌+◌, ◌*◌, ◌≤◌, ◌<◌, zero-le}
use mathlib.Core.Path.{◌≡◌, refl, sym, ap}
use native.Mathlib.Omega.{arith}
use native.Mathlib.Nat.{zero-mul, mul-zero}
use native.Mathlib.Decide.{ℕ_discrete, dec_lt}
use Rattle.matroid.specs.Set.{Set, one, size}
use Rattle.matroid.specs.Sum.{sum}

-- larger terms have the larger sum, and equal terms the same
pub sum_le : (n : ℕ) (f g : ℕ → ℕ) → ((t : ℕ) → t < n → f t ≤ g t) → sum n f ≤ sum n g
sum_le zero f g h = zero-le
sum_le (suc n) f g h =
    let below = sum_le n f g (λ t l. h t (omega arith)) in
    let here = h n (omega arith) in
    omega arith

pub sum_same : (n : ℕ) (f g : ℕ → ℕ) → ((t : ℕ) → t < n → f t ≡ g t) → sum n f ≡ sum n g
sum_same zero f g h = refl
sum_same (suc n) f g h =
    let below = sum_same n f g (λ t l. h t (omega arith)) in
    let here = h n (omega arith) in
    omega arith

-- a sum of sums, of one number n times, and of multiples
pub sum_add : (n : ℕ) (f g : ℕ → ℕ) → sum n (λ t. f t + g t) ≡ sum n f + sum n g
sum_add zero f g = refl
sum_add (suc n) f g = let below = sum_add n f g in omega arith

pub sum_const : (n c : ℕ) → sum n (λ t. c) ≡ n * c
sum_const zero c = sym (zero-mul c)
sum_const (suc n) c = let below = sum_const n c in omega arith

pub sum_mul : (n c : ℕ) (f : ℕ → ℕ) → sum n (λ t. c * f t) ≡ c * sum n f
sum_mul zero c f = sym (mul-zero c)
sum_mul (suc n) c f = let below = sum_mul n c f in omega arith

-- a set's size is a sum of ones
pub sum_size : (n : ℕ) (A : Set) → sum n (λ t. one (A t)) ≡ size n A
sum_size zero A = refl
sum_size (suc n) A = let below = sum_size n A in omega arith

-- where no term is larger and the sum is no smaller, the terms are equal
pub sum_tight : (n : ℕ) (f g : ℕ → ℕ) → ((t : ℕ) → t < n → f t ≤ g t) → sum n g ≤ sum n f → (t : ℕ) → t < n → f t ≡ g t
sum_tight zero f g h e t l = absurd (omega arith)
sum_tight (suc n) f g h e t l = go (λ (b : t < n) (s : sum n g ≤ sum n f). sum_tight n f g (λ u k. h u (omega arith)) s t b) (ℕ_discrete t n)
  where
    go : (t < n → sum n g ≤ sum n f → f t ≡ g t) → Dec (t ≡ n) → f t ≡ g t
    go rest (yes d) =
        let below = sum_le n f g (λ u k. h u (omega arith)) in
        let here = h t l in
        let ft = ap f d in
        let gt = ap g d in
        omega arith
    go rest (no d) = let here = h n (omega arith) in rest (omega arith) (omega arith)

-- where no term is larger and one is smaller, so is the sum
pub sum_lt : (n : ℕ) (f g : ℕ → ℕ) → ((t : ℕ) → t < n → f t ≤ g t) → (i : ℕ) → i < n → f i < g i → sum n f < sum n g
sum_lt n f g h i l s = go (dec_lt (sum n f) (sum n g))
  where
    go : Dec (sum n f < sum n g) → sum n f < sum n g
    go (yes d) = d
    go (no d) = let e = sum_tight n f g h (omega arith) i l in absurd (omega arith)
