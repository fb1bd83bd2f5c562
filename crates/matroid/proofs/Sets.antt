-- More laws of sets.
use Prim.Native.Nat.{ℕ, zero, suc, ◌+◌, ◌-◌, ◌≤◌, ◌<◌, zero-le}
use mathlib.Core.Path.{◌≡◌}
use mathlib.Core.Bool.{Bool, true, ◌&&◌, ◌||◌, not}
use native.Mathlib.Omega.{arith}
use lib.Dec.{T, eqb, T_not, not_T}
use Rattle.matroid.specs.Taut.{◌⇒◌, all₄, follows₂, follows₄}
use Rattle.matroid.specs.Set.{Set, complement, only, with, without, size, Within}
use Rattle.matroid.specs.SetLaws.{ne→eqb, differ, with_new, within₂, within_refl, within_trans, inter_most, inter_mono, with_old, with_least, without_old, one_le, size_same, size_without, size_some}

-- ---- members

-- what is new to `with A g` is new to A, and that is new to `without A g`
pub with_out : (A : Set) (g k : ℕ) → T (not (with A g k)) → T (not (A k))
with_out A g k = follows₂ (λ a e. not (a || e)) (λ a e. not a) tt (A k) (eqb k g)

pub without_out : (A : Set) (g k : ℕ) → T (not (A k)) → T (not (without A g k))
without_out A g k = follows₂ (λ a e. not a) (λ a e. not (a && not e)) tt (A k) (eqb k g)

-- ---- parts

-- a law of four tests is a law of sets
pub within₄ : {m : ℕ} (p q : Bool → Bool → Bool → Bool → Bool) → T (all₄ (λ a b c d. p a b c d ⇒ q a b c d)) → (A B C D : Set) → Within m (λ k. p (A k) (B k) (C k) (D k)) (λ k. q (A k) (B k) (C k) (D k))
within₄ p q t A B C D = record { at = λ k _. follows₄ p q t (A k) (B k) (C k) (D k) }

-- what is not in the whole is not in a part
pub within_out : {m : ℕ} {A B : Set} → Within m A B → (g : ℕ) → g < m → T (not (B g)) → T (not (A g))
within_out {A = A} {B = B} h g l b = not_T (A g) (λ a. T_not (B g) b (h.at g l a))

-- the same number joins both
pub with_mono : {m : ℕ} {A B : Set} (g : ℕ) → Within m A B → Within m (with A g) (with B g)
with_mono {B = B} g h = with_least g (within_trans h (with_old B g)) (with_new B g)

-- nothing is lost where no member is taken out
pub without_other : {m : ℕ} {A B : Set} (g : ℕ) → Within m A B → T (not (A g)) → Within m A (without B g)
without_other {A = A} g h o = inter_most h (record { at = λ k l a. ne→eqb k g (differ A a o) })

-- the same exchange in both
pub swap_mono : {m : ℕ} {A B : Set} (x y : ℕ) → Within m A B → Within m (with (without A x) y) (with (without B x) y)
swap_mono x y h = with_mono y (inter_mono (complement (only x)) h)

-- ---- sizes

-- no set has more than m members below m
pub size_le : (m : ℕ) (A : Set) → size m A ≤ m
size_le zero A = zero-le
size_le (suc m) A =
    let below = size_le m A in
    let here = one_le (A m) true (λ _. tt) in
    omega arith

-- a part of A with c members
pub record Portion (m c : ℕ) (A : Set) : Type 0 where
  pub set : Set
  pub within : Within m set A
  pub count : size m set ≡ c

-- a portion of what is left is a portion
portion_without : {m c : ℕ} (A : Set) (g : ℕ) → Portion m c (without A g) → Portion m c A
portion_without A g p = record { set = p.set; within = within_trans p.within (without_old A g); count = p.count }

-- by leaving out d members
take_by : (d m c : ℕ) (A : Set) → size m A ≡ c + d → Portion m c A
take_by zero m c A e = record { set = A; within = within_refl; count = omega arith }
take_by (suc d) m c A e =
    let x = size_some m A (omega arith) in
    let less = size_without m A x.at x.below x.there in
    portion_without A x.at (take_by d m c (without A x.at) (omega arith))

-- of a set's members any number can be taken
pub size_take : (m c : ℕ) (A : Set) → c ≤ size m A → Portion m c A
size_take m c A h = take_by (size m A - c) m c A (omega arith)

-- what is not outside A is A
pub size_twice : (m : ℕ) (A : Set) → size m (complement (complement A)) ≡ size m A
size_twice m A = size_same m (within₂ (λ a b. not (not a)) (λ a b. a) tt A A) (within₂ (λ a b. a) (λ a b. not (not a)) tt A A)
