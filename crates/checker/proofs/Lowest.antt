-- The lowest number that fails a test, and tests that all pass.
use Prim.Native.Nat.{ℕ, zero, suc, ◌≤◌, ◌<◌}
use mathlib.Core.Path.{◌≡◌, refl, sym, ap, ap₂, ◌∙◌}
use mathlib.Core.Bool.{Bool, true, false, ◌&&◌, cond, false≢true, and-false}
use native.Mathlib.Omega.{arith}
use native.Mathlib.Decide.{ℕ_discrete}
use lib.Dec.{ltb}
use borrow.Author.Tests.{lt-ltb, le-ltb, ltb-true, ltb-false}
use Rattle.std.proofs.Common.{Option, Some, None, is_some}
use Rattle.checker.specs.Tests.{every, lowest_failing}
use Rattle.checker.specs.Rules.{found}

-- the first failure is the lowest
pub lowest_at : (n : ℕ) (test : ℕ → Bool) (t : ℕ) → t < n → ((k : ℕ) → k < t → test k ≡ true) → test t ≡ false → t ≡ lowest_failing n test
unfolding lowest_failing
lowest_at zero test t l before here = absurd (omega arith)
lowest_at (suc n) test zero l before here = rw here refl
lowest_at (suc n) test (suc t) l before here =
    rw (before 0 (omega arith)) (ap suc (lowest_at n (λ k. test (suc k)) t (omega arith) (λ k b. before (suc k) (omega arith)) here))

pub lowest_none : (n : ℕ) (test : ℕ → Bool) → ((k : ℕ) → k < n → test k ≡ true) → n ≡ lowest_failing n test
unfolding lowest_failing
lowest_none zero test all = refl
lowest_none (suc n) test all = rw (all 0 (omega arith)) (ap suc (lowest_none n (λ k. test (suc k)) (λ k b. all (suc k) (omega arith))))

-- where none below n is the lowest, all pass
pub lowest_all : (n : ℕ) (test : ℕ → Bool) → n ≤ lowest_failing n test → (k : ℕ) → k < n → test k ≡ true
unfolding lowest_failing
lowest_all zero test h k l = absurd (omega arith)
lowest_all (suc n) test h k l = go (test 0) refl h k l (λ (g : n ≤ lowest_failing n (λ t. test (suc t))). lowest_all n (λ t. test (suc t)) g)
  where
    go : (b : Bool) → test 0 ≡ b → suc n ≤ cond b (suc (lowest_failing n (λ t. test (suc t)))) 0 → (k : ℕ) → k < suc n
        → (n ≤ lowest_failing n (λ t. test (suc t)) → (k : ℕ) → k < n → test (suc k) ≡ true) → test k ≡ true
    go true e h zero l rest = e
    go true e h (suc k) l rest = rest (omega arith) k (omega arith)
    go false e h k l rest = absurd (omega arith)

-- every test passes, or one fails
pub every_true : (n : ℕ) (test : ℕ → Bool) → ((k : ℕ) → k < n → test k ≡ true) → every n test ≡ true
unfolding every
every_true zero test all = refl
every_true (suc n) test all = rw (every_true n test (λ k l. all k (omega arith)), all n (omega arith)) refl

pub every_false : (n : ℕ) (test : ℕ → Bool) (k : ℕ) → k < n → test k ≡ false → every n test ≡ false
unfolding every
every_false zero test k l e = absurd (omega arith)
every_false (suc n) test k l e = go (λ (b : k < n). every_false n test k b e) (ℕ_discrete k n)
  where
    go : (k < n → every n test ≡ false) → Dec (k ≡ n) → (every n test && test n) ≡ false
    go rest (yes same) = ap (λ (b : Bool). every n test && b) (ap test (sym same) ∙ e) ∙ and-false (every n test)
    go rest (no other) = ap (λ (b : Bool). b && test n) (rest (omega arith))

pub every_all : (n : ℕ) (test : ℕ → Bool) → every n test ≡ true → (k : ℕ) → k < n → test k ≡ true
every_all n test h k l = go (test k) refl
  where
    go : (b : Bool) → test k ≡ b → test k ≡ true
    go true e = e
    go false e = absurd (false≢true (sym (every_false n test k l e) ∙ h))

-- equal tests
pub every_same : (n : ℕ) (f g : ℕ → Bool) → ((k : ℕ) → k < n → f k ≡ g k) → every n f ≡ every n g
unfolding every
every_same zero f g h = refl
every_same (suc n) f g h = ap₂ (λ (a b : Bool). a && b) (every_same n f g (λ k l. h k (omega arith))) (h n (omega arith))

-- what is found is the lowest, and below n; nothing is found where the search comes to n
pub found_some : {n t d : ℕ} → t < n → t ≡ d → Some t ≡ found n d
found_some {n} {t} {d} l e = ap Some e ∙ rw (lt-ltb d n (omega arith)) refl

pub found_none : {n d : ℕ} → n ≡ d → None ≡ found n d
found_none {n} {d} e = rw (le-ltb d n (omega arith)) refl

pub found_is : {o : Option ℕ} {n d t : ℕ} → o ≡ found n d → o ≡ Some t → (t < n) × (t ≡ d)
found_is {o} {n} {d} {t} is e = go (ltb d n) refl (sym e ∙ is)
  where
    go : (b : Bool) → ltb d n ≡ b → Some t ≡ cond b (Some d) None → (t < n) × (t ≡ d)
    go true l f = let same : t ≡ d = ap (λ (o : Option ℕ). elim o [ Some x ↦ x | None ↦ 0 ]) f in let below = ltb-true d n l in (omega arith, same)
    go false l f = absurd (false≢true (sym (ap is_some f)))

pub found_not : {o : Option ℕ} {n d : ℕ} → o ≡ found n d → o ≡ None → n ≤ d
found_not {o} {n} {d} is e = go (ltb d n) refl (sym e ∙ is)
  where
    go : (b : Bool) → ltb d n ≡ b → None ≡ cond b (Some d) None → n ≤ d
    go true l f = absurd (false≢true (ap is_some f))
    go false l f = ltb-false d n l
