-- Sums of which one or two terms change.
use Prim.Native.Nat.{ℕ, zero, suc, ◌+◌, ◌<◌}
use mathlib.Core.Path.{◌≡◌, refl, sym, ap, ◌∙◌}
use mathlib.Core.Bool.{Bool, cond}
use mathlib.Core.Logic.{◌≢◌}
use native.Mathlib.Omega.{arith}
use native.Mathlib.Decide.{ℕ_discrete}
use lib.Dec.{eqb}
use borrow.Author.Tests.{eq-eqb, ne_eqb}
use Rattle.matroid.specs.Sum.{sum}
use Rattle.matroid.proofs.Sums.{sum_same}

-- f and g differ at i alone
abbrev pub OnlyAt : ℕ → (ℕ → ℕ) → (ℕ → ℕ) → ℕ → Type 0
OnlyAt n f g i = (t : ℕ) → t < n → t ≢ i → f t ≡ g t

-- f and g differ at i and j alone
abbrev pub OnlyAtTwo : ℕ → (ℕ → ℕ) → (ℕ → ℕ) → ℕ → ℕ → Type 0
OnlyAtTwo n f g i j = (t : ℕ) → t < n → t ≢ i → t ≢ j → f t ≡ g t

-- where they differ at i alone, their sums differ by what stands at i
pub sum_change : (n : ℕ) (f g : ℕ → ℕ) (i : ℕ) → i < n → OnlyAt n f g i → sum n f + g i ≡ sum n g + f i
sum_change zero f g i l h = absurd (omega arith)
sum_change (suc n) f g i l h = go (λ (b : i < n). sum_change n f g i b (λ t k. h t (omega arith))) (ℕ_discrete i n)
  where
    go : (i < n → sum n f + g i ≡ sum n g + f i) → Dec (i ≡ n) → sum (suc n) f + g i ≡ sum (suc n) g + f i
    go rest (yes e) =
        let below = sum_same n f g (λ t k. h t (omega arith) (omega arith)) in
        let atF = ap f e in
        let atG = ap g e in
        omega arith
    go rest (no d) =
        let below = rest (omega arith) in
        let here = h n (omega arith) (λ e. d (sym e)) in
        omega arith

-- f, but at i it is what g is there
abbrev taking : ℕ → (ℕ → ℕ) → (ℕ → ℕ) → ℕ → ℕ
taking i f g t = cond (eqb t i) (g t) (f t)

-- so it is at i
taking_here : (i : ℕ) (f g : ℕ → ℕ) (t : ℕ) → t ≡ i → taking i f g t ≡ g t
taking_here i f g t e = ap (λ (b : Bool). cond b (g t) (f t)) (eq-eqb t i e)

-- and elsewhere it is f
taking_away : (i : ℕ) (f g : ℕ → ℕ) (t : ℕ) → t ≢ i → taking i f g t ≡ f t
taking_away i f g t d = ap (λ (b : Bool). cond b (g t) (f t)) (ne_eqb t i d)

-- sums of terms that differ at two places differ by what stands there
pub sum_change_two : (n : ℕ) (f g : ℕ → ℕ) (i j : ℕ) → i < n → j < n → i ≢ j → OnlyAtTwo n f g i j → sum n f + (g i + g j) ≡ sum n g + (f i + f j)
sum_change_two n f g i j li lj d h =
    let mid = taking i f g in
    let first = sum_change n f mid i li (λ t l e. sym (taking_away i f g t e)) in
    let second = sum_change n mid g j lj (λ t l e. rest t l e (ℕ_discrete t i)) in
    let ati = taking_here i f g i refl in
    let atj = taking_away i f g j (λ e. d (sym e)) in
    omega arith
  where
    rest : (t : ℕ) → t < n → t ≢ j → Dec (t ≡ i) → taking i f g t ≡ g t
    rest t l e (yes q) = taking_here i f g t q
    rest t l e (no q) = taking_away i f g t q ∙ h t l q e
