-- Laws of sizes and of the shortfall (document 02, note 7): how a give, a return and a chain move them.
use Prim.Native.Nat.{ℕ, ◌+◌, ◌-◌, ◌*◌, ◌≤◌, ◌<◌, zero-le}
use mathlib.Core.Path.{◌≡◌, refl, sym, ap, ◌∙◌}
use mathlib.Core.Logic.{◌≢◌, ◌↔◌}
use native.Mathlib.Omega.{arith}
use native.Mathlib.Decide.{dec_lt}
use lib.Dec.{eqb→eq}
use borrow.Author.Tests.{lt-ltb, le-ltb}
use Rattle.matroid.specs.Set.{none}
use Rattle.matroid.specs.SetLaws.{one_eq, one_ne, size_within, size_none}
use Rattle.matroid.specs.Division.{bundle, move}
use Rattle.matroid.specs.Shortfall.{sizes, lack, shortfall}
use Rattle.matroid.proofs.Sums.{sum_le, sum_same, sum_const, sum_tight}
use Rattle.matroid.proofs.Carrying.{move_size}
use Rattle.matroid.proofs.Change.{OnlyAt, OnlyAtTwo, sum_change, sum_change_two}

-- what a short agent lacks is the difference, and any other has none
lack_is : (share size : ℕ) → lack share size ≡ share - size
unfolding lack
lack_is share size = elim (dec_lt size share) [
  | yes l ↦ rw (lt-ltb size share l) refl
  | no d ↦ rw (le-ltb size share (omega arith)) (omega arith)
]

-- nobody lacks anything exactly where the shortfall is 0
pub shortfall_none : (n : ℕ) (σ f : ℕ → ℕ) → (shortfall n σ f ≡ 0) ↔ ((t : ℕ) → t < n → σ t ≤ f t)
unfolding shortfall
shortfall_none n σ f = (met, none_left)
  where
    met : shortfall n σ f ≡ 0 → (t : ℕ) → t < n → σ t ≤ f t
    met e t l =
        let zeros = sum_const n 0 in
        let here = sum_tight n (λ _. 0) (λ t. lack (σ t) (f t)) (λ u _. zero-le) (omega arith) t l in
        let is = lack_is (σ t) (f t) in
        omega arith

    none_left : ((t : ℕ) → t < n → σ t ≤ f t) → shortfall n σ f ≡ 0
    none_left h =
        let zeros = sum_const n 0 in
        let same = sum_same n (λ t. lack (σ t) (f t)) (λ _. 0) (λ t l. let m = h t l in let is = lack_is (σ t) (f t) in omega arith) in
        omega arith

-- the shortfall goes by the numbers below n
pub shortfall_same : (n : ℕ) (σ f f' : ℕ → ℕ) → ((t : ℕ) → t < n → f t ≡ f' t) → shortfall n σ f ≡ shortfall n σ f'
unfolding shortfall
shortfall_same n σ f f' h = sum_same n (λ t. lack (σ t) (f t)) (λ t. lack (σ t) (f' t)) (λ t l. ap (lack (σ t)) (h t l))

-- One agent's number changes, from f to f'.
module _ (n : ℕ) (σ f f' : ℕ → ℕ) (i : ℕ) (l : i < n) (same : OnlyAt n f f' i) where
  -- the shortfall changes by what i lacks
  shortfall_change : shortfall n σ f + (σ i - f' i) ≡ shortfall n σ f' + (σ i - f i)
  unfolding shortfall
  shortfall_change =
      let change = sum_change n (λ t. lack (σ t) (f t)) (λ t. lack (σ t) (f' t)) i l (λ t b d. ap (lack (σ t)) (same t b d)) in
      let before = lack_is (σ i) (f i) in
      let after = lack_is (σ i) (f' i) in
      omega arith

  -- a short agent gets one more: the shortfall falls by one
  pub shortfall_raise : f' i ≡ f i + 1 → f i < σ i → shortfall n σ f ≡ shortfall n σ f' + 1
  shortfall_raise e s = let change = shortfall_change in omega arith

  -- an agent at or below its share gets one fewer: the shortfall rises by one
  pub shortfall_lower : f' i + 1 ≡ f i → f i ≤ σ i → shortfall n σ f' ≡ shortfall n σ f + 1
  shortfall_lower e s = let change = shortfall_change in omega arith

  -- an agent that is not short before or after does not matter
  pub shortfall_keep : σ i ≤ f i → σ i ≤ f' i → shortfall n σ f ≡ shortfall n σ f'
  shortfall_keep a b = let change = shortfall_change in omega arith

-- i, which is short, has one more, and j, which is above its share, one fewer: the shortfall falls by one
pub shortfall_falls : (n : ℕ) (σ f f' : ℕ → ℕ) (i j : ℕ) → i < n → j < n → OnlyAtTwo n f f' i j → f' i ≡ f i + 1 → f' j + 1 ≡ f j → f i < σ i → σ j < f j
    → shortfall n σ f ≡ shortfall n σ f' + 1
unfolding shortfall
shortfall_falls n σ f f' i j li lj same up down short above =
    let differ : i ≢ j = λ e. let held = ap f e in let share = ap σ e in omega arith in
    let change = sum_change_two n (λ t. lack (σ t) (f t)) (λ t. lack (σ t) (f' t)) i j li lj differ (λ t l a b. ap (lack (σ t)) (same t l a b)) in
    let i-before = lack_is (σ i) (f i) in
    let i-after = lack_is (σ i) (f' i) in
    let j-before = lack_is (σ j) (f j) in
    let j-after = lack_is (σ j) (f' j) in
    omega arith

-- shares of at most k each leave a shortfall of at most n times k
pub shortfall_most : (n : ℕ) (σ f : ℕ → ℕ) (k : ℕ) → ((t : ℕ) → t < n → σ t ≤ k) → shortfall n σ f ≤ n * k
unfolding shortfall
shortfall_most n σ f k most =
    let each = sum_le n (λ t. lack (σ t) (f t)) (λ _. k) (λ t l. let is = lack_is (σ t) (f t) in let top = most t l in omega arith) in
    let all = sum_const n k in
    omega arith

-- g is in the pool and goes to agent i.
module _ (m n : ℕ) (D : ℕ → ℕ) (g i : ℕ) (lg : g < m) (li : i < n) (loose : n ≤ D g) where
  -- i has one more
  pub give_gains : sizes m (move D g i) i ≡ sizes m D i + 1
  give_gains =
      let s = move_size m D g i i lg in
      let to = one_eq i i refl in
      let from = one_ne (D g) i (λ e. omega arith) in
      omega arith

  -- any other agent has as many as before
  pub give_keeps : OnlyAt n (sizes m D) (sizes m (move D g i)) i
  give_keeps t l d =
      let s = move_size m D g i t lg in
      let to = one_ne i t (λ e. d (sym e)) in
      let from = one_ne (D g) t (λ e. omega arith) in
      omega arith

-- agent j holds g, which goes to the pool p.
module _ (m n : ℕ) (D : ℕ → ℕ) (g j p : ℕ) (lg : g < m) (lj : j < n) (holds : D g ≡ j) (lp : n ≤ p) where
  -- j has one fewer
  pub return_loses : sizes m (move D g p) j + 1 ≡ sizes m D j
  return_loses =
      let s = move_size m D g p j lg in
      let to = one_ne p j (λ e. omega arith) in
      let from = one_eq (D g) j holds in
      omega arith

  -- any other agent has as many as before
  pub return_keeps : OnlyAt n (sizes m D) (sizes m (move D g p)) j
  return_keeps t l d =
      let s = move_size m D g p t lg in
      let to = one_ne p t (λ e. omega arith) in
      let from = one_ne (D g) t (λ e. d (sym e ∙ holds)) in
      omega arith

-- with everything in the pool nobody holds anything
pub sizes_start : (m n : ℕ) (D : ℕ → ℕ) → ((g : ℕ) → g < m → n ≤ D g) → (t : ℕ) → t < n → sizes m D t ≡ 0
sizes_start m n D loose t l =
    let empty = size_within m {A = bundle D t} {B = none} (record { at = λ g b h. let e = eqb→eq (D g) t h in let out = loose g b in omega arith }) in
    let z = size_none m in
    omega arith
