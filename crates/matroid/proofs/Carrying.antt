-- Handing on: who gains and who loses, and what stays.
use Prim.Native.Nat.{ℕ, ◌+◌, ◌<◌}
use mathlib.Core.Path.{◌≡◌, refl, sym, ap, ◌∙◌, subst}
use mathlib.Core.Logic.{◌≢◌}
use mathlib.Core.List.{List, [], ◌∷◌}
use native.Mathlib.Omega.{arith}
use lib.Dec.{eqb}
use Rattle.matroid.specs.Set.{one, size}
use Rattle.matroid.specs.SetLaws.{size_change}
use Rattle.matroid.specs.Search.{All}
use Rattle.matroid.specs.Division.{bundle, move}
use Rattle.matroid.specs.DivisionLaws.{move_here, move_away}
use Rattle.matroid.specs.Carry.{Distinct, carry, last}
use Rattle.matroid.proofs.Searches.{all_imp}

-- D' has given the first to i, and each one after it to the holder of the one before
abbrev pub Handed : (ℕ → ℕ) → (ℕ → ℕ) → ℕ → List ℕ → Type 0
Handed D D' i [] = Unit {0}
Handed D D' i (g ∷ gs) = (D' g ≡ i) × Handed D D' (D g) gs

-- what is not in the list stays where it is
pub carry_other : (D : ℕ → ℕ) (i : ℕ) (gs : List ℕ) (h : ℕ) → All (λ k. h ≢ k) gs → carry D i gs h ≡ D h
carry_other D i [] h a = refl
carry_other D i (g ∷ gs) h a = carry_other (move D g i) (D g) gs h a.1 ∙ move_away D g i h a.0

-- that g has gone to t changes nothing for a list without g
handed_away : (D D' : ℕ → ℕ) (g t i : ℕ) (gs : List ℕ) → All (λ k. k ≢ g) gs → Handed (move D g t) D' i gs → Handed D D' i gs
handed_away D D' g t i [] a h = tt
handed_away D D' g t i (k ∷ ks) a h = (h.0, handed_away D D' g t (D k) ks a.1 (subst (λ (x : ℕ). Handed (move D g t) D' x ks) (move_away D g t k a.0) h.1))

-- and the list is handed on
pub carry_handed : (D : ℕ → ℕ) (i : ℕ) (gs : List ℕ) → Distinct gs → Handed D (carry D i gs) i gs
carry_handed D i [] d = tt
carry_handed D i (g ∷ gs) d = (
  carry_other (move D g i) (D g) gs g (all_imp (λ k n e. n (sym e)) gs d.0) ∙ move_here D g i g refl,
  handed_away D (carry D i (g ∷ gs)) g i (D g) gs d.0 (carry_handed (move D g i) (D g) gs d.1),
)

-- what holds of all holds of the last
last_all : (P : ℕ → Type 0) (g : ℕ) (gs : List ℕ) → All P (g ∷ gs) → P (last g gs)
last_all P g [] a = a.0
last_all P g (h ∷ hs) a = last_all P h hs a.1

-- one hand-over: who takes g has one more, and who held it one fewer
pub move_size : (m : ℕ) (D : ℕ → ℕ) (g i t : ℕ) → g < m → size m (bundle (move D g i) t) + one (eqb (D g) t) ≡ size m (bundle D t) + one (eqb i t)
move_size m D g i t l =
    let change = size_change m (bundle (move D g i) t) (bundle D t) g l (λ k d. ap (λ (x : ℕ). eqb x t) (move_away D g i k d)) in
    let here = ap (λ (x : ℕ). one (eqb x t)) (move_here D g i g refl) in
    omega arith

-- who takes the first has one more, and who held the last has one fewer
pub carry_size : (m : ℕ) (D : ℕ → ℕ) (i g : ℕ) (gs : List ℕ) (t : ℕ) → All (λ k. k < m) (g ∷ gs) → Distinct (g ∷ gs)
    → size m (bundle (carry D i (g ∷ gs)) t) + one (eqb (D (last g gs)) t) ≡ size m (bundle D t) + one (eqb i t)
carry_size m D i g [] t l d = move_size m D g i t l.0
carry_size m D i g (h ∷ hs) t l d =
    let moved = move_size m D g i t l.0 in
    let rest = carry_size m (move D g i) (D g) h hs t l.1 d.1 in
    let end = ap (λ (x : ℕ). one (eqb x t)) (move_away D g i (last h hs) (last_all (λ k. k ≢ g) h hs d.0)) in
    omega arith
