-- A set gone through by its least members.
use Prim.Native.Nat.{ℕ, zero, suc, ◌+◌, ◌≤◌, ◌<◌}
use mathlib.Core.Path.{◌≡◌, ap, ◌∙◌, subst, subst⁻¹, fun_ext}
use mathlib.Core.Bool.{not}
use mathlib.Core.Logic.{◌↔◌, inl, inr}
use native.Mathlib.Omega.{arith}
use native.Mathlib.Decide.{dec_lt}
use lib.Dec.{T, ltb→lt, lt→ltb, T_not, not_T}
use Rattle.matroid.specs.Taut.{both, and_left, and_right}
use Rattle.matroid.specs.Decide.{below_suc}
use Rattle.matroid.specs.Set.{Set, ◌∩◌, under, without, size}
use Rattle.matroid.specs.SetLaws.{ne→eqb, eqb→ne, size_without}
use Rattle.sets.specs.Bits.{bit}
use Rattle.sets.specs.Lowest.{Lowest}

-- a value that changes nowhere from i to k is the same at both
pub run : (f : ℕ → ℕ) (i k : ℕ) → i ≤ k → ((j : ℕ) → i ≤ j → j < k → f j ≡ f (suc j)) → f i ≡ f k
run f i zero l h = ap f (omega arith)
run f i (suc k) l h = elim (below_suc {k = i} {n = suc k} (omega arith)) [
  | inl l' ↦ run f i k (omega arith) (λ j lo hi. h j lo (omega arith)) ∙ h k (omega arith) (omega arith)
  | inr e ↦ ap f e
]

-- what is left of the members of A below m: those from `at` on
pub record Ahead (A : Set) (m at left : ℕ) : Type 0 where
  pub is : (j : ℕ) → T (bit left j) ↔ (T (A j) × (j < m) × (at ≤ j))

pub ahead_all : (m set all left : ℕ) → ((j : ℕ) → bit all j ≡ under m j) → ((j : ℕ) → bit left j ≡ (bit set ∩ bit all) j) → Ahead (bit set) m 0 left
ahead_all m set all left is_all is-left = record {
  is = λ j. (
    λ t.
        let u = subst T (is-left j) t in
        (and_left (bit set j) _ u, ltb→lt j m (subst T (is_all j) (and_right (bit set j) _ u)), omega arith),
    λ (a, l, _). subst⁻¹ T (is-left j) (both (bit set j) _ a (subst⁻¹ T (is_all j) (lt→ltb j m l))),
  );
}

-- a word without one of its members is smaller
size_fewer : (w left g next : ℕ) → g < w → T (bit left g) → ((j : ℕ) → bit next j ≡ without (bit left) g j) → size w (bit next) < size w (bit left)
size_fewer w left g next l t is =
    let e = size_without w (bit left) g l t in
    let s = ap (size w) (fun_ext is) in
    omega arith

-- and so is one without its least member
pub fewer : (left g next : ℕ) → Lowest left g → g < 64 → ((j : ℕ) → bit next j ≡ without (bit left) g j) → size 64 (bit next) < size 64 (bit left)
fewer left g next low some is = size_fewer 64 left g next some (low.member some) is

-- The members of A below `reached` have been gone through, the rest is left, and P holds of the number reached.
pub record Through (A : Set) (m left : ℕ) (P : ℕ → Type 0) : Type 0 where
  pub reached : ℕ
  pub top : reached ≤ m
  pub ahead : Ahead A m reached left
  pub holds : P reached

pub through_none : (A : Set) (m left : ℕ) (P : ℕ → Type 0) → Ahead A m 0 left → P 0 → Through A m left P
through_none A m left P ahead p = record { reached = 0; top = omega arith; ahead = ahead; holds = p }

-- P holds on, up to g, where A has no member on the way
abbrev pub Rests : (A : Set) (g : ℕ) (P : ℕ → Type 0) → Type 0
Rests A g P = (n : ℕ) → n ≤ g → ((j : ℕ) → n ≤ j → j < g → T (not (A j))) → P n → P g

module _ (A : Set) (m left g : ℕ) (P : ℕ → Type 0) (h : Through A m left P) (low : Lowest left g) where
  abbrev n : ℕ
  n = h.reached

  -- from the number reached to the least member that is left, A has none
  none_before : (j : ℕ) → n ≤ j → j < g → j < m → T (not (A j))
  none_before j a b l = not_T (A j) (λ t. T_not (bit left j) (low.least j b) ((h.ahead.is j).1 (t, l, a)))

  -- where nothing is left, P holds of m
  pub through_done : 64 ≤ g → m ≤ 64 → Rests A m P → P m
  through_done full small rests = rests n h.top (λ j a b. none_before j a (omega arith) b) h.holds

  module _ (some : g < 64) where
    -- the least one left is a member of A
    pub here : T (A g) × (g < m) × (n ≤ g)
    here = (h.ahead.is g).0 (low.member some)

    -- one more is gone through
    module _ (next : ℕ) (is-next : (j : ℕ) → bit next j ≡ without (bit left) g j) where
      beyond : (j : ℕ) → T (without (bit left) g j) → g + 1 ≤ j
      beyond j u = elim (dec_lt j g) [
        | yes l ↦ absurd (T_not (bit left j) (low.least j l) (and_left (bit left j) _ u))
        | no d ↦ let other = eqb→ne j g (and_right (bit left j) _ u) in omega arith
      ]

      ahead_next : Ahead A m (g + 1) next
      ahead_next = record {
        is = λ j. (
          λ t.
              let u = subst T (is-next j) t in
              let (a, l, _) = (h.ahead.is j).0 (and_left (bit left j) _ u) in
              (a, l, beyond j u),
          λ (a, l, b). let (_, _, c) = here in subst⁻¹ T (is-next j) (both (bit left j) _ ((h.ahead.is j).1 (a, l, omega arith)) (ne→eqb j g (λ e. absurd (omega arith)))),
        );
      }

      pub through_next : (Q : ℕ → Type 0) → Rests A g P → (T (A g) → P g → Q (g + 1)) → Through A m next Q
      through_next Q rests step =
          let (member, l, after) = here in
          record {
            reached = g + 1;
            top = omega arith;
            ahead = ahead_next;
            holds = step member (rests n after (λ j a b. none_before j a b (omega arith)) h.holds);
          }
