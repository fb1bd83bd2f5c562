-- Exchanges in one independent set: when they can be done, and what one leaves of the others.
use Prim.Native.Nat.{ℕ, ◌<◌}
use mathlib.Core.Path.{sym, subst}
use mathlib.Core.Bool.{◌&&◌, ◌||◌, not}
use mathlib.Core.Logic.{◌⊎◌, inl, inr, ⊎_elim, ◌≢◌}
use native.Mathlib.Omega.{arith}
use native.Mathlib.Decide.{dec_lt}
use lib.Dec.{T, eqb, eqb→eq}
use Rattle.matroid.specs.Taut.{decide_T, both, or_cases, follows₂, follows₄}
use Rattle.matroid.specs.Set.{Set, only, with, without, size, Within}
use Rattle.matroid.specs.SetLaws.{ne→eqb, differ, with_cases, with_new, within₃, within_refl, within_trans, union_least, with_old, without_old, size_with, size_without, Extra, size_extra, size_full}
use Rattle.matroid.specs.Matroid.{Gain, Matroid}
use Rattle.matroid.specs.Exchange.{Fits, Swaps}
use Rattle.matroid.proofs.Sets.{with_out, without_out, within₄, within_out, with_mono, without_other, swap_mono}
use Rattle.matroid.proofs.Rank.{Extension, extend}

module _ {m : ℕ} (M : Matroid m) where
  -- what was gained, by its other name
  gain_at : {A B : Set} (g : Gain m M.Indep A B) (w : ℕ) → T (eqb g.at w) → M.Indep (with A w)
  gain_at {A} g w e = subst (λ (v : ℕ). M.Indep (with A v)) (eqb→eq g.at w e) g.indep

  -- what can take the place of two together can take the place of one of them
  pub swap_one : (A : Set) (x x' y : ℕ) → x < m → x' < m → y < m → x ≢ x' → T (A x) → T (A x') → T (not (A y)) → M.Indep A
      → M.Indep (with (without (without A x) x') y) → M.Indep (with (without A x) y) ⊎ M.Indep (with (without A x') y)
  swap_one A x x' y lx lx' ly d ax ax' ay i j =
      let s = size_without m A x lx ax in
      let s' = size_without m (without A x) x' lx' (both (A x') (not (eqb x' x)) ax' (ne→eqb x' x (λ e. d (sym e)))) in
      let t = size_with m (without (without A x) x') y ly (without_out (without A x) x' y (without_out A x y ay)) in
      let g = M.gain j i (omega arith) in
      let z = g.at in
      ⊎_elim
      (λ e. inr (M.part (within₄ (λ a e e' f. (a && not e') || f) (λ a e e' f. (((a && not e) && not e') || f) || e) tt A (only x) (only x') (only y)) (gain_at g x e)))
      (λ e. inl (M.part (within₄ (λ a e e' f. (a && not e) || f) (λ a e e' f. (((a && not e) && not e') || f) || e') tt A (only x) (only x') (only y)) (gain_at g x' e)))
      (or_cases (eqb z x) (eqb z x') (follows₄ (λ a e e' f. a && not (((a && not e) && not e') || f)) (λ a e e' f. e || e') tt (A z) (eqb z x) (eqb z x') (eqb z y) (both (A z) _ g.there g.fresh)))

  -- where z joins A, and y can only take the place of x, both can be done
  pub swap_and_join : (A : Set) (x y z : ℕ) → x < m → y < m → z < m → T (A x) → Fits M A z → Swaps M A x y → ¬ M.Indep (with A y) → M.Indep (with (without (with A z) x) y)
  swap_and_join A x y z lx ly lz ax joins swaps d =
      let s = size_without m A x lx ax in
      let t = size_with m (without A x) y ly (without_out A x y swaps.0) in
      let u = size_with m A z lz joins.0 in
      let g = M.gain swaps.1 joins.1 (omega arith) in
      let w = g.at in
      ⊎_elim
      (λ e. absurd (d (M.part (within₃ (λ a e f. a || f) (λ a e f. ((a && not e) || f) || e) tt A (only x) (only y)) (gain_at g x e))))
      (λ e. M.part (within₄ (λ a e f h. ((a || h) && not e) || f) (λ a e f h. ((a && not e) || f) || h) tt A (only x) (only y) (only z)) (gain_at g z e))
      (or_cases (eqb w x) (eqb w z) (follows₄ (λ a e f h. (a || h) && not ((a && not e) || f)) (λ a e f h. e || h) tt (A w) (eqb w x) (eqb w y) (eqb w z) (both (A w || eqb w z) _ g.there g.fresh)))

  -- z joins A: what could take the place of x still can
  pub swaps_with : (A : Set) (x y z : ℕ) → x < m → y < m → z < m → y ≢ z → T (A x) → Fits M A z → ¬ Fits M A y → Swaps M A x y → Swaps M (with A z) x y
  swaps_with A x y z lx ly lz d ax joins stays swaps = (
    follows₂ (λ a e. not a && not e) (λ a e. not (a || e)) tt (A y) (eqb y z) (both (not (A y)) (not (eqb y z)) swaps.0 (ne→eqb y z d)),
    swap_and_join A x y z lx ly lz ax joins swaps (λ i. stays (swaps.0, i)),
  )

  -- and nothing else can
  pub with_swaps : (A : Set) (x y z : ℕ) → Swaps M (with A z) x y → Swaps M A x y
  with_swaps A x y z s = (with_out A z y s.0, M.part (swap_mono x y (with_old A z)) s.1)

  -- w leaves A: what could take the place of x still can
  pub swaps_without : (A : Set) (x y w : ℕ) → Swaps M A x y → Swaps M (without A w) x y
  swaps_without A x y w s = (without_out A w y s.0, M.part (swap_mono x y (without_old A w)) s.1)

  -- what is new to A without w, and is not w, is new to A
  still_new : (A : Set) (w y : ℕ) → y ≢ w → T (not (without A w y)) → T (not (A y))
  still_new A w y d o = follows₂ (λ a e. not (a && not e) && not e) (λ a e. not a) tt (A y) (eqb y w) (both (not (without A w y)) (not (eqb y w)) o (ne→eqb y w d))

  -- and nothing else can that could not take the place of w
  pub without_swaps : (A : Set) (x y w : ℕ) → x < m → y < m → w < m → x ≢ w → y ≢ w → M.Indep A → T (A x) → (T (A w) → ¬ Swaps M A w y) → Swaps M (without A w) x y → Swaps M A x y
  without_swaps A x y w lx ly lw dx dy i ax stays s = (still_new A w y dy s.0, go (decide_T (A w)))
    where
      go : T (A w) ⊎ T (not (A w)) → M.Indep (with (without A x) y)
      go (inl aw) = ⊎_elim (λ j. absurd (stays aw (still_new A w y dy s.0, j))) (λ j. j) (swap_one A w x y lw lx ly (λ e. dx (sym e)) aw ax (still_new A w y dy s.0) i s.1)
      go (inr aw) = M.part (swap_mono {A = A} x y (without_other w within_refl aw)) s.1

  -- to take the place of w is to join what is left without it
  pub swaps_fits : (A : Set) (w y : ℕ) → Swaps M A w y → Fits M (without A w) y
  swaps_fits A w y s = (without_out A w y s.0, s.1)

  pub fits_swaps : (A : Set) (w y : ℕ) → y ≢ w → Fits M (without A w) y → Swaps M A w y
  fits_swaps A w y d f = (still_new A w y d f.0, f.1)

-- a member of A outside X whose place g can take
pub record Circuit {m : ℕ} (M : Matroid m) (A X : Set) (g : ℕ) : Type 0 where
  pub at : ℕ
  pub below : at < m
  pub there : T (A at)
  pub fresh : T (not (X at))
  pub swaps : Swaps M A at g

-- A is independent, g is new to it and can join the part X of it, but not A itself.
module _ {m : ℕ} (M : Matroid m) (A X : Set) (g : ℕ) (indep : M.Indep A) (within : Within m X A) (below : g < m) (new : T (not (A g))) (joins : M.Indep (with X g)) (stays : ¬ M.Indep (with A g)) where
  -- an independent set from X + g to A + g, as large as A, lacks one member x of A: it is A - x + g
  lacking : (Y : Extension M (with X g) A) (x : Extra m Y.set (with A g)) → T (A x.at) → Circuit M A X g
  lacking Y x there =
      let z = x.at in
      let full = Y.full in
      let fewer = size_without m A z x.below there in
      let again = size_with m (without A z) g below (without_out A z g new) in
      let inside : Within m Y.set (with A g) = within_trans Y.new (union_least (with_mono g within) (with_old A g)) in
      let placed : Within m Y.set (with (without A z) g) = within_trans (without_other z inside x.fresh) (within₃ (λ a e f. (a || f) && not e) (λ a e f. (a && not e) || f) tt A (only z) (only g)) in
      record {
        at = z;
        below = x.below;
        there = there;
        fresh = within_out (within_trans (with_old X g) Y.old) z x.below x.fresh;
        swaps = (new, M.part (size_full placed (omega arith)) Y.indep);
      }

  -- then g can take the place of a member of A outside X
  pub circuit : Circuit M A X g
  circuit = go (dec_lt (size m X) (size m A))
    where
      go : Dec (size m X < size m A) → Circuit M A X g
      go (no s) = absurd (stays (M.part (with_mono g (size_full within (omega arith))) joins))
      go (yes s) =
          let grown = size_with m X g below (within_out within g below new) in
          let Y = extend M joins indep (omega arith) in
          let full = Y.full in
          let more = size_with m A g below new in
          let x = size_extra m Y.set (with A g) (omega arith) in
          lacking Y x (⊎_elim (λ a. a) (λ e. absurd (differ Y.set (Y.old.at g below (with_new X g)) x.fresh (sym e))) (with_cases A g x.at x.there))
