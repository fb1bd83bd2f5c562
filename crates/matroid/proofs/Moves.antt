-- What a hand-over does to the bundles.
use Prim.Native.Nat.{ℕ}
use mathlib.Core.Path.{◌≡◌, sym, ◌∙◌, fun_ext}
use mathlib.Core.Bool.{Bool, true, false, ◌&&◌, ◌||◌, not, cond, or-true, or-false, and-true, and-false}
use mathlib.Core.Logic.{◌≢◌}
use lib.Dec.{eqb}
use Rattle.matroid.specs.Taut.{T→true, T→false}
use Rattle.matroid.specs.Set.{with, without}
use Rattle.matroid.specs.SetLaws.{eq→eqb, ne→eqb}
use Rattle.matroid.specs.Division.{bundle, move}

-- who is given g has one more, and anyone else has what they had, without g
pub bundle_gains : (D : ℕ → ℕ) (g i t : ℕ) → i ≡ t → bundle (move D g i) t ≡ with (bundle D t) g
bundle_gains D g i t e = fun_ext (λ k. go k (eqb k g))
  where
    go : (k : ℕ) (b : Bool) → eqb (cond b i (D k)) t ≡ (eqb (D k) t || b)
    go k true = T→true (eqb i t) (eq→eqb i t e) ∙ sym (or-true (eqb (D k) t))
    go k false = sym (or-false (eqb (D k) t))

pub bundle_loses : (D : ℕ → ℕ) (g i t : ℕ) → i ≢ t → bundle (move D g i) t ≡ without (bundle D t) g
bundle_loses D g i t d = fun_ext (λ k. go k (eqb k g))
  where
    go : (k : ℕ) (b : Bool) → eqb (cond b i (D k)) t ≡ (eqb (D k) t && not b)
    go k true = T→false (eqb i t) (ne→eqb i t d) ∙ sym (and-false (eqb (D k) t))
    go k false = sym (and-true (eqb (D k) t))
