-- "Two gauges on the same pair are a loop" (document 01).
use Prim.Native.Nat.{ℕ}
use mathlib.Core.Path.{sym, ◌∙◌}
use mathlib.Core.Logic.{◌≢◌}
use lib.Dec.{eqb→eq, eqb_refl}
use Rattle.matroid.specs.Set.{Set, only}
use Rattle.loops.specs.Net.{Net, Link, stay, step, ClosedLoop}
use Rattle.loops.specs.Links.{link_in, link_sym}
use Rattle.loops.specs.Trail.{trail, close}

module _ (N : Net) where
  -- two gauges on the same pair of joints are a loop
  pub parallel_loop : (n : ℕ) (A : Set) (g h : ℕ) {a b : ℕ} → g ≢ h → a ≢ b → Link N n A g a b → Link N n A h a b → ClosedLoop N n A
  parallel_loop n A g h differ apart link-g link-h = close N n n (only g) A h
      (λ k l t. let e = eqb→eq k g t in (l, rw e link-g.member, λ e'. differ (sym e ∙ e')))
      (link_sym N link-h) apart
      (trail N n (only g) (step g (link_in N link-g (link-g.below, eqb_refl g)) stay))
