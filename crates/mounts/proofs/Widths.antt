-- Sets that are mounted below m, and among 64.
use Prim.Native.Nat.{ℕ, ◌≤◌, ◌<◌}
use native.Mathlib.Omega.{arith}
use lib.Dec.{T}
use Rattle.matroid.specs.Set.{Set, Within}
use Rattle.mounts.specs.Mounts.{Mounted}
use Rattle.mounts.specs.Transversal.{mounted_in}

module _ (fits : ℕ → Set) (m : ℕ) where
  -- below m, what is mounted among 64 is mounted
  pub narrower : {A B : Set} → m ≤ 64 → Within m A B → Mounted fits 64 B → Mounted fits m A
  narrower small w M = mounted_in M (λ g l a. (omega arith, w.at g l a, M.fit g (omega arith) (w.at g l a)))

  -- where all members are below m, what is mounted below m is mounted among 64
  pub wider : {A B : Set} → ((g : ℕ) → T (A g) → (g < m) × T (B g)) → Mounted fits m B → Mounted fits 64 A
  wider into M = mounted_in M (λ g _ a. let (l, b) = into g a in (l, b, M.fit g l b))
