-- What no other mounts can help.
use Prim.Native.Nat.{ℕ, ◌<◌}
use mathlib.Core.Path.{◌≡◌, refl, sym, ◌∙◌}
use mathlib.Core.Bool.{not}
use mathlib.Core.Logic.{inl, inr}
use native.Mathlib.Omega.{arith}
use lib.Dec.{T}
use Rattle.matroid.specs.Taut.{both, and_left, and_right}
use Rattle.matroid.specs.Set.{Set, ◌∩◌, with, Within}
use Rattle.matroid.specs.SetLaws.{with_cases, inter_left, size_with, size_inject}
use Rattle.matroid.proofs.Sets.{within_out, with_mono}
use Rattle.mounts.specs.Mounts.{mounts, Mounted}
use Rattle.mounts.specs.Transversal.{Used}

module _ (fits : ℕ → Set) (m : ℕ) where
  -- U is a set of mounts in use, and neither h nor any member of A with a mount of U fits another: then A with h cannot be mounted
  pub mounted_blocked : (A : Set) (h : ℕ) (M : Mounted fits m A) (U : Set) → h < m → T (not (A h))
      → ((c : ℕ) → c < mounts → T (U c) → Used fits m M c)
      → ((c : ℕ) → c < mounts → T (fits h c) → T (U c))
      → ((g : ℕ) → g < m → T (A g) → T (U (M.mount g)) → (c : ℕ) → c < mounts → T (fits g c) → T (U c))
      → Mounted fits m (with A h) → ⊥
  mounted_blocked A h M U l out used for-h for_users M' =
      let one_more = size_with m X h l (within_out (inter_left A (λ g. U (M.mount g))) h l out) in
      let into-U = size_inject m mounts (with X h) U (λ g c. M'.mount g ≡ c) to_U one_one in
      let from-U = size_inject mounts m U X (λ c g. M.mount g ≡ c) from_user (λ c c' g l l' v v' e e'. sym e ∙ e') in
      omega arith
    where
      -- the members of A with a mount of U
      X : Set
      X = A ∩ (λ g. U (M.mount g))

      in_A : Within m (with X h) (with A h)
      in_A = with_mono h (inter_left A (λ g. U (M.mount g)))

      fits_U : (g : ℕ) → g < m → T (with X h g) → (c : ℕ) → c < mounts → T (fits g c) → T (U c)
      fits_U g l t = elim (with_cases X h g t) [ inl x ↦ for_users g l (and_left (A g) _ x) (and_right (A g) _ x) | inr e ↦ rw e for-h ]

      to_U : (g : ℕ) → g < m → T (with X h g) → (c : ℕ) × (c < mounts) × (T (U c) × (M'.mount g ≡ c))
      to_U g l t =
          let c = M'.mount g in
          let t' = in_A.at g l t in
          let cl = M'.mount_lt g l t' in
          (c, cl, (fits_U g l t c cl (M'.fit g l t'), refl))

      one_one : (g g' c : ℕ) → g < m → g' < m → T (with X h g) → T (with X h g') → M'.mount g ≡ c → M'.mount g' ≡ c → g ≡ g'
      one_one g g' c l l' t t' e e' = M'.differ g g' l l' (in_A.at g l t) (in_A.at g' l' t') (e ∙ sym e')

      from_user : (c : ℕ) → c < mounts → T (U c) → (g : ℕ) × (g < m) × (T (X g) × (M.mount g ≡ c))
      from_user c l u = let (g, gl, (a, e)) = used c l u in (g, gl, (both (A g) _ a (rw e u), e))
