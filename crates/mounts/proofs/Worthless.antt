-- What note 1 says of single instruments: "No FIT, or one with no bits, makes an instrument worthless there", and a mount holds one.
use Prim.Native.Nat.{ℕ, ◌<◌}
use mathlib.Core.Path.{◌≡◌, sym, ◌∙◌, subst}
use mathlib.Core.Bool.{not}
use mathlib.Core.Logic.{◌≢◌}
use mathlib.Core.List.{List}
use lib.Dec.{T, eqb}
use lib.ListN.{get_or}
use borrow.Author.Tests.{eq-eqb}
use Rattle.matroid.specs.Taut.{and_right}
use Rattle.matroid.specs.Set.{Set}
use Rattle.sets.specs.Bits.{bit}
use Rattle.sets.proofs.Below.{bit_none}
use Rattle.mounts.specs.Mounts.{fits_of}
use Rattle.mounts.specs.Transversal.{mounts_of, transversal}

module _ (m : ℕ) (named first second third fourth : List ℕ) (A : Set) (g : ℕ) (below : g < m) (member : T (A g)) where
  -- no independent set has an instrument without a FIT
  pub no_fit : get_or named g 255 ≡ 255 → (mounts_of m named first second third fourth).Indep A → ⊥
  unfolding transversal
  no_fit e M = let t : T (fits_of named first second third fourth g (M.mount g)) = M.fit g below member in rw (eq-eqb (get_or named g 255) 255 e) at t

  -- nor one whose FIT has no bits
  pub no_bits : get_or first g 0 ≡ 0 → get_or second g 0 ≡ 0 → get_or third g 0 ≡ 0 → get_or fourth g 0 ≡ 0 → (mounts_of m named first second third fourth).Indep A → ⊥
  unfolding transversal
  no_bits a b c d M =
      let t : T (fits_of named first second third fourth g (M.mount g)) = M.fit g below member in
      subst T (bit_none (M.mount g)) (and_right (not (eqb (get_or named g 255) 255)) (bit 0 (M.mount g)) (rw (a, b, c, d) at t))

  -- two instruments that fit one mount alone are in no independent set together
  pub one_mount : (h c : ℕ) → h < m → T (A h) → g ≢ h → ((k : ℕ) → T (fits_of named first second third fourth g k) → k ≡ c) → ((k : ℕ) → T (fits_of named first second third fourth h k) → k ≡ c)
      → (mounts_of m named first second third fourth).Indep A → ⊥
  unfolding transversal
  one_mount h c l a other only-g only-h M = other (M.differ g h below l member a (only-g _ (M.fit g below member) ∙ sym (only-h _ (M.fit h l a))))
