-- The loop of `counted`: the sizes of the bundles of the first k instruments.
use Prim.Native.Nat.{ℕ, ◌+◌, ◌≤◌, ◌<◌, min}
use mathlib.Core.Path.{◌≡◌, refl, sym, ap, ◌∙◌}
use mathlib.Core.List.{List}
use native.Mathlib.Omega.{arith}
use native.Mathlib.Numerals.{add-one}
use lib.Dec.{eqb}
use lib.ListN.{get_or, set, replicate, get_or-replicate}
use Rattle.matroid.specs.Set.{one}
use Rattle.matroid.specs.SetLaws.{one_eq, one_ne}
use Rattle.matroid.specs.Shortfall.{sizes}
use Rattle.matroid.proofs.Sets.{size_le}
use Rattle.holding.specs.Count.{size_in, sizes_in}
use Rattle.holding.proofs.Tables.{table_at, table_is, table_same, raise_sizes}

-- of no instruments all bundles are empty
pub afresh_none : (n : ℕ) (owner : List ℕ) → ◌≡◌ {A = List ℕ} (replicate 12 0) (sizes_in 0 n owner)
unfolding size_in
afresh_none n owner = table_is n (size_in 0 owner) (replicate 12 0) refl (λ t l b. get_or-replicate {A = ℕ} 12 t 0 0 b) (λ t l b. get_or-replicate {A = ℕ} 12 t 0 0 b)

-- a bundle of the first instruments has at most all of them
pub afresh_small : (k n : ℕ) (owner row : List ℕ) (t : ℕ) → row ≡ sizes_in k n owner → t < min n 12 → get_or row t 0 ≤ 64
unfolding size_in
afresh_small k n owner row t e l =
    let row_at = ap (λ (x : List ℕ). get_or x t 0) e in
    let is = table_at n (size_in k owner) t (omega arith) (omega arith) in
    let most = size_le (min k 64) (λ g. eqb (get_or owner g 255) t) in
    omega arith

-- the bundles of all instruments
pub afresh_all : (m n k : ℕ) (owner : List ℕ) → k ≡ min m 64 → sizes_in k n owner ≡ sizes_in m n owner
unfolding size_in
afresh_all m n k owner e = table_same n (size_in k owner) (size_in m owner) (λ t l. let same : min k 64 ≡ min m 64 = omega arith in ap (λ (x : ℕ). sizes x (λ g. get_or owner g 255) t) same)

module _ (n k : ℕ) (owner : List ℕ) (l : k < 64) where
  -- one instrument more is with its holder
  more : (t : ℕ) → size_in (k + 1) owner t ≡ size_in k owner t + one (eqb (get_or owner k 255) t)
  unfolding size_in
  more t =
      let upper : min (k + 1) 64 ≡ k + 1 = omega arith in
      let lower : k ≡ min k 64 = omega arith in
      ap (λ (x : ℕ). sizes x (λ g. get_or owner g 255) t) (upper ∙ add-one k) ∙ ap (λ (x : ℕ). sizes x (λ g. get_or owner g 255) t + one (eqb (get_or owner k 255) t)) lower

  -- a team
  pub afresh_team : (t : ℕ) (row next : List ℕ) → t ≡ get_or owner k 255 → t < min n 12 → row ≡ sizes_in k n owner → next ≡ set row t (get_or row t 0 + 1) → next ≡ sizes_in (k + 1) n owner
  afresh_team t row next is team e by =
      by ∙ ap (λ (x : List ℕ). set x t (get_or x t 0 + 1)) e
      ∙ raise_sizes n (λ _. 0) (size_in k owner) (size_in (k + 1) owner) t (omega arith) (omega arith)
      (λ u _ d. let m = more u in let z = one_ne (get_or owner k 255) u (λ same. d (sym same ∙ sym is)) in omega arith)
      (let m = more t in let o = one_eq (get_or owner k 255) t (sym is) in omega arith)

  -- or the pool
  pub afresh_pool : (t : ℕ) (row next : List ℕ) → t ≡ get_or owner k 255 → min n 12 ≤ t → row ≡ sizes_in k n owner → next ≡ row → next ≡ sizes_in (k + 1) n owner
  afresh_pool t row next is loose e by = by ∙ e ∙ table_same n (size_in k owner) (size_in (k + 1) owner) (λ u b. let m = more u in let z = one_ne (get_or owner k 255) u (λ same. omega arith) in omega arith)
