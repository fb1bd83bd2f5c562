-- Tables of twelve numbers, one for each team, and the shortfall by them, where one number changes.
use Prim.Native.Nat.{ℕ, ◌+◌, ◌-◌, ◌≤◌, ◌<◌, min}
use mathlib.Core.Path.{◌≡◌, refl, sym, ◌∙◌}
use mathlib.Core.Bool.{cond}
use mathlib.Core.List.{List}
use native.Mathlib.Omega.{arith}
use native.Mathlib.Decide.{ℕ_discrete, dec_lt}
use lib.Dec.{ltb}
use lib.ListN.{length, get_or, set, length-set}
use lib.Seq.{get_or-set_same, get_or-set_other, ext_get_or}
use borrow.Author.Tests.{lt-ltb, le-ltb}
use Rattle.matroid.specs.Set.{one}
use Rattle.matroid.specs.Shortfall.{shortfall}
use Rattle.matroid.proofs.Change.{OnlyAt}
use Rattle.matroid.proofs.Shortfalls.{shortfall_raise, shortfall_lower, shortfall_keep}
use Rattle.sets.proofs.Each.{each_length, each_at}
use Rattle.holding.specs.Count.{table}

table_long : (n : ℕ) (f : ℕ → ℕ) → length (table n f) ≡ 12
unfolding table
table_long n f = each_length (λ t. cond (ltb t n) (f t) 0) 12

-- below n the table has the numbers
pub table_at : (n : ℕ) (f : ℕ → ℕ) (t : ℕ) → t < n → t < 12 → get_or (table n f) t 0 ≡ f t
unfolding table
table_at n f t l b = each_at (λ t. cond (ltb t n) (f t) 0) 0 12 t b ∙ rw (lt-ltb t n l) refl

-- and 0 from there on
table_rest : (n : ℕ) (f : ℕ → ℕ) (t : ℕ) → n ≤ t → t < 12 → get_or (table n f) t 0 ≡ 0
unfolding table
table_rest n f t l b = each_at (λ t. cond (ltb t n) (f t) 0) 0 12 t b ∙ rw (le-ltb t n l) refl

-- a list of twelve that has the numbers below n, and 0 from there on, is the table
pub table_is : (n : ℕ) (f : ℕ → ℕ) (row : List ℕ) → length row ≡ 12 → ((t : ℕ) → t < n → t < 12 → get_or row t 0 ≡ f t) → ((t : ℕ) → n ≤ t → t < 12 → get_or row t 0 ≡ 0) → row ≡ table n f
table_is n f row long at rest = ext_get_or 0 row (table n f) (long ∙ sym (table_long n f)) (λ t l. go t (omega arith) (dec_lt t n))
  where
    go : (t : ℕ) → t < 12 → Dec (t < n) → get_or row t 0 ≡ get_or (table n f) t 0
    go t b (yes l) = at t l b ∙ sym (table_at n f t l b)
    go t b (no d) = rest t (omega arith) b ∙ sym (table_rest n f t (omega arith) b)

-- tables of the same numbers are the same
pub table_same : (n : ℕ) (f g : ℕ → ℕ) → ((t : ℕ) → t < min n 12 → f t ≡ g t) → table n f ≡ table n g
table_same n f g same = table_is n g (table n f) (table_long n f) (λ t l b. table_at n f t l b ∙ same t (omega arith)) (table_rest n f)

-- The number of team t changes, from f to f'.
module _ (n : ℕ) (σ f f' : ℕ → ℕ) (t : ℕ) (l : t < n) (b : t < 12) (same : OnlyAt (min n 12) f f' t) where
  -- so does the table, there alone
  table_set : (x : ℕ) → x ≡ f' t → set (table n f) t x ≡ table n f'
  table_set x is = table_is n f' (set (table n f) t x) (length-set (table n f) t x ∙ table_long n f) (λ u lu bu. at u lu bu (ℕ_discrete u t))
      (λ u lu bu. get_or-set_other (table n f) t u x 0 (omega arith) ∙ table_rest n f u lu bu)
    where
      at : (u : ℕ) → u < n → u < 12 → Dec (u ≡ t) → get_or (set (table n f) t x) u 0 ≡ f' u
      at u lu bu (yes e) = let long = table_long n f in rw e (get_or-set_same (table n f) t x 0 (omega arith) ∙ is)
      at u lu bu (no d) = get_or-set_other (table n f) t u x 0 d ∙ table_at n f u lu bu ∙ same u (omega arith) d

  -- one more
  pub raise_sizes : f' t ≡ f t + 1 → set (table n f) t (get_or (table n f) t 0 + 1) ≡ table n f'
  raise_sizes e = let here = table_at n f t l b in table_set (get_or (table n f) t 0 + 1) (omega arith)

  pub raise_short : f' t ≡ f t + 1 → shortfall (min n 12) σ f - one (ltb (get_or (table n f) t 0) (σ t)) ≡ shortfall (min n 12) σ f'
  raise_short e = rw (table_at n f t l b) (elim (dec_lt (f t) (σ t)) [
    | yes s ↦ rw (lt-ltb (f t) (σ t) s) (let falls = shortfall_raise (min n 12) σ f f' t (omega arith) same e s in omega arith)
    | no d ↦ rw (le-ltb (f t) (σ t) (omega arith)) (let keeps = shortfall_keep (min n 12) σ f f' t (omega arith) same (omega arith) (omega arith) in omega arith)
  ])

  -- one fewer
  pub lower_sizes : f' t + 1 ≡ f t → set (table n f) t (get_or (table n f) t 0 - 1) ≡ table n f'
  lower_sizes e = let here = table_at n f t l b in table_set (get_or (table n f) t 0 - 1) (omega arith)

  pub lower_short : f' t + 1 ≡ f t → shortfall (min n 12) σ f + one (ltb (get_or (table n f) t 0 - 1) (σ t)) ≡ shortfall (min n 12) σ f'
  lower_short e = rw (table_at n f t l b) (elim (dec_lt (f t - 1) (σ t)) [
    | yes s ↦ rw (lt-ltb (f t - 1) (σ t) s) (sym (shortfall_lower (min n 12) σ f f' t (omega arith) same e (omega arith)))
    | no d ↦ rw (le-ltb (f t - 1) (σ t) (omega arith)) (let keeps = shortfall_keep (min n 12) σ f f' t (omega arith) same (omega arith) (omega arith) in omega arith)
  ])
