-- The table of rows that reading fills: one row changed, and the teams of its rows.
use Prim.Native.Nat.{ℕ, ◌+◌, ◌-◌, ◌*◌, ◌≤◌, ◌<◌}
use mathlib.Core.Path.{◌≡◌, refl, sym, ap, ◌∙◌}
use mathlib.Core.List.{List, ◌++◌}
use mathlib.Core.Logic.{◌≢◌}
use native.Mathlib.Omega.{arith}
use native.Mathlib.Decide.{dec_lt}
use lib.ListN.{length, get_or, take, drop}
use Rattle.row.specs.Row.{part, row_team}
use Rattle.row.proofs.Parts.{part_at_lem, part_length, part_is, put, put_length, put_part, put_before, put_after}
use Rattle.plan.specs.Read.{shelf_days}
use Rattle.plan.specs.Progress.{row_at}

-- so many bytes of the table, as the code lends them
pub lent : (rows : List ℕ) (k : ℕ) → take (343 * k + 343 - 343 * k) (drop (343 * k) rows) ≡ part rows (343 * k) 343
unfolding part
lent rows k = let e : 343 * k + 343 - 343 * k ≡ 343 = omega arith in ap (λ (n : ℕ). take n (drop (343 * k) rows)) e

pub lent_length : (rows : List ℕ) (k : ℕ) → length rows ≡ 4802 → k ≤ 13 → length (part rows (343 * k) 343) ≡ 343
lent_length rows k long few = part_length rows (343 * k) 343 (omega arith)

-- the team of a row that is lent
pub row_lent : (rows : List ℕ) (k : ℕ) → row_team (take (343 * k + 343 - 343 * k) (drop (343 * k) rows)) ≡ row_at rows k
unfolding row_at
row_lent rows k = ap row_team (lent rows k)

-- the same of a row in hand
pub given_length : (row rows : List ℕ) (k : ℕ) → row ≡ part rows (343 * k) 343 → length rows ≡ 4802 → k ≤ 13 → length row ≡ 343
given_length row rows k is long few = ap length is ∙ lent_length rows k long few

pub row_given : (row rows : List ℕ) (k : ℕ) → row ≡ part rows (343 * k) 343 → row_team row ≡ row_at rows k
unfolding row_at
row_given row rows k is = ap row_team is

-- the pool's row, which is lent first of all
pub pool_lent : (rows : List ℕ) → row_team (take (343 - 0) (drop 0 rows)) ≡ row_at rows 0
unfolding row_at part
pool_lent rows = refl

-- the shelf days by the pool's
pub shelf_lent : (m : ℕ) (rows : List ℕ) → shelf_days m (row_team (take (343 - 0) (drop 0 rows))) ≡ shelf_days m (row_at rows 0)
shelf_lent m rows = ap (shelf_days m) (pool_lent rows)

-- the teams of the glued instruments, as the code lends them
pub marks_lent : (rows : List ℕ) → length rows ≡ 4802 → take (4541 - 4477) (drop 4477 rows) ≡ (row_at rows 13).named
unfolding row_at row_team part
marks_lent rows long =
    let row = part rows 4459 343 in
    let wide = part_length rows 4459 343 (omega arith) in
    sym (part_is rows 4477 64 (part row 18 64) (omega arith) (part_length row 18 64 (omega arith))
    (λ i b. let e : 4459 + (18 + i) ≡ 4477 + i = omega arith in part_at_lem row 18 64 i 0 b ∙ part_at_lem rows 4459 343 (18 + i) 0 (omega arith) ∙ ap (λ (k : ℕ). get_or rows k 0) e))

-- one row of the table is put back
module _ (rows : List ℕ) (k : ℕ) (long : length rows ≡ 4802) (few : k ≤ 13) (ys : List ℕ) (same : length ys ≡ 343) where
  fits : 343 * k + 343 ≤ length rows
  fits = omega arith

  abbrev rows' : List ℕ
  rows' = put rows (343 * k) 343 fits ys same

  row_put : row_at rows' k ≡ row_team ys
  unfolding row_at
  row_put = ap row_team (put_part rows (343 * k) 343 fits ys same)

  row_kept : (j : ℕ) → j ≤ 13 → j ≢ k → row_at rows' j ≡ row_at rows j
  unfolding row_at
  row_kept j few' other =
      ap row_team (part_is rows (343 * j) 343 (part rows' (343 * j) 343) (omega arith) (part_length rows' (343 * j) 343 (omega (arith, put_length rows (343 * k) 343 fits ys same)))
      (λ i b. part_at_lem rows' (343 * j) 343 i 0 b ∙ apart i b (dec_lt j k)))
    where
      apart : (i : ℕ) → i < 343 → Dec (j < k) → get_or rows' (343 * j + i) 0 ≡ get_or rows (343 * j + i) 0
      apart i b (yes l) = put_before rows (343 * k) 343 fits ys same (343 * j + i) 0 (omega arith)
      apart i b (no l) = put_after rows (343 * k) 343 fits ys same (343 * j + i) 0 (omega arith)

  -- the same, as the code puts it back
  put_back : take (343 * k) rows ++ (ys ++ drop (343 * k + 343 - 343 * k) (drop (343 * k) rows)) ≡ rows'
  put_back = let e : 343 * k + 343 - 343 * k ≡ 343 = omega arith in ap (λ (n : ℕ). take (343 * k) rows ++ (ys ++ drop n (drop (343 * k) rows))) e

  pub put_row : row_at (take (343 * k) rows ++ (ys ++ drop (343 * k + 343 - 343 * k) (drop (343 * k) rows))) k ≡ row_team ys
  put_row = ap (λ (l : List ℕ). row_at l k) put_back ∙ row_put

  pub put_other : (j : ℕ) → j ≤ 13 → j ≢ k → row_at (take (343 * k) rows ++ (ys ++ drop (343 * k + 343 - 343 * k) (drop (343 * k) rows))) j ≡ row_at rows j
  put_other j few' other = ap (λ (l : List ℕ). row_at l j) put_back ∙ row_kept j few' other
