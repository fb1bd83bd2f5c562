-- Whether a command stands at an entry of a part, by its byte in the row.
use Prim.Native.Nat.{ℕ, ◌+◌, ◌≤◌, ◌<◌}
use mathlib.Core.Path.{◌≡◌, sym, ap}
use mathlib.Core.Bool.{false, not}
use mathlib.Core.List.{List}
use native.Mathlib.Omega.{arith}
use lib.Dec.{eqb}
use lib.ListN.{length, get_or}
use Rattle.row.specs.Row.{part}
use Rattle.row.proofs.Parts.{part_read, part_past}
use Rattle.judge.specs.Fault.{named}

module _ (row : List ℕ) (at many i : ℕ) where
  pub named_at : at + many ≤ length row → i < many → not (eqb (get_or row (at + i) 0) 255) ≡ named (part row at many) i
  named_at fits b = ap (λ (x : ℕ). not (eqb x 255)) (part_read row at many i 0 255 fits b)

  pub named_past : many ≤ i → false ≡ named (part row at many) i
  named_past b = sym (ap (λ (x : ℕ). not (eqb x 255)) (part_past row at many i 255 b))

-- the byte of the command that says the days, by its place in the row
pub days_byte : (row : List ℕ) → length row ≡ 343 → get_or (part row 338 5) 0 255 ≡ get_or row 338 0
days_byte row long = sym (part_read row 338 5 0 0 255 (omega arith) (omega arith))
