-- The row of a team: filled and read.
use Prim.Native.Nat.{ℕ, ◌+◌, ◌-◌, ◌≤◌, ◌<◌}
use mathlib.Core.Path.{◌≡◌, sym, ap, ◌∙◌}
use mathlib.Core.Logic.{inl, inr}
use mathlib.Core.List.{List, ◌++◌}
use native.Mathlib.Omega.{arith}
use lib.ListN.{length, get_or, take, drop, set, replicate, length-set, length-replicate, get_or-replicate}
use lib.Seq.{get_or-set_same, get_or-set_other}
use Rattle.team.specs.Team.{opened_team}
use Rattle.days.specs.Days.{given}
use Rattle.row.specs.Row.{part, row_team, Filled}
use Rattle.row.specs.Days.{days_of, shelf_of}
use Rattle.row.proofs.Parts.{part_length, part_read, part_all, put, put_length, put_within, put_before, put_after}

-- ---- filling

-- a part of a row that is filled
module _ (row : List ℕ) (from many byte : ℕ) (fits : from + many ≤ length row) (ys : List ℕ) (is : ys ≡ replicate (length (part row from many)) byte) where
  filled : ys ≡ replicate many byte
  filled = is ∙ ap (λ (n : ℕ). replicate n byte) (part_length row from many fits)

  long_ys : length ys ≡ many
  long_ys = ap length filled ∙ length-replicate many byte

  pub filled_part : Filled row from (from + many) byte (take from row ++ (ys ++ drop many (drop from row)))
  filled_part = record {
    long = put_length row from many fits ys long_ys;
    new = λ i d low high.
        let e : from + (i - from) ≡ i = omega arith in
        ap (λ (k : ℕ). get_or (put row from many fits ys long_ys) k d) (sym e) ∙ put_within row from many fits ys long_ys (i - from) d (omega arith)
        ∙ ap (λ (x : List ℕ). get_or x (i - from) d) filled ∙ get_or-replicate many (i - from) byte d (omega arith);
    old = λ i d o. elim o [ inl l ↦ put_before row from many fits ys long_ys i d l | inr l ↦ put_after row from many fits ys long_ys i d l ];
  }

-- ---- a row

-- a row that was filled from its first table on is that of a team just opened
pub row_opened : (row r r' : List ℕ) (kind channels cap : ℕ) → length row ≡ 343 → Filled (set (set row 0 kind) 1 channels) 2 18 cap r → Filled r 18 343 255 r' → row_team r' ≡ opened_team kind channels cap
unfolding row_team
row_opened row r r' kind channels cap long f g =
    let wide = length-set (set row 0 kind) 1 channels ∙ length-set row 0 kind in
    let long' : length r' ≡ 343 = g.long ∙ f.long ∙ wide ∙ long in
    let table : (at many : ℕ) → 18 ≤ at → at + many ≤ 343 → part r' at many ≡ replicate many 255 = λ at many low high. part_all r' at many 255 (omega arith) (λ i b. g.new (at + i) 0 (omega arith) (omega arith)) in
    λ j. record {
      kind = (g.old 0 0 (inl (omega arith)) ∙ f.old 0 0 (inl (omega arith)) ∙ get_or-set_other (set row 0 kind) 1 0 channels 0 (omega arith) ∙ get_or-set_same row 0 kind 0 (omega arith)) j;
      channels = (g.old 1 0 (inl (omega arith)) ∙ f.old 1 0 (inl (omega arith)) ∙ get_or-set_same (set row 0 kind) 1 channels 0 (omega (arith, length-set row 0 kind))) j;
      cap = part_all r' 2 16 cap (omega arith) (λ i b. g.old (2 + i) 0 (inl (omega arith)) ∙ f.new (2 + i) 0 (omega arith) (omega arith)) j;
      named = table 18 64 (omega arith) (omega arith) j;
      first = table 82 64 (omega arith) (omega arith) j;
      second = table 146 64 (omega arith) (omega arith) j;
      third = table 210 64 (omega arith) (omega arith) j;
      fourth = table 274 64 (omega arith) (omega arith) j;
      days = table 338 5 (omega arith) (omega arith) j;
    }

module _ (row : List ℕ) (long : length row ≡ 343) where
  -- the days of a team, by the five bytes at the end of its row
  pub days_read : given (get_or row 338 0) (get_or row 339 0) (get_or row 340 0) (get_or row 341 0) (get_or row 342 0) ≡ days_of (row_team row)
  unfolding row_team
  days_read =
      let byte : (k : ℕ) → k < 5 → get_or row (338 + k) 0 ≡ get_or (part row 338 5) k 255 = λ k b. part_read row 338 5 k 0 255 (omega arith) b in
      λ j. given (byte 0 (omega arith) j) (byte 1 (omega arith) j) (byte 2 (omega arith) j) (byte 3 (omega arith) j) (byte 4 (omega arith) j)

  -- the shelf days of an instrument, by its bytes in the five tables of the pool's row
  pub shelf_read : (i : ℕ) → i < 64 → given (get_or row (18 + i) 0) (get_or row (82 + i) 0) (get_or row (146 + i) 0) (get_or row (210 + i) 0) (get_or row (274 + i) 0) ≡ shelf_of (row_team row) i
  unfolding row_team
  shelf_read i b =
      let byte : (at : ℕ) → at + 64 ≤ 343 → get_or row (at + i) 0 ≡ get_or (part row at 64) i 255 = λ at fits. part_read row at 64 i 0 255 (omega arith) b in
      λ j. given (byte 18 (omega arith) j) (byte 82 (omega arith) j) (byte 146 (omega arith) j) (byte 210 (omega arith) j) (byte 274 (omega arith) j)
