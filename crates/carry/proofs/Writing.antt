-- What is written in a row is written in its team.
use Prim.Native.Nat.{ℕ, zero, suc, ◌+◌, ◌*◌, ◌≤◌, ◌<◌}
use mathlib.Core.Path.{◌≡◌, refl, sym, ap, ◌∙◌}
use mathlib.Core.List.{List, [], ◌∷◌, ◌++◌}
use native.Mathlib.Omega.{arith}
use lib.ListN.{length, get_or, take, drop, set}
use lib.Seq.{get_or-set_other, set_out}
use Rattle.command.specs.declared.Command.TheVariants.{Class, Days}
use Rattle.row.specs.Row.{part, row_team}
use Rattle.row.proofs.Parts.{part_length, part_at_lem, part_is, part_set, part_before, part_after, put, put_length, put_part, put_before}
use Rattle.carry.specs.Carry.{named_team, changed_team}

-- ---- a byte in each of several tables

-- a byte written for entry i in one table after another, from an offset on, where each table has so many entries
abbrev stores : List ℕ → (wide at i : ℕ) → List ℕ → List ℕ
stores l wide at i [] = l
stores l wide at i (v ∷ vs) = stores (set l (at + i) v) wide (at + wide) i vs

-- what lies before the tables stays
stores_low : (l : List ℕ) (wide at i : ℕ) (vs : List ℕ) (k d : ℕ) → k < at → get_or (stores l wide at i vs) k d ≡ get_or l k d
stores_low l wide at i [] k d b = refl
stores_low l wide at i (v ∷ vs) k d b = stores_low (set l (at + i) v) wide (at + wide) i vs k d (omega arith) ∙ get_or-set_other l (at + i) k v d (omega arith)

stores_before : (l : List ℕ) (wide at i : ℕ) (vs : List ℕ) (from many : ℕ) → from + many ≤ at → part (stores l wide at i vs) from many ≡ part l from many
stores_before l wide at i [] from many b = refl
stores_before l wide at i (v ∷ vs) from many b = stores_before (set l (at + i) v) wide (at + wide) i vs from many (omega arith) ∙ part_after l from many (at + i) v (omega arith)

-- what lies after the tables stays
stores_after : (l : List ℕ) (at i : ℕ) (vs : List ℕ) (from many : ℕ) → i < 64 → at + 64 * length vs ≤ from → part (stores l 64 at i vs) from many ≡ part l from many
stores_after l at i [] from many b far = refl
stores_after l at i (v ∷ vs) from many b far = stores_after (set l (at + i) v) (at + 64) i vs from many b (omega arith) ∙ part_before l from many (at + i) v (omega arith)

-- each table has its byte at i
stores_table : (l : List ℕ) (at i : ℕ) (vs : List ℕ) (k : ℕ) → i < 64 → k < length vs → part (stores l 64 at i vs) (at + 64 * k) 64 ≡ set (part l (at + 64 * k) 64) i (get_or vs k 0)
stores_table l at i [] k b fits = absurd (omega arith)
stores_table l at i (v ∷ vs) zero b fits = let e : at + 64 * 0 ≡ at = omega arith in rw e (stores_before (set l (at + i) v) 64 (at + 64) i vs at 64 (omega arith) ∙ part_set l at 64 i v b)
stores_table l at i (v ∷ vs) (suc k) b fits =
    let e : at + 64 * suc k ≡ at + 64 + 64 * k = omega arith in
    rw e (stores_table (set l (at + i) v) (at + 64) i vs k b (omega arith)
    ∙ ap (λ (x : List ℕ). set x i (get_or vs k 0)) (part_before l (at + 64 + 64 * k) 64 (at + i) v (omega arith)))

module _ (row : List ℕ) (i : ℕ) where
  -- a cap that is written in a row is written in the team
  pub row_cap : (v : ℕ) → i < 16 → row_team (set row (2 + i) v) ≡ changed_team 0 (row_team row) (Class i v)
  unfolding row_team changed_team
  row_cap v b =
      let table : (at many : ℕ) → 18 ≤ at → part (set row (2 + i) v) at many ≡ part row at many = λ at many low. part_before row at many (2 + i) v (omega arith) in
      λ j. record {
        kind = get_or-set_other row (2 + i) 0 v 0 (omega arith) j;
        channels = get_or-set_other row (2 + i) 1 v 0 (omega arith) j;
        cap = part_set row 2 16 i v b j;
        named = table 18 64 (omega arith) j;
        first = table 82 64 (omega arith) j;
        second = table 146 64 (omega arith) j;
        third = table 210 64 (omega arith) j;
        fourth = table 274 64 (omega arith) j;
        days = table 338 5 (omega arith) j;
      }

  -- a command's byte and operands that are written in the five tables of a row are written in the team's
  pub row_named : (command a b c d : ℕ) → i < 64 → row_team (stores row 64 18 i (command ∷ a ∷ b ∷ c ∷ d ∷ [])) ≡ named_team (row_team row) i command a b c d
  unfolding row_team
  row_named command a b c d l =
      let vs = command ∷ a ∷ b ∷ c ∷ d ∷ [] in
      λ j. record {
        kind = stores_low row 64 18 i vs 0 0 (omega arith) j;
        channels = stores_low row 64 18 i vs 1 0 (omega arith) j;
        cap = stores_before row 64 18 i vs 2 16 (omega arith) j;
        named = stores_table row 18 i vs 0 l (omega arith) j;
        first = stores_table row 18 i vs 1 l (omega arith) j;
        second = stores_table row 18 i vs 2 l (omega arith) j;
        third = stores_table row 18 i vs 3 l (omega arith) j;
        fourth = stores_table row 18 i vs 4 l (omega arith) j;
        days = stores_after row 18 i vs 338 5 l (omega arith) j;
      }

module _ (row : List ℕ) (long : length row ≡ 343) where
  -- a command's byte and operands that are written at the end of a row are the team's days
  pub row_days : (ys : List ℕ) (a b c d : ℕ) → ys ≡ 11 ∷ a ∷ b ∷ c ∷ d ∷ [] → row_team (take 338 row ++ (ys ++ drop 5 (drop 338 row))) ≡ changed_team 0 (row_team row) (Days a b c d)
  unfolding row_team changed_team
  row_days ys a b c d is =
      let fits : 338 + 5 ≤ length row = omega arith in
      let five : length ys ≡ 5 = ap length is in
      let wide = put_length row 338 5 fits ys five in
      let row' = put row 338 5 fits ys five in
      let table : (at many : ℕ) → at + many ≤ 338 → part row' at many ≡ part row at many =
      λ at many low.
      part_is row at many (part row' at many) (omega arith) (part_length row' at many (omega (arith, wide))) (λ i b. part_at_lem row' at many i 0 b ∙ put_before row 338 5 fits ys five (at + i) 0 (omega arith)) in
      λ j. record {
        kind = put_before row 338 5 fits ys five 0 0 (omega arith) j;
        channels = put_before row 338 5 fits ys five 1 0 (omega arith) j;
        cap = table 2 16 (omega arith) j;
        named = table 18 64 (omega arith) j;
        first = table 82 64 (omega arith) j;
        second = table 146 64 (omega arith) j;
        third = table 210 64 (omega arith) j;
        fourth = table 274 64 (omega arith) j;
        days = (put_part row 338 5 fits ys five ∙ is) j;
      }

-- an operand past the end of its table changes nothing
module _ (row : List ℕ) (long : length row ≡ 343) (i : ℕ) where
  past : (at many : ℕ) (w : ℕ) → at + many ≤ 343 → many ≤ i → part row at many ≡ set (part row at many) i w
  past at many w fits b = sym (set_out (part row at many) i w (omega (arith, part_length row at many (omega arith))))

  pub cap_past : (v : ℕ) → 16 ≤ i → row_team row ≡ changed_team 0 (row_team row) (Class i v)
  unfolding row_team changed_team
  cap_past v b = λ j. record {
    kind = get_or row 0 0;
    channels = get_or row 1 0;
    cap = past 2 16 v (omega arith) b j;
    named = part row 18 64;
    first = part row 82 64;
    second = part row 146 64;
    third = part row 210 64;
    fourth = part row 274 64;
    days = part row 338 5;
  }

  pub named_out : (command a b c d : ℕ) → 64 ≤ i → row_team row ≡ named_team (row_team row) i command a b c d
  unfolding row_team
  named_out command a b c d l = λ j. record {
    kind = get_or row 0 0;
    channels = get_or row 1 0;
    cap = part row 2 16;
    named = past 18 64 command (omega arith) l j;
    first = past 82 64 a (omega arith) l j;
    second = past 146 64 b (omega arith) l j;
    third = past 210 64 c (omega arith) l j;
    fourth = past 274 64 d (omega arith) l j;
    days = part row 338 5;
  }
