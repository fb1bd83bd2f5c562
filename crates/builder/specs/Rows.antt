-- Rows of bytes in a buffer.
use Rattle.std.specs.Prelude.{ℕ, ◌+◌, ◌-◌, ◌*◌, ◌/◌, ◌%◌, ◌^◌, ◌≤◌, ◌<◌, ◌≡◌, cond, ◌⊎◌, List, eqb, ltb, length, get_or}
use Rattle.engine.specs.declared.divide.Division.{Division}
use Rattle.engine.specs.declared.share.Shared.{Shared}
use Rattle.engine.specs.Divide.{no_share}
use Rattle.sheet.specs.Layout.{length_of, bound_start, page_length, share_start}

-- len bytes at an offset are written, byte k as f says, and every other byte is as before
pub record Row (before after : List ℕ) (at len : ℕ) (f : ℕ → ℕ) : Type 0 where
  pub long : length after ≡ length before
  pub inside : (k : ℕ) → k < len → get_or after (at + k) 0 ≡ f k
  pub outside : (i : ℕ) → (i < at) ⊎ (at + len ≤ i) → get_or after i 0 ≡ get_or before i 0

-- three bytes
abbrev pub three : (a b c k : ℕ) → ℕ
three a b c k = cond (eqb k 0) a (cond (eqb k 1) b c)

-- the bytes of a set, low byte first
unfoldable pub set_bytes : (set k : ℕ) → ℕ
set_bytes set k = set / 256 ^ k % 256

-- commands of three bytes, one for each instrument: the command's byte, the instrument, and what the table names
unfoldable pub row_bytes : ℕ → List ℕ → ℕ → ℕ
row_bytes byte table k = three byte (k / 3) (get_or table (k / 3) 0) (k % 3)

-- one row after another: the first has len bytes
abbrev pub join : ℕ → (ℕ → ℕ) → (ℕ → ℕ) → ℕ → ℕ
join len f g k = cond (ltb k len) (f k) (g (k - len))

-- a team's SHARE and its PARTs
unfoldable pub page_bytes : (t : ℕ) → Shared → ℕ → ℕ
page_bytes t one = join 3 (three 20 t one.share) (join 8 (set_bytes one.bound) (row_bytes 21 one.part))

-- the pages of the teams below n are written, and every byte before or after them is as before
pub record PagesRow (before after : List ℕ) (m n : ℕ) (shares : List Shared) : Type 0 where
  pub long : length after ≡ length before
  pub inside : (t : ℕ) → t < n → (k : ℕ) → k < page_length m → get_or after (share_start m t + k) 0 ≡ page_bytes t (get_or shares t no_share) k
  pub outside : (i : ℕ) → (i < share_start m 0) ⊎ (share_start m n ≤ i) → get_or after i 0 ≡ get_or before i 0

-- the first L bytes are the sheet of a division, and every byte after them is as before
pub record Written (before after : List ℕ) (m n total : ℕ) (d : Division) : Type 0 where
  pub long : length after ≡ length before
  pub head : (k : ℕ) → k < 3 → get_or after k 0 ≡ three 17 m n k
  pub stated : get_or after 3 0 ≡ total
  pub gives : (k : ℕ) → k < 3 * m → get_or after (4 + k) 0 ≡ row_bytes 18 d.holding.owner k
  pub bound : get_or after (bound_start m) 0 ≡ 19
  pub set : (k : ℕ) → k < 8 → get_or after (bound_start m + 1 + k) 0 ≡ set_bytes d.bound k
  pub pages : (t : ℕ) → t < n → (k : ℕ) → k < page_length m → get_or after (share_start m t + k) 0 ≡ page_bytes t (get_or d.shares t no_share) k
  pub end : get_or after (share_start m n) 0 ≡ 22
  pub rest : (i : ℕ) → length_of m n ≤ i → get_or after i 0 ≡ get_or before i 0
