-- What the iterators over a text give.
use Rattle.std.specs.Prelude.{◌≡◌, ◌==◌, ◌<◌, ◌≤◌, ◌+◌, ◌-◌, ◌*◌, ◌&&◌, ℕ, List, [], drop, length, nat_le, slice_index, Option, MatchOption, if◌then◌else◌}
use Rattle.std.specs.List.{after_first, before_first, prefix_len}
use Rattle.std.specs.Borrow.{Bor}
use Rattle.lines.specs.declared.pieces.Pieces.{Pieces}
use Rattle.lines.specs.declared.bytes.Bytes.{Bytes}

-- A piece ends before the first byte that ends one, and the next begins after it; there is none at the end.
abbrev pub GivesPiece : Pieces → Option (Bor (List ℕ)) → Pieces → Type 0
GivesPiece old r new = MatchOption r (old.rest.now ≡ []) (λ piece.
    (piece.now ≡ before_first (λ b. b == old.end) old.rest.now) × (new.rest.now ≡ after_first (λ b. b == old.end) old.rest.now) × (new.end ≡ old.end))

-- The value of a hexadecimal digit in either case, and 16 for another byte.
abbrev pub digit_of : ℕ → ℕ
digit_of b = if nat_le 48 b && nat_le b 57 then b - 48 else (if nat_le 97 b && nat_le b 102 then b - 87 else (if nat_le 65 b && nat_le b 70 then b - 55 else 16))

-- Two digits stand at the start of a text and write a byte, and what is left stands after them.
abbrev pub Pair : List ℕ → ℕ → List ℕ → Type 0
Pair text byte left = (2 ≤ length text) × (digit_of (slice_index text 0) < 16) × (digit_of (slice_index text 1) < 16)
    × (byte ≡ digit_of (slice_index text 0) * 16 + digit_of (slice_index text 1)) × (left ≡ drop 2 text)

-- No two digits stand there.
abbrev pub NoPair : List ℕ → Type 0
NoPair text = 2 ≤ length text → digit_of (slice_index text 0) < 16 → digit_of (slice_index text 1) ≡ 16

-- A byte stands as two digits after the spaces, and the next after those; there is none where no two digits stand.
abbrev pub GivesByte : Bytes → Option ℕ → Bytes → Type 0
GivesByte old r new = let text = drop (prefix_len (λ b. b == 32) old.rest.now) old.rest.now in MatchOption r (NoPair text) (λ byte. Pair text byte new.rest.now)
