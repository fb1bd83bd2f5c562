-- Text put into a buffer from an offset on, as far as the buffer reaches.
use Rattle.std.specs.Prelude.{ℕ, ◌+◌, ◌≡◌, List, [], ◌∷◌, length, set}

-- the buffer after it
unfoldable pub poured : List ℕ → ℕ → List ℕ → List ℕ
poured buffer at [] = buffer
poured buffer at (byte ∷ rest) = poured (set buffer at byte) (at + 1) rest

-- a text is put at an offset, and the next one stands after it
pub record Put (before : List ℕ) (at : ℕ) (text after : List ℕ) (next : ℕ) : Type 0 where
  pub bytes : after ≡ poured before at text
  pub end : next ≡ at + length text
