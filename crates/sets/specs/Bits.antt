-- A set of instruments in a 64-bit word: bit k stands for instrument k (document 01, "The sheet").
use Rattle.std.specs.Prelude.{ℕ, zero, suc, ◌+◌, ◌*◌, ◌/◌, ◌%◌, ◌^◌, eqb}
use Rattle.matroid.specs.Set.{Set, one}

-- the set that a word stands for
unfoldable pub bit : ℕ → Set
bit s k = eqb (s / 2 ^ k % 2) 1

-- the word of the members below m of a set
abbrev pub word : ℕ → Set → ℕ
word zero A = 0
word (suc m) A = one (A 0) + 2 * word m (λ k. A (suc k))
