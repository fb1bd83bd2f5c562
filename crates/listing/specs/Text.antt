-- The words and numbers of a listing, in ASCII.
use Rattle.std.specs.Prelude.{ℕ, zero, suc, ◌+◌, ◌/◌, ◌%◌, cond, List, [], ◌∷◌, ◌++◌, ltb}

-- the last k digits of n, without zeros in front: those before the last, where n has more than one, and the last
unfoldable pub digits : (k n : ℕ) → List ℕ
digits zero n = []
digits (suc k) n = cond (ltb n 10) [] (digits k (n / 10)) ++ ((48 + n % 10) ∷ [])

-- a number below 2^64 in decimal: it has at most 20 digits
abbrev pub decimal : ℕ → List ℕ
decimal n = digits 20 n

-- a space, and a line feed
abbrev pub space : List ℕ
space = 32 ∷ []

abbrev pub line_feed : List ℕ
line_feed = 10 ∷ []

-- `TOTAL `
abbrev pub total_word : List ℕ
total_word = 84 ∷ 79 ∷ 84 ∷ 65 ∷ 76 ∷ 32 ∷ []

-- `TEAM `
abbrev pub team_word : List ℕ
team_word = 84 ∷ 69 ∷ 65 ∷ 77 ∷ 32 ∷ []

-- ` SHARE `
abbrev pub share_word : List ℕ
share_word = 32 ∷ 83 ∷ 72 ∷ 65 ∷ 82 ∷ 69 ∷ 32 ∷ []

-- ` HOLDS`
abbrev pub holds_word : List ℕ
holds_word = 32 ∷ 72 ∷ 79 ∷ 76 ∷ 68 ∷ 83 ∷ []

-- `POOL`
abbrev pub pool_word : List ℕ
pool_word = 80 ∷ 79 ∷ 79 ∷ 76 ∷ []

-- `REFUSED `
abbrev pub refused_word : List ℕ
refused_word = 82 ∷ 69 ∷ 70 ∷ 85 ∷ 83 ∷ 69 ∷ 68 ∷ 32 ∷ []

-- a word and a number
unfoldable pub field : (word : List ℕ) → (n : ℕ) → List ℕ
field word n = word ++ decimal n
