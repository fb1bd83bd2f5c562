-- A text in a lent buffer, by Build's rule for its own: a buffer shorter than the text is 10, place the text's length. Otherwise the first bytes
-- become the text, the rest stays, and the answer is the text's length.
use Rattle.std.specs.Prelude.{ℕ, cond, List, ◌++◌, ltb, length, drop, Ok}
use Rattle.command.specs.Refusal.{refuse}
use Rattle.builder.specs.Build.{Built}

-- the answer
unfoldable pub text_answer : (text buffer : List ℕ) → Built
text_answer text buffer = cond (ltb (length buffer) (length text)) (refuse 10 (length text)) (Ok (length text))

-- and what the buffer then holds
unfoldable pub text_in : (text buffer : List ℕ) → List ℕ
text_in text buffer = cond (ltb (length buffer) (length text)) buffer (text ++ drop (length text) buffer)
