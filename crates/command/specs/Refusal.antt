-- "A refusal answers its number and place; unless said otherwise, every other part of the answer is then 0." (document 01)
use Rattle.std.specs.Prelude.{ℕ, Ok, Err, Result}
use Rattle.command.specs.declared.refusal.Refusal.{Refusal}

-- the refusal of a number, at a place
abbrev pub refuse : {X : Type 0} → (number place : ℕ) → Result X Refusal
refuse number place = Err (record { number = number; place = place })

-- the paper's number of an answer: a refusal's own, and 0 where nothing is refused
abbrev pub number_of : {X : Type 0} → Result X Refusal → ℕ
number_of (Ok x) = 0
number_of (Err e) = e.number

-- the place of a refusal, and 0 where nothing is refused
abbrev pub place_of : {X : Type 0} → Result X Refusal → ℕ
place_of (Ok x) = 0
place_of (Err e) = e.place

-- the number that is answered, and 0 after a refusal
abbrev pub value_of : Result ℕ Refusal → ℕ
value_of (Ok x) = x
value_of (Err e) = 0
