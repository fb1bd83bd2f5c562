-- Laws of a number's digits, which are made from the last one on.
use Prim.Native.Nat.{ℕ, zero, suc, ◌+◌, ◌-◌, ◌/◌, ◌%◌, ◌^◌, ◌≤◌, ◌<◌}
use mathlib.Core.Path.{◌≡◌, refl, sym, ap, ◌∙◌, subst}
use mathlib.Core.Bool.{Bool, true, false, cond}
use mathlib.Core.List.{List, [], ◌∷◌, ◌++◌}
use native.Mathlib.Omega.{arith}
use native.Mathlib.Nat.{pow-suc, div-lt_iff_lt-mul}
use native.Mathlib.Numerals.{add-one}
use lib.Dec.{ltb}
use lib.ListN.{length, set, take, drop, length-append, length-drop, length-set}
use lib.Seq.{take_all, drop-cons, drop-length, get_or-set_same, drop-set-lt, append_snoc}
use borrow.Author.Tests.{lt-ltb, le-ltb}
use Rattle.listing.specs.Text.{digits, decimal}
use Rattle.listing.specs.Put.{Put}

-- the digits before the last
abbrev pub front : (k n : ℕ) → List ℕ
front k n = cond (ltb n 10) [] (digits k (n / 10))

-- the bytes from i on are the last digits, of which rest has the first
abbrev pub Spelled : (n i rest : ℕ) → (bytes : List ℕ) → Type 0
Spelled n i rest bytes = (length bytes ≡ 20) × (rest < 10 ^ (i + 1)) × (decimal n ≡ front i rest ++ drop i bytes)

-- a byte stored in front of what was made
store : (bytes : List ℕ) (i v : ℕ) → i < length bytes → drop i (set bytes i v) ≡ v ∷ drop (i + 1) bytes
store bytes i v h =
    drop-cons (set bytes i v) i 0 (subst (λ (l : ℕ). i < l) (sym (length-set bytes i v)) h)
    ∙ ap (λ (x : ℕ). x ∷ drop (suc i) (set bytes i v)) (get_or-set_same bytes i v 0 h)
    ∙ ap (λ (r : List ℕ). v ∷ r) (drop-set-lt (suc i) bytes i v (omega arith) ∙ ap (λ (k : ℕ). drop k bytes) (sym (add-one i)))

-- the digits of a number as those before the last, and the last
spelt : (k n : ℕ) → digits (suc k) n ≡ front k n ++ ((48 + n % 10) ∷ [])
unfolding digits
spelt k n = refl

-- the last digit
pub spell_last : (n : ℕ) (bytes : List ℕ) → length bytes ≡ 20 → n < 2 ^ 64 → Spelled n 19 n (set bytes 19 (48 + n % 10))
spell_last n bytes long h = (
  length-set bytes 19 (48 + n % 10) ∙ long,
  omega arith,
  spelt 19 n ∙ ap (λ (r : List ℕ). front 19 n ++ r) (sym (store bytes 19 (48 + n % 10) (omega arith) ∙ ap (λ (r : List ℕ). (48 + n % 10) ∷ r) (none bytes long))),
)
  where
    none : (bytes : List ℕ) → length bytes ≡ 20 → drop 20 bytes ≡ []
    none bytes long = subst (λ (k : ℕ). drop k bytes ≡ []) long (drop-length bytes)

-- there is room for one digit more
pub spell_room : (i rest : ℕ) → rest < 10 ^ (i + 1) → 10 ≤ rest → 1 ≤ i
spell_room zero rest h l = absurd (omega arith)
spell_room (suc i) rest h l = omega arith

-- one digit more
pub spell_more : (n i rest : ℕ) (bytes : List ℕ) → i ≤ 19 → Spelled n i rest bytes → 10 ≤ rest → Spelled n (i - 1) (rest / 10) (set bytes (i - 1) (48 + rest / 10 % 10))
spell_more n zero rest bytes b s l = absurd (omega arith)
spell_more n (suc i) rest bytes b s l = subst (λ (j : ℕ). Spelled n j (rest / 10) (set bytes j (48 + rest / 10 % 10))) (let e : i ≡ suc i - 1 = omega arith in e) (
  length-set bytes i (48 + rest / 10 % 10) ∙ s.0,
  (div-lt_iff_lt-mul (omega arith)).1 (subst (λ (j : ℕ). rest < j) (ap (λ (j : ℕ). 10 ^ j) (let e : suc i + 1 ≡ suc (i + 1) = omega arith in e) ∙ pow-suc 10 (i + 1)) s.1),
  s.2
      ∙ ap (λ (b : Bool). cond b [] (digits (suc i) (rest / 10)) ++ drop (suc i) bytes) (le-ltb rest 10 l)
      ∙ ap (λ (r : List ℕ). r ++ drop (suc i) bytes) (spelt i (rest / 10))
      ∙ append_snoc (front i (rest / 10)) (48 + rest / 10 % 10) (drop (suc i) bytes)
      ∙ ap (λ (r : List ℕ). front i (rest / 10) ++ r) (sym (store bytes i (48 + rest / 10 % 10) (let e = s.0 in omega arith) ∙ ap (λ (k : ℕ). (48 + rest / 10 % 10) ∷ drop k bytes) (add-one i))),
)

-- all digits
spell_all : (n i rest : ℕ) (bytes : List ℕ) → Spelled n i rest bytes → rest < 10 → decimal n ≡ drop i bytes
spell_all n i rest bytes s l = s.2 ∙ ap (λ (b : Bool). cond b [] (digits i (rest / 10)) ++ drop i bytes) (lt-ltb rest 10 l)

-- they are lent as the part of the bytes from i on
pub spell_part : (n i rest : ℕ) (bytes : List ℕ) → Spelled n i rest bytes → take (20 - i) (drop i bytes) ≡ drop i bytes
spell_part n i rest bytes s = take_all (20 - i) (drop i bytes) (let e = s.0 in rw (length-drop i bytes) (omega arith))

pub spell_short : (n i rest : ℕ) (bytes : List ℕ) → Spelled n i rest bytes → length (take (20 - i) (drop i bytes)) ≤ 20
spell_short n i rest bytes s = let e = s.0 in rw (spell_part n i rest bytes s, length-drop i bytes) (omega arith)

pub spell_put : (n i rest : ℕ) (bytes b b' : List ℕ) (at j : ℕ) → Spelled n i rest bytes → rest < 10 → Put b at (take (20 - i) (drop i bytes)) b' j → Put b at (decimal n) b' j
spell_put n i rest bytes b b' at j s l p = subst (λ (x : List ℕ). Put b at x b' j) (spell_part n i rest bytes s ∙ sym (spell_all n i rest bytes s l)) p

-- so many digits
pub digits_length : (k n : ℕ) → length (digits k n) ≤ k
unfolding digits
digits_length zero n = omega arith
digits_length (suc k) n = go (ltb n 10) (digits_length k (n / 10))
  where
    go : (b : Bool) → length (digits k (n / 10)) ≤ k → length (cond b [] (digits k (n / 10)) ++ ((48 + n % 10) ∷ [])) ≤ suc k
    go true h = omega arith
    go false h = let e = length-append (digits k (n / 10)) ((48 + n % 10) ∷ []) in omega arith
