-- Laws of text that is put into a buffer.
use Prim.Native.Nat.{ℕ, suc, ◌+◌, ◌≤◌, ◌<◌}
use mathlib.Core.Path.{◌≡◌, refl, sym, ap, ◌∙◌, subst}
use mathlib.Core.List.{List, [], ◌∷◌, ◌++◌, append_assoc}
use native.Mathlib.Omega.{arith}
use native.Mathlib.Numerals.{add-one}
use lib.ListN.{length, get_or, take, drop, set, length-append, length-set, take-append-drop}
use lib.Seq.{set_out, take-suc, take_all, take-suc-set, drop-set-lt, length-take-le}
use Rattle.listing.specs.Put.{poured, Put}

-- one text after another
pub poured_append : (b : List ℕ) (at : ℕ) (x y : List ℕ) → poured b at (x ++ y) ≡ poured (poured b at x) (at + length x) y
unfolding poured
poured_append b at [] y = ap (λ (k : ℕ). poured b k y) (omega arith)
poured_append b at (v ∷ x) y = poured_append (set b at v) (at + 1) x y ∙ ap (λ (k : ℕ). poured (poured (set b at v) (at + 1) x) k y) (omega arith)

pub length_poured : (b : List ℕ) (at : ℕ) (x : List ℕ) → length (poured b at x) ≡ length b
unfolding poured
length_poured b at [] = refl
length_poured b at (v ∷ x) = length_poured (set b at v) (at + 1) x ∙ length-set b at v

-- nothing is put
pub put_none : (b : List ℕ) (at : ℕ) → Put b at [] b at
unfolding poured
put_none b at = record { bytes = refl; end = omega arith }

infixr 20 ◌then◌
-- one text after another
pub ◌then◌ : {b b' b'' : List ℕ} {at j k : ℕ} {x y : List ℕ} → Put b at x b' j → Put b' j y b'' k → Put b at (x ++ y) b'' k
◌then◌ {b} {b'} {b''} {at} {j} {k} {x} {y} p q = record {
  bytes = q.bytes ∙ ap (λ (l : List ℕ). poured l j y) p.bytes ∙ ap (λ (i : ℕ). poured (poured b at x) i y) p.end ∙ sym (poured_append b at x y);
  end = q.end ∙ ap (λ (i : ℕ). i + length y) p.end ∙ (let e = length-append x y in omega arith);
}

-- a byte, where the buffer reaches so far and where it does not
pub put_byte : (b : List ℕ) (at v : ℕ) → Put b at (v ∷ []) (set b at v) (at + 1)
unfolding poured
put_byte b at v = record { bytes = refl; end = refl }

pub put_beyond : (b : List ℕ) (at v : ℕ) → length b ≤ at → Put b at (v ∷ []) b (at + 1)
unfolding poured
put_beyond b at v h = record { bytes = sym (set_out b at v h); end = refl }

-- the length stays
pub put_length : {b b' : List ℕ} {at j : ℕ} {x : List ℕ} → Put b at x b' j → length b' ≡ length b
put_length {b} {b'} {at} {j} {x} p = ap (λ (l : List ℕ). length l) p.bytes ∙ length_poured b at x

-- a text that the buffer has room for: what is before it and after it stays
poured_at : (b : List ℕ) (at : ℕ) (x : List ℕ) → at + length x ≤ length b → poured b at x ≡ take at b ++ (x ++ drop (at + length x) b)
unfolding poured
poured_at b at [] h = sym (take-append-drop at b) ∙ ap (λ (k : ℕ). take at b ++ drop k b) (let e : at ≡ at + 0 = omega arith in e)
poured_at b at (v ∷ x) h =
    let room : at < length b = omega arith in
    poured_at (set b at v) (at + 1) x (rw (length-set b at v) (omega arith))
    ∙ ap (λ (l : List ℕ). l ++ (x ++ drop (at + 1 + length x) (set b at v))) (ap (λ (k : ℕ). take k (set b at v)) (add-one at) ∙ take-suc-set b at v room)
    ∙ ap (λ (l : List ℕ). (take at b ++ (v ∷ [])) ++ (x ++ l)) (drop-set-lt (at + 1 + length x) b at v (omega arith) ∙ ap (λ (k : ℕ). drop k b) (let e : at + 1 + length x ≡ at + suc (length x) = omega arith in e))
    ∙ append_assoc (take at b) (v ∷ []) (x ++ drop (at + suc (length x)) b)

-- at the start of the buffer
pub poured_front : (b x : List ℕ) → length x ≤ length b → poured b 0 x ≡ x ++ drop (length x) b
poured_front b x h = poured_at b 0 x (omega arith) ∙ ap (λ (k : ℕ). x ++ drop k b) (let e : 0 + length x ≡ length x = omega arith in e)

-- the first k bytes of a text, and one more
pub put_more : (b b' b'' : List ℕ) (at j l : ℕ) (x : List ℕ) (k : ℕ) → Put b at (take k x) b' j → k < length x → Put b' j (get_or x k 0 ∷ []) b'' l → Put b at (take (k + 1) x) b'' l
put_more b b' b'' at j l x k p h q =
    subst (λ (y : List ℕ). Put b at y b'' l) (sym (take-suc x k 0 h) ∙ ap (λ (i : ℕ). take i x) (sym (add-one k))) (p then q)

pub put_next : (b b' : List ℕ) (at j : ℕ) (x : List ℕ) (k : ℕ) → Put b at (take k x) b' j → k ≤ length x → j ≡ at + k
put_next b b' at j x k p h = p.end ∙ ap (λ (i : ℕ). at + i) (length-take-le k x h)

pub put_all : (b b' : List ℕ) (at j : ℕ) (x : List ℕ) (k : ℕ) → Put b at (take k x) b' j → length x ≤ k → Put b at x b' j
put_all b b' at j x k p h = subst (λ (y : List ℕ). Put b at y b' j) (take_all k x h) p
