-- The lines of a listing, one instrument and one team at a time.
use Prim.Native.Nat.{ℕ, ◌+◌, ◌≤◌}
use mathlib.Core.Path.{◌≡◌, sym, ap, ◌∙◌, subst}
use mathlib.Core.Bool.{Bool, cond}
use mathlib.Core.List.{List, []}
use native.Mathlib.Omega.{arith}
use native.Mathlib.Numerals.{add-one}
use lib.ListN.{get_or}
use borrow.Author.Tests.{eq-eqb, ne_eqb}
use Rattle.matroid.specs.Cuts.{each}
use Rattle.sheet.specs.Layout.{length_of, give_start, share_start}
use Rattle.sheet.specs.Fields.{total_at, holder_at, share_at}
use Rattle.listing.specs.Text.{space, total_word, share_word, field}
use Rattle.listing.specs.Listing.{instrument}
use Rattle.listing.specs.Put.{Put}
use Rattle.listing.proofs.Pouring.{put_none, ◌then◌}

-- what is written for each of the numbers below k, and for k
pub put_each : {b b' b'' : List ℕ} {at j l : ℕ} (k : ℕ) (f : ℕ → List ℕ) → Put b at (each k f) b' j → Put b' j (f k) b'' l → Put b at (each (k + 1) f) b'' l
put_each {b} {b'} {b''} {at} {j} {l} k f p q = subst (λ (i : ℕ). Put b at (each i f) b'' l) (sym (add-one k)) (p then q)

-- an instrument that a sheet gives to t
pub instrument_given : {b b' : List ℕ} {at j : ℕ} (sheet : List ℕ) (t g give : ℕ) → give ≡ give_start g → get_or sheet (give + 2) 0 ≡ t → Put b at (field space g) b' j → Put b at (instrument (holder_at sheet) t g) b' j
unfolding instrument
instrument_given {b} {b'} {at} {j} sheet t g give is e p =
    subst (λ (x : Bool). Put b at (cond x (field space g) []) b' j) (sym (eq-eqb (holder_at sheet g) t (ap (λ (k : ℕ). get_or sheet (k + 2) 0) (sym is) ∙ e))) p

-- and one that it does not
pub instrument_passed : (b : List ℕ) (at : ℕ) (sheet : List ℕ) (t g give : ℕ) → give ≡ give_start g → (get_or sheet (give + 2) 0 ≡ t → ⊥) → Put b at (instrument (holder_at sheet) t g) b at
unfolding instrument
instrument_passed b at sheet t g give is e =
    subst (λ (x : Bool). Put b at (cond x (field space g) []) b at) (sym (ne_eqb (holder_at sheet g) t (λ same. e (ap (λ (k : ℕ). get_or sheet (k + 2) 0) is ∙ same)))) (put_none b at)

-- the share that a sheet states of t, read at the offset of its SHARE
pub share_told : {b b' : List ℕ} {at j : ℕ} (sheet : List ℕ) (m t start s : ℕ) → start ≡ share_start m t → s ≡ get_or sheet (start + 2) 0 → Put b at (field share_word s) b' j → Put b at (field share_word (share_at m sheet t)) b' j
share_told {b} {b'} {at} {j} sheet m t start s is e p = subst (λ (x : ℕ). Put b at (field share_word x) b' j) (e ∙ ap (λ (k : ℕ). get_or sheet (k + 2) 0) is) p

-- the GIVEs stand before a SHARE
pub gives_before : (m t long : ℕ) → share_start m t + 3 ≤ long → give_start m ≤ long
unfolding share_start
gives_before m t long l = omega arith

-- and so does HEAD
pub head_before : (m n long : ℕ) → length_of m n ≤ long → (4 ≤ long) × (give_start m ≤ long)
unfolding length_of
head_before m n long l = (omega arith, omega arith)

-- the total that a sheet states
pub total_told : {b b' : List ℕ} {at j : ℕ} (sheet : List ℕ) (s : ℕ) → s ≡ get_or sheet 3 0 → Put b at (field total_word s) b' j → Put b at (field total_word (total_at sheet)) b' j
total_told {b} {b'} {at} {j} sheet s e p = subst (λ (x : ℕ). Put b at (field total_word x) b' j) e p
