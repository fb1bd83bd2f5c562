-- Glued instruments: the words of those glued to a team and to anyone, whether they stand, and what that comes to in an accepted plan.
use Prim.Native.Nat.{ℕ, zero, suc, ◌+◌, ◌^◌, ◌≤◌, ◌<◌}
use mathlib.Core.Path.{◌≡◌, refl, sym, ap, ◌∙◌, subst, subst⁻¹}
use mathlib.Core.Bool.{Bool, true, false, ◌&&◌, not, true≢false}
use Rattle.matroid.specs.Decide.{is_yes}
use mathlib.Core.List.{List}
use native.Mathlib.Omega.{arith}
use native.Mathlib.Decide.{ℕ_discrete, dec_lt}
use lib.Dec.{T, eqb, ltb}
use lib.ListN.{length, get_or}
use borrow.Author.Tests.{eq-eqb, ne_eqb, eqb-true, lt-ltb, le-ltb, ltb-false}
use Rattle.matroid.specs.Taut.{T→true, and_right}
use Rattle.matroid.specs.Set.{Set, none, ◌∖◌, under, one, size, Within}
use Rattle.matroid.specs.SetLaws.{size_none, size_agree}
use Rattle.matroid.specs.Matroid.{Matroid, worth}
use Rattle.matroid.proofs.Rank.{worth_indep, indep_worth}
use Rattle.sets.specs.Bits.{bit, word}
use Rattle.std.proofs.lemmas.List.{get_or_default}
use Rattle.sets.proofs.Below.{bit_none}
use Rattle.sets.proofs.Gathering.{gathered_all, bit_word}
use Rattle.plan.specs.declared.Reading.{Reading}
use Rattle.judge.specs.Fault.{named}
use Rattle.plan.specs.Teams.{entries, glued_to, team_before, fallen, all_stand}

-- ---- words

-- an entry of the table, as the code has it
pub entry_here : (glue : List ℕ) (number i d : ℕ) → i < length glue → eqb (get_or glue i d) number ≡ entries glue number i
entry_here glue number i d l = ap (λ (x : ℕ). eqb x number) (get_or_default glue i d 255 l)

-- the word of what is in one set and not in another
pub word_minus : (m : ℕ) (A B : Set) (w : ℕ) → m ≤ 64 → w < 2 ^ 64 → ((j : ℕ) → bit w j ≡ (bit (word m A) ∖ bit (word m B)) j) → w ≡ word m (A ∖ B)
word_minus m A B w l fits is = gathered_all (A ∖ B) m w l fits (record { at = λ j. is j ∙ ap (λ (b : Bool). b && not (bit (word m B) j)) (bit_word m A j) ∙ ap (λ (b : Bool). (ltb j m && A j) && not b) (bit_word m B j) ∙ go (ltb j m) (A j) (B j) })
  where
    go : (u a b : Bool) → ((u && a) && not (u && b)) ≡ (u && (a && not b))
    go true a b = refl
    go false a b = refl

-- and that of what is below m and not in another
pub word_rest : (m : ℕ) (A B : Set) (w : ℕ) → m ≤ 64 → w < 2 ^ 64 → ((j : ℕ) → B j ≡ not (A j)) → (free all : ℕ) → free ≡ word m A → ((j : ℕ) → bit all j ≡ under m j)
    → ((j : ℕ) → bit w j ≡ (bit all ∖ bit free) j) → w ≡ word m B
word_rest m A B w l fits other free all is_free is_all is =
    gathered_all B m w l fits
    (record { at = λ j. is j ∙ ap (λ (b : Bool). b && not (bit free j)) (is_all j) ∙ ap (λ (x : ℕ). ltb j m && not (bit x j)) is_free ∙ ap (λ (b : Bool). ltb j m && not b) (bit_word m A j) ∙ go (ltb j m) (A j) ∙ ap (λ (b : Bool). ltb j m && b) (sym (other j)) })
  where
    go : (u a : Bool) → (u && not (u && a)) ≡ (u && not a)
    go true a = refl
    go false a = refl

-- a set with a member below n is not empty
one_falls : (n : ℕ) (A : Set) (t : ℕ) → t < n → A t ≡ true → 0 < size n A
one_falls zero A t l e = absurd (omega arith)
one_falls (suc n) A t l e = go (λ (b : t < n). one_falls n A t b e) (ℕ_discrete t n)
  where
    go : (t < n → 0 < size n A) → Dec (t ≡ n) → 0 < size n A + one (A n)
    go rest (yes same) = let last : one (A n) ≡ 1 = ap one (ap A (sym same) ∙ e) in omega arith
    go rest (no d) = let below = rest (omega arith) in omega arith

-- the glued instruments of a table, counted one by one
pub count_next : (A : Set) (i : ℕ) → size (i + 1) A ≡ size i A + one (A i)
count_next A i = let e : i + 1 ≡ suc i = omega arith in ap (λ (k : ℕ). size k A) e

pub glued_here : (glue : List ℕ) (i d : ℕ) → i < length glue → (get_or glue i d ≡ 255 → ⊥) → one (named glue i) ≡ 1
glued_here glue i d l n = ap (λ (b : Bool). one (not b)) (sym (entry_here glue 255 i d l) ∙ ne_eqb (get_or glue i d) 255 n)

pub free_here : (glue : List ℕ) (i d : ℕ) → i < length glue → get_or glue i d ≡ 255 → one (named glue i) ≡ 0
free_here glue i d l e = ap (λ (b : Bool). one (not b)) (sym (entry_here glue 255 i d l) ∙ eq-eqb (get_or glue i d) 255 e)

-- no instrument of a table is glued where none is counted
none_glued : (glue : List ℕ) (j : ℕ) → ltb 0 (size 64 (named glue)) ≡ false → j < 64 → named glue j ≡ false
none_glued glue j e b = free (named glue j) refl
  where
    free : (x : Bool) → named glue j ≡ x → x ≡ false
    free false t = refl
    free true t = let some = one_falls 64 (named glue) j b t in let top = ltb-false 0 (size 64 (named glue)) e in absurd (omega arith)

-- where none is counted, there is none
pub word_free : (glue : List ℕ) (m : ℕ) → m ≤ 64 → ltb 0 (size 64 (named glue)) ≡ false → 0 ≡ word m (named glue)
word_free glue m l e = gathered_all (named glue) m 0 l (omega arith) (record { at = λ j. bit_none j ∙ go j (dec_lt j m) })
  where
    go : (j : ℕ) → Dec (j < m) → false ≡ (ltb j m && named glue j)
    go j (yes b) = rw (lt-ltb j m b) (sym (none_glued glue j e (omega arith)))
    go j (no d) = rw (le-ltb j m (omega arith)) refl

-- where no instrument is glued to anyone, none is glued to a team
pub word_none : (glue : List ℕ) (m t all : ℕ) → m ≤ 64 → t < 12 → all ≡ word m (named glue) → all ≡ 0 → 0 ≡ word m (entries glue (t + 1))
word_none glue m t all l few is z = gathered_all (entries glue (t + 1)) m 0 l (omega arith) (record { at = λ j. bit_none j ∙ go j (ltb j m) (eqb (get_or glue j 255) (t + 1)) refl (free j) })
  where
    free : (j : ℕ) → (ltb j m && named glue j) ≡ false
    free j = sym (bit_word m (named glue) j) ∙ ap (λ (w : ℕ). bit w j) (sym is ∙ z) ∙ bit_none j

    go : (j : ℕ) (u b : Bool) → eqb (get_or glue j 255) (t + 1) ≡ b → (u && named glue j) ≡ false → false ≡ (u && b)
    go j false b e f = refl
    go j true false e f = refl
    go j true true e f =
        let same = eqb-true (get_or glue j 255) (t + 1) e in
        absurd (true≢false (sym (ap not (ne_eqb (get_or glue j 255) 255 (omega arith))) ∙ f))

-- ---- whether they stand

-- a set is independent where it is worth its size
module _ {m : ℕ} (M : Matroid m) where
  pub yes_worth : (S : Set) (w used : ℕ) → w ≡ worth M S → used ≡ size m S → eqb w used ≡ is_yes (M.decide S)
  yes_worth S w used ew eu = go (M.decide S)
    where
      go : (d : Dec (M.Indep S)) → eqb w used ≡ is_yes d
      go (yes i) = eq-eqb w used (ew ∙ worth_indep M S i ∙ sym eu)
      go (no n) = ne_eqb w used (λ e. n (indep_worth M S (sym ew ∙ e ∙ eu)))

  pub yes_indep : (S : Set) → is_yes (M.decide S) ≡ true → M.Indep S
  yes_indep S e = go (M.decide S) e
    where
      go : (d : Dec (M.Indep S)) → is_yes d ≡ true → M.Indep S
      go (yes i) t = i
      go (no n) t = absurd (true≢false (sym t))

  pub indep_yes : (S : Set) → M.Indep S → is_yes (M.decide S) ≡ true
  indep_yes S i = go (M.decide S)
    where
      go : (d : Dec (M.Indep S)) → is_yes d ≡ true
      go (yes _) = refl
      go (no n) = absurd (n i)

  -- the word of a set has the set's members below m
  pub in_word : (S : Set) → Within m S (bit (word m S))
  in_word S = record { at = λ j l t. subst⁻¹ T (bit_word m S j) (rw (lt-ltb j m l) t) }

  pub of_word : (S : Set) → Within m (bit (word m S)) S
  of_word S = record { at = λ j l t. and_right (ltb j m) (S j) (subst T (bit_word m S j) t) }

  -- so it is independent where the set is
  pub yes_word : (S : Set) → is_yes (M.decide (bit (word m S))) ≡ is_yes (M.decide S)
  yes_word S = go (M.decide S)
    where
      other : (M.Indep S → ⊥) → (d : Dec (M.Indep (bit (word m S)))) → is_yes d ≡ false
      other n (yes i) = absurd (n (M.part (in_word S) i))
      other n (no _) = refl

      go : (d : Dec (M.Indep S)) → is_yes (M.decide (bit (word m S))) ≡ is_yes d
      go (yes i) = indep_yes (bit (word m S)) (M.part (of_word S) i)
      go (no n) = other n (M.decide (bit (word m S)))

-- the glued instruments of team t stand
abbrev pub Stands : Reading → ℕ → Type 0
Stands r t = is_yes ((team_before r t).decide (glued_to r t)) ≡ true

-- those of every team, or those of some team do not
pub all_stand_lem : (r : Reading) → ((t : ℕ) → t < r.n → Stands r t) → true ≡ all_stand r
unfolding all_stand
all_stand_lem r each =
    let same = size_agree r.n (λ t. not (is_yes ((team_before r t).decide (glued_to r t)))) none (λ t l. ap not (each t l)) in
    sym (eq-eqb (fallen r) 0 (same ∙ size_none r.n))

pub some_falls : (r : Reading) (t : ℕ) → t < r.n → is_yes ((team_before r t).decide (glued_to r t)) ≡ false → false ≡ all_stand r
unfolding all_stand
some_falls r t l e =
    let some = one_falls r.n (λ t. not (is_yes ((team_before r t).decide (glued_to r t)))) t l (ap not e) in
    sym (ne_eqb (fallen r) 0 (omega arith))

-- where those of every team stand, those of each do
pub each_stands : (r : Reading) → all_stand r ≡ true → (t : ℕ) → t < r.n → Stands r t
each_stands r all t l = go (is_yes ((team_before r t).decide (glued_to r t))) refl
  where
    go : (b : Bool) → is_yes ((team_before r t).decide (glued_to r t)) ≡ b → b ≡ true
    go true e = refl
    go false e = absurd (true≢false (sym all ∙ sym (some_falls r t l e)))

-- no instrument is glued: the empty set stands
pub none_stands : (r : Reading) (t : ℕ) → 0 ≡ word r.m (glued_to r t) → Stands r t
none_stands r t z =
    indep_yes (team_before r t) (glued_to r t) ((team_before r t).part {B = none} (record { at = λ j l g. absurd (true≢false (sym (T→true (glued_to r t j) g) ∙ free j l)) }) (team_before r t).empty)
  where
    free : (j : ℕ) → j < r.m → glued_to r t j ≡ false
    free j l = sym (ap (λ (b : Bool). b && glued_to r t j) (lt-ltb j r.m l)) ∙ sym (bit_word r.m (glued_to r t) j) ∙ ap (λ (w : ℕ). bit w j) (sym z) ∙ bit_none j

-- where no instrument is glued, those of every team stand
pub none_fall : (r : Reading) → r.m ≤ 64 → r.n ≤ 12 → ltb 0 (size 64 (named r.glue)) ≡ false → all_stand r ≡ true
none_fall r small few e = sym (all_stand_lem r (λ t l. none_stands r t (word_none r.glue r.m t 0 small (omega arith) (word_free r.glue r.m small e) refl)))

-- those of the teams below t, and of team t
pub stands_below : (r : Reading) (t : ℕ) → ((k : ℕ) → k < t → Stands r k) → Stands r t → (k : ℕ) → k < t + 1 → Stands r k
stands_below r t before here k l = go (ℕ_discrete k t)
  where
    go : Dec (k ≡ t) → Stands r k
    go (yes e) = rw e here
    go (no d) = before k (omega arith)
