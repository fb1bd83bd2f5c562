-- The loops of `bundles` and `pool`.
use Prim.Native.Nat.{ℕ, ◌+◌, ◌≤◌, ◌<◌, min}
use mathlib.Core.Path.{◌≡◌, refl, sym, ap, ◌∙◌}
use mathlib.Core.Bool.{Bool, ◌&&◌, and-false}
use mathlib.Core.List.{List}
use native.Mathlib.Omega.{arith}
use native.Mathlib.Decide.{ℕ_discrete, dec_lt}
use lib.Dec.{eqb, ltb}
use lib.ListN.{length, get_or, set, replicate, length-set, get_or-replicate, get_or-eq_default}
use lib.Seq.{get_or-set_same, get_or-set_other}
use borrow.Author.Tests.{lt-ltb, le-ltb, eq-eqb, ne_eqb}
use Rattle.matroid.specs.Set.{Set, with}
use Rattle.sets.specs.Bits.{bit}
use Rattle.sets.specs.Bundles.{Bundles}
use Rattle.holding.specs.declared.Holding.{Holding}
use Rattle.holding.specs.Give.{holder_of, is_instrument, in_pool}
use Rattle.holding.specs.Words.{Pool}
use Rattle.holding.proofs.Marks.{Marks, marks_none, marks_put, marks_skip}

-- the team t holds the instrument
abbrev held_by : Holding → ℕ → Set
held_by h t j = eqb (holder_of h j) t

-- ---- the bundles

-- at the start every word is empty
pub bundles_none : (h : Holding) → Bundles 0 (holder_of h) (replicate 12 0)
bundles_none h = record { long = refl; at = λ t l. rw (get_or-replicate {A = ℕ} 12 t 0 0 l) (marks_none (held_by h t)) }

module _ (h : Holding) (g : ℕ) (words : List ℕ) (b : Bundles g (holder_of h) words) where
  -- an instrument of no team changes no word
  pub bundles_skip : (k : ℕ) → k ≡ holder_of h g → 12 ≤ k → Bundles (g + 1) (holder_of h) words
  bundles_skip k is large = record { long = b.long; at = λ t l. marks_skip (held_by h t) g (get_or words t 0) (b.at t l) (ne_eqb (holder_of h g) t (omega arith)) }

  -- an instrument joins the word of its team
  pub bundles_put : (k word : ℕ) (next : List ℕ) → k ≡ holder_of h g → k < 12 → ((j : ℕ) → bit word j ≡ with (bit (get_or words k 0)) g j) → next ≡ set words k word → Bundles (g + 1) (holder_of h) next
  bundles_put k word next is small joined e = rw e (record { long = length-set words k word ∙ b.long; at = λ t l. go t l (ℕ_discrete t k) })
    where
      wide : length words ≡ 12
      wide = b.long

      go : (t : ℕ) → t < 12 → Dec (t ≡ k) → Marks (held_by h t) (g + 1) (get_or (set words k word) t 0)
      go t l (yes same) = rw (same, get_or-set_same words k word 0 (omega arith)) (marks_put (held_by h k) g (get_or words k 0) (b.at k small) word (eq-eqb (holder_of h g) k (sym is)) joined)
      go t l (no differ) = rw (get_or-set_other words k t word 0 differ) (marks_skip (held_by h t) g (get_or words t 0) (b.at t l) (ne_eqb (holder_of h g) t (omega arith)))

-- nobody holds a number from 64 on
no_holder : (h : Holding) → length h.owner ≡ 64 → (j : ℕ) → 64 ≤ j → holder_of h j ≡ 255
unfolding holder_of
no_holder h long j l = get_or-eq_default h.owner 255 (omega arith)

-- the words of the instruments are the words of the numbers below m
pub bundles_all : (h : Holding) (k : ℕ) (words : List ℕ) → length h.owner ≡ 64 → k ≡ min h.m 64 → Bundles k (holder_of h) words → Bundles h.m (holder_of h) words
bundles_all h k words long is b = record { long = b.long; at = λ t l j. b.at t l j ∙ go t l j (dec_lt j 64) }
  where
    below : (j : ℕ) → j < 64 → Dec (j < h.m) → ltb j k ≡ ltb j h.m
    below j low (yes a) = lt-ltb j k (omega arith) ∙ sym (lt-ltb j h.m a)
    below j low (no a) = le-ltb j k (omega arith) ∙ sym (le-ltb j h.m (omega arith))

    go : (t : ℕ) → t < 12 → (j : ℕ) → Dec (j < 64) → (ltb j k && eqb (holder_of h j) t) ≡ (ltb j h.m && eqb (holder_of h j) t)
    go t l j (yes low) = ap (λ (c : Bool). c && eqb (holder_of h j) t) (below j low (dec_lt j h.m))
    go t l j (no high) = let none = no_holder h long j (omega arith) in rw (ne_eqb (holder_of h j) t (omega arith)) (and-false (ltb j k) ∙ sym (and-false (ltb j h.m)))

-- ---- the pool

-- the numbers below m and 64 are the instruments
pub pool_all : (h : Holding) (k r : ℕ) → k ≡ min h.m 64 → Marks (in_pool h) k r → Pool h r
unfolding is_instrument
pool_all h k r is marks = record { at = λ j. marks j ∙ ap (λ (c : Bool). c && in_pool h j) (go j (dec_lt j h.m) (dec_lt j 64)) }
  where
    go : (j : ℕ) → Dec (j < h.m) → Dec (j < 64) → ltb j k ≡ (ltb j h.m && ltb j 64)
    go j (yes a) (yes b) = rw (lt-ltb j h.m a, lt-ltb j 64 b) (lt-ltb j k (omega arith))
    go j (yes a) (no b) = rw (lt-ltb j h.m a, le-ltb j 64 (omega arith)) (le-ltb j k (omega arith))
    go j (no a) b = rw (le-ltb j h.m (omega arith)) (le-ltb j k (omega arith))
