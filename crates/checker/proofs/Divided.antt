-- The loops over the division: the lowest bundle that is not independent, what is given, and the bound.
use Prim.Native.Nat.{ℕ, zero, suc, ◌+◌, ◌*◌, ◌≤◌, ◌<◌}
use mathlib.Core.Path.{◌≡◌, refl, sym, ap, ap₂, ◌∙◌, subst}
use mathlib.Core.Bool.{true}
use mathlib.Core.Logic.{◌≢◌}
use mathlib.Core.List.{List}
use native.Mathlib.Omega.{arith}
use native.Mathlib.Numerals.{add-one}
use borrow.Author.Count.{below_more}
use lib.ListN.{length, take, get_or}
use Rattle.std.proofs.Common.{Option, MatchOption, Some, None, length-take, get_or-take}
use Rattle.std.specs.List.{AllWithin, HoldsAt, zip}
use Rattle.std.proofs.lemmas.Slice.Zip.{length-zip, get_or-zip}
use Rattle.kinds.specs.declared.Valuation.{Valuation}
use Rattle.kinds.specs.Valuations.{matroid_of, matroids, blank_valuation}
use Rattle.matroid.specs.Set.{Set, ◌∩◌, complement, size}
use Rattle.matroid.specs.SetLaws.{within_refl, inter_left, inter_most, size_same}
use Rattle.matroid.specs.Sum.{sum}
use Rattle.matroid.specs.Matroid.{Matroid, worth}
use Rattle.matroid.specs.Division.{bundle, held}
use Rattle.matroid.specs.DivisionLaws.{sum_bundles}
use Rattle.matroid.proofs.Sets.{size_le}
use Rattle.matroid.proofs.Sums.{sum_same}
use Rattle.sets.specs.Bits.{bit}
use Rattle.sets.specs.Bundles.{Bundles}
use Rattle.checker.specs.Rules.{found, independent, dependent_at, bound_of}
use Rattle.checker.proofs.Lowest.{lowest_at, lowest_none, found_some, found_none}
use Rattle.checker.proofs.Bundles.{counted, counted_le, worth_word, size_word, worth_small, independent_yes, independent_no}

-- ---- 13

-- the words of the first t teams are worth their sizes
pub record Independent {m : ℕ} (M : ℕ → Matroid m) (words : List ℕ) (t : ℕ) : Type 0 where
  pub at : (k : ℕ) → k < t → worth (M k) (bit (get_or words k 0)) ≡ counted words k

pub indep_none : {m : ℕ} (M : ℕ → Matroid m) (words : List ℕ) → Independent M words 0
indep_none M words = record { at = λ k l. absurd (omega arith) }

module _ (m n : ℕ) (M : ℕ → Matroid m) (words : List ℕ) (t : ℕ) (h : Independent M words t) where
  -- the test, as the code has it
  module _ (N : Matroid m) (is-N : ◌≡◌ {A = Matroid m} N (M t)) (v c : ℕ) (is-v : v ≡ worth N (bit (get_or words t 0))) (is_c : c ≡ size 64 (bit (get_or words t 0))) where
    here : v ≡ worth (M t) (bit (get_or words t 0))
    here = is-v ∙ ap (λ (x : Matroid m). worth x (bit (get_or words t 0))) is-N

    count : c ≡ counted words t
    unfolding counted
    count = is_c

    pub indep_next : v ≡ c → Independent M words (t + 1)
    indep_next e = record { at = below_more (λ k. worth (M k) (bit (get_or words k 0)) ≡ counted words k) t h.at (sym here ∙ e ∙ count) }

    pub indep_stop : m ≤ 64 → n ≤ 12 → t < n → v ≢ c → (D : ℕ → ℕ) → Bundles m D words → t ≡ dependent_at n M D
    unfolding dependent_at
    indep_stop m64 n12 l d D w =
        lowest_at n (λ t. independent (M t) (bundle D t)) t l
        (λ k b. independent_yes (M k) (bundle D k) (sym (worth_word m D words w k (omega arith) (M k)) ∙ h.at k b ∙ size_word m D words w k (omega arith) m64))
        (independent_no (M t) (bundle D t) (λ e. d (here ∙ worth_word m D words w t (omega arith) (M t) ∙ e ∙ sym (size_word m D words w t (omega arith) m64) ∙ sym count)))

  pub indep_done : m ≤ 64 → n ≤ 12 → n ≤ t → (D : ℕ → ℕ) → Bundles m D words → n ≡ dependent_at n M D
  unfolding dependent_at
  indep_done m64 n12 g D w =
      lowest_none n (λ t. independent (M t) (bundle D t))
      (λ k b. independent_yes (M k) (bundle D k) (sym (worth_word m D words w k (omega arith) (M k)) ∙ h.at k (omega arith) ∙ size_word m D words w k (omega arith) m64))

-- the first place where the test fails is the team that is looked for
module _ (m n : ℕ) (row : List Valuation) (words : List ℕ) (long-row : length row ≡ 12) (long-words : length words ≡ 12) (m64 : m ≤ 64) (n12 : n ≤ 12) where
  abbrev pairs : List (Valuation × ℕ)
  pairs = zip (take n row) (take n words)

  long : length pairs ≡ n
  long = length-zip (take n row) (take n words) ∙ simp length-take (omega arith)

  pair : (t : ℕ) → t < n → get_or pairs t (blank_valuation, 0) ≡ (get_or row t blank_valuation, get_or words t 0)
  pair t l =
      get_or-zip (take n row) (take n words) t (blank_valuation, 0) (simp length-take (omega arith)) (simp length-take (omega arith))
      ∙ ap₂ (λ (v : Valuation) (w : ℕ). (v, w)) (get_or-take n row t blank_valuation l) (get_or-take n words t 0 l)

  abbrev Passes : Valuation × ℕ → Type 0
  Passes p = worth (matroid_of m p.0) (bit p.1) ≡ size 64 (bit p.1)

  passed : (t : ℕ) → ((k : ℕ) → k < t → k < n) → ((k : ℕ) → k < t → Passes (get_or pairs k (blank_valuation, 0))) → Independent (matroids m row) words t
  unfolding counted
  passed t inside all = record { at = λ k l. rw (pair k (inside k l)) at (all k l) }

  pub dependent_first : (r : Option ℕ)
      → MatchOption r (AllWithin Passes pairs 0 (length pairs)) (λ i. (i < length pairs) × HoldsAt (λ (p : Valuation × ℕ). worth (matroid_of m p.0) (bit p.1) ≢ size 64 (bit p.1)) pairs i × AllWithin Passes pairs 0 i)
      → (D : ℕ → ℕ) → Bundles m D words → r ≡ found n (dependent_at n (matroids m row) D)
  dependent_first None all D w =
      found_none (indep_done m n (matroids m row) words n (passed n (λ k l. l) (λ k l. all k (blank_valuation, 0) (omega arith) (let e = long in omega arith))) m64 n12 (omega arith) D w)
  dependent_first (Some i) (l, fails, before) D w =
      let below : i < n = let e = long in omega arith in
      found_some below
      (indep_stop m n (matroids m row) words i (passed i (λ k b. omega arith) (λ k b. before k (blank_valuation, 0) (omega arith) b))
      (matroid_of m (get_or row i blank_valuation)) refl _ _ refl refl m64 n12 below (rw (pair i below) at (fails (blank_valuation, 0))) D w)

-- ---- the number of given instruments

-- how many are in the first t words
unfoldable pub counted_to : List ℕ → ℕ → ℕ
counted_to words t = sum t (counted words)

pub count_none : (words : List ℕ) → 0 ≡ counted_to words 0
unfolding counted_to
count_none words = refl

pub count_more : (words : List ℕ) (t sum c : ℕ) → sum ≡ counted_to words t → c ≡ size 64 (bit (get_or words t 0)) → sum + c ≡ counted_to words (t + 1)
unfolding counted_to counted
count_more words t sum c e f = rw (add-one t, e, f) refl

pub count_le : (words : List ℕ) (t : ℕ) → counted_to words t ≤ 64 * t
unfolding counted_to
count_le words zero = omega arith
count_le words (suc t) = let below = count_le words t in let here = counted_le words t in omega arith

pub count_word_le : (words : List ℕ) (t c : ℕ) → c ≡ size 64 (bit (get_or words t 0)) → c ≤ 64
unfolding counted
count_word_le words t c e = subst (λ (x : ℕ). x ≤ 64) (sym e) (counted_le words t)

pub count_done : (words : List ℕ) (n t count : ℕ) → n ≤ 12 → t ≤ n → n ≤ t → count ≡ counted_to words t → (m : ℕ) (D : ℕ → ℕ) → m ≤ 64 → Bundles m D words → count ≡ size m (held n D)
unfolding counted_to
count_done words n t count n12 l g e m D m64 w =
    let same : t ≡ n = omega arith in
    e
    ∙ ap (λ (x : ℕ). sum x (counted words)) same
    ∙ sum_same n (counted words) (λ t. size m (bundle D t ∩ all)) (λ k b. size_word m D words w k (omega arith) m64 ∙ whole (bundle D k))
    ∙ sum_bundles m n D all
    ∙ sym (whole (held n D))
  where
    all : Set
    all k = true

    whole : (A : Set) → size m A ≡ size m (A ∩ all)
    whole A = size_same m (inter_most within_refl (record { at = λ k _ _. tt })) (inter_left A all)

-- ---- the bound

-- the instruments outside a set, and what it is worth to each of the first t teams
unfoldable pub bound_to : {m : ℕ} → (ℕ → Matroid m) → (T t : ℕ) → ℕ
bound_to {m} M T t = size m (complement (bit T)) + sum t (λ t. worth (M t) (bit T))

module _ {m : ℕ} (M : ℕ → Matroid m) (T : ℕ) where
  pub bound_none : (k : ℕ) → k ≡ size m (complement (bit T)) → k ≡ bound_to M T 0
  unfolding bound_to
  bound_none k e = omega arith

  bound_le : m ≤ 64 → (t : ℕ) → bound_to M T t ≤ 64 + 64 * t
  unfolding bound_to
  bound_le m64 zero = let a = size_le m (complement (bit T)) in omega arith
  bound_le m64 (suc t) = let below = bound_le m64 t in let here = worth_small (M t) (bit T) in omega arith

  module _ (t : ℕ) (N : Matroid m) (is-N : ◌≡◌ {A = Matroid m} N (M t)) (sum v : ℕ) (is_sum : sum ≡ bound_to M T t) (is-v : v ≡ worth N (bit T)) where
    pub bound_more : sum + v ≡ bound_to M T (t + 1)
    unfolding bound_to
    bound_more = let here = is-v ∙ ap (λ (x : Matroid m). worth x (bit T)) is-N in rw add-one (omega arith)

    -- the sum stays small
    pub bound_small : m ≤ 64 → sum + v ≤ 128 + 64 * t
    bound_small m64 = let a = bound_le m64 t in let w = worth_small N (bit T) in omega arith

  pub bound_done : (n t k : ℕ) → t ≤ n → n ≤ t → k ≡ bound_to M T t → k ≡ bound_of n M T
  unfolding bound_to bound_of
  bound_done n t k l g e =
      let same : t ≡ n = omega arith in
      e ∙ ap (λ (x : ℕ). size m (complement (bit T)) + sum x (λ t. worth (M t) (bit T))) same
