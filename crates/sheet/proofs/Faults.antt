-- The first fault of a row of tests, piece by piece.
use Prim.Native.Nat.{ℕ, zero, suc, ◌+◌, ◌*◌, ◌≤◌, ◌<◌}
use mathlib.Core.Path.{◌≡◌, refl, sym, ap, ◌∙◌, subst}
use mathlib.Core.Bool.{Bool, true, false, cond}
use mathlib.Core.Logic.{◌≢◌}
use mathlib.Core.List.{List, [], ◌∷◌, ◌++◌}
use native.Mathlib.Omega.{arith}
use native.Mathlib.Numerals.{add-one}
use native.Mathlib.Nat.{mul-le-mul_right}
use native.Mathlib.Decide.{ℕ_discrete}
use lib.ListN.{length, get_or, length-append}
use Rattle.matroid.specs.Cuts.{each}
use Rattle.sheet.specs.Form.{Test, first_fault}

-- no byte is refused
unfoldable pub Passes : List Test → List ℕ → ℕ → Type 0
Passes tests s i = first_fault tests s i ≡ i + length tests

module _ (s : List ℕ) where
  -- the first fault lies among the tests, or after the last
  pub fault_from : (a : List Test) (i : ℕ) → i ≤ first_fault a s i
  unfolding first_fault
  fault_from [] i = omega arith
  fault_from (t ∷ a) i = go (t (get_or s i 0)) (fault_from a (i + 1))
    where
      go : (b : Bool) → i + 1 ≤ first_fault a s (i + 1) → i ≤ cond b (first_fault a s (i + 1)) i
      go true h = omega arith
      go false h = omega arith

  pub fault_to : (a : List Test) (i : ℕ) → first_fault a s i ≤ i + length a
  unfolding first_fault
  fault_to [] i = omega arith
  fault_to (t ∷ a) i = go (t (get_or s i 0)) (fault_to a (i + 1))
    where
      go : (b : Bool) → first_fault a s (i + 1) ≤ i + 1 + length a → cond b (first_fault a s (i + 1)) i ≤ i + suc (length a)
      go true h = omega arith
      go false h = omega arith

  -- after tests that pass the next ones decide
  pub fault_done : (a b : List Test) (i : ℕ) → first_fault a s i ≡ i + length a → first_fault (a ++ b) s i ≡ first_fault b s (i + length a)
  unfolding first_fault
  fault_done [] b i e = ap (first_fault b s) (omega arith)
  fault_done (t ∷ a) b i e = go (t (get_or s i 0)) (λ (h : first_fault a s (i + 1) ≡ i + 1 + length a). fault_done a b (i + 1) h) e
    where
      go : (c : Bool) → (first_fault a s (i + 1) ≡ i + 1 + length a → first_fault (a ++ b) s (i + 1) ≡ first_fault b s (i + 1 + length a))
          → cond c (first_fault a s (i + 1)) i ≡ i + suc (length a) → cond c (first_fault (a ++ b) s (i + 1)) i ≡ first_fault b s (i + suc (length a))
      go true rest h = rest (omega arith) ∙ ap (first_fault b s) (omega arith)
      go false rest h = absurd (omega arith)

  -- a test that fails decides before them
  pub fault_stop : (a b : List Test) (i : ℕ) → first_fault a s i ≢ i + length a → first_fault (a ++ b) s i ≡ first_fault a s i
  unfolding first_fault
  fault_stop [] b i d = absurd (d (omega arith))
  fault_stop (t ∷ a) b i d = go (t (get_or s i 0)) (λ (h : first_fault a s (i + 1) ≢ i + 1 + length a). fault_stop a b (i + 1) h) d
    where
      go : (c : Bool) → (first_fault a s (i + 1) ≢ i + 1 + length a → first_fault (a ++ b) s (i + 1) ≡ first_fault a s (i + 1))
          → cond c (first_fault a s (i + 1)) i ≢ i + suc (length a) → cond c (first_fault (a ++ b) s (i + 1)) i ≡ cond c (first_fault a s (i + 1)) i
      go true rest h = rest (λ e. h (omega arith))
      go false rest h = refl

  -- two rows pass where each does
  pub passes_both : (a b : List Test) (i : ℕ) → Passes a s i → Passes b s (i + length a) → Passes (a ++ b) s i
  unfolding Passes
  passes_both a b i p q = fault_done a b i p ∙ q ∙ let e = length-append a b in omega arith

  pub passes_left : (a b : List Test) (i : ℕ) → Passes (a ++ b) s i → Passes a s i
  unfolding Passes
  passes_left a b i p = go (ℕ_discrete (first_fault a s i) (i + length a))
    where
      go : Dec (first_fault a s i ≡ i + length a) → first_fault a s i ≡ i + length a
      go (yes e) = e
      go (no d) =
          let e = fault_stop a b i d in
          let l = fault_to a i in
          let w = length-append a b in
          absurd (d (omega arith))

  pub passes_right : (a b : List Test) (i : ℕ) → Passes (a ++ b) s i → Passes b s (i + length a)
  unfolding Passes
  passes_right a b i p = let w = length-append a b in sym (fault_done a b i (passes_left a b i p)) ∙ p ∙ (omega arith)

  -- ---- one piece for each number below n, all of the same length

  module _ (f : ℕ → List Test) (w : ℕ) (wide : (t : ℕ) → length (f t) ≡ w) where
    pub length_each : (n : ℕ) → length (each n f) ≡ n * w
    length_each zero = omega arith
    length_each (suc n) =
        let below = length_each n in
        let here = wide n in
        let e = length-append (each n f) (f n) in
        omega arith

    -- the first piece that fails decides
    pub each_stop : (n t i at r : ℕ) → t < n → Passes (each t f) s i → at ≡ i + t * w → r ≡ first_fault (f t) s at → r ≢ at + w → first_fault (each n f) s i ≡ r
    unfolding Passes
    each_stop zero t i at r l p a e d = absurd (omega arith)
    each_stop (suc n) t i at r l p a e d = go (λ (h : t < n). each_stop n t i at r h p a e d) (ℕ_discrete t n)
      where
        go : (t < n → first_fault (each n f) s i ≡ r) → Dec (t ≡ n) → first_fault (each n f ++ f n) s i ≡ r
        go rest (yes same) =
            let wn = length_each n in
            let wt = length_each t in
            let pn : first_fault (each n f) s i ≡ i + length (each n f) = subst (λ (x : ℕ). first_fault (each x f) s i ≡ i + length (each x f)) same p in
            let here : i + length (each n f) ≡ at = let z = ap (λ (x : ℕ). x * w) same in omega arith in
            fault_done (each n f) (f n) i pn ∙ ap (first_fault (f n) s) here ∙ ap (λ (x : ℕ). first_fault (f x) s at) (sym same) ∙ sym e
        go rest (no other) =
            let before = rest (omega arith) in
            let wn = length_each n in
            let wt = wide t in
            let upper = fault_to (f t) at in
            let room : suc t * w ≤ n * w = mul-le-mul_right w (omega arith) in
            fault_stop (each n f) (f n) i (λ h. omega arith) ∙ before

    -- one more piece passes
    pub each_next : (t i at r : ℕ) → Passes (each t f) s i → at ≡ i + t * w → r ≡ first_fault (f t) s at → at + w ≤ r → Passes (each (t + 1) f) s i
    unfolding Passes
    each_next t i at r p a e full =
        let wt = length_each t in
        let here = wide t in
        let upper = fault_to (f t) at in
        let start : i + length (each t f) ≡ at = omega arith in
        rw add-one (passes_both (each t f) (f t) i p (rw start (omega arith)))

    -- no piece passes at first, and where all do
    pub each_none : (i : ℕ) → Passes (each 0 f) s i
    unfolding Passes first_fault
    each_none i = omega arith

    pub each_done : (n t i r : ℕ) → t ≤ n → n ≤ t → Passes (each t f) s i → r ≡ i + n * w → first_fault (each n f) s i ≡ r
    unfolding Passes
    each_done n t i r l g p e =
        let same : t ≡ n = omega arith in
        let wn = length_each n in
        subst (λ (x : ℕ). first_fault (each x f) s i ≡ i + length (each x f)) same p ∙ (omega arith)

    -- every piece of a row that passes does, and the other way round
    pub each_at : (n t i : ℕ) → t < n → Passes (each n f) s i → Passes (f t) s (i + t * w)
    each_at zero t i l p = absurd (omega arith)
    each_at (suc n) t i l p = go (λ (h : t < n). each_at n t i h (passes_left (each n f) (f n) i p)) (ℕ_discrete t n)
      where
        go : (t < n → Passes (f t) s (i + t * w)) → Dec (t ≡ n) → Passes (f t) s (i + t * w)
        go rest (no other) = rest (omega arith)
        go rest (yes same) = rw (same, ← length_each n) (passes_right (each n f) (f n) i p)

    pub each_all : (n i : ℕ) → ((t : ℕ) → t < n → Passes (f t) s (i + t * w)) → Passes (each n f) s i
    each_all zero i h = each_none i
    each_all (suc n) i h =
        passes_both (each n f) (f n) i (each_all n i (λ t l. h t (omega arith))) (rw (length_each n) (h n (omega arith)))
