-- A list of one value for each number, and a table that a loop fills from the start.
use Prim.Native.Nat.{ℕ, zero, suc, ◌+◌, ◌≤◌, ◌<◌}
use mathlib.Core.Path.{◌≡◌, refl, sym, ap, ◌∙◌}
use mathlib.Core.Bool.{cond}
use mathlib.Core.List.{List, [], ◌∷◌, ◌++◌}
use native.Mathlib.Omega.{arith}
use native.Mathlib.Decide.{ℕ_discrete, dec_lt}
use lib.Dec.{ltb}
use lib.ListN.{length, get_or, set, replicate, length-set, length-append, length-replicate, get_or-replicate, get_or-append}
use lib.Seq.{get_or-set_same, get_or-set_other, get_or-append_seam, ext_get_or}
use borrow.Author.Tests.{lt-ltb, le-ltb}
use Rattle.matroid.specs.Cuts.{each}

pub each_length : {X : Type 0} (f : ℕ → X) (n : ℕ) → length (each n (λ t. f t ∷ [])) ≡ n
each_length f zero = refl
each_length f (suc n) = let below = each_length f n in length-append (each n (λ t. f t ∷ [])) (f n ∷ []) ∙ omega arith

pub each_at : {X : Type 0} (f : ℕ → X) (d : X) (n t : ℕ) → t < n → get_or (each n (λ t. f t ∷ [])) t d ≡ f t
each_at f d zero t l = absurd (omega arith)
each_at {X} f d (suc n) t l = go (λ (b : t < n). each_at f d n t b) (ℕ_discrete t n)
  where
    go : (t < n → get_or (each n (λ t. f t ∷ [])) t d ≡ f t) → Dec (t ≡ n) → get_or (each n (λ t. f t ∷ []) ++ f n ∷ []) t d ≡ f t
    go rest (yes e) = ap (λ (k : ℕ). get_or (each n (λ t. f t ∷ []) ++ f n ∷ []) k d) (e ∙ sym (each_length f n)) ∙ get_or-append_seam (each n (λ t. f t ∷ [])) (f n) [] d ∙ ap f (sym e)
    go rest (no o) = let long = each_length f n in get_or-append (each n (λ t. f t ∷ [])) (f n ∷ []) d t (omega arith) ∙ rest (omega arith)

-- of w entries those below k are the values of f, and those after them are d
pub record Tabled {X : Type 0} (w : ℕ) (f : ℕ → X) (d : X) (k : ℕ) (row : List X) : Type 0 where
  pub long : length row ≡ w
  pub done : (t : ℕ) → t < k → get_or row t d ≡ f t
  pub rest : (t : ℕ) → k ≤ t → t < w → get_or row t d ≡ d

pub tabled_none : {X : Type 0} (w : ℕ) (f : ℕ → X) (d none : X) → none ≡ d → Tabled w f d 0 (replicate w none)
tabled_none {X} w f d none e = record {
  long = length-replicate w none;
  done = λ t l. absurd (omega arith);
  rest = λ t _ l. get_or-replicate {A = X} w t none d l ∙ e;
}

pub tabled_next : {X : Type 0} (w : ℕ) (f : ℕ → X) (d : X) (k : ℕ) (row : List X) → Tabled w f d k row → k < w → (x : X) → x ≡ f k → Tabled w f d (k + 1) (set row k x)
tabled_next w f d k row h l x is = record {
  long = length-set row k x ∙ h.long;
  done = λ t u. elim (ℕ_discrete t k) [
    | yes e ↦ let wide = h.long in rw e (get_or-set_same row k x d (omega arith) ∙ is)
    | no o ↦ get_or-set_other row k t x d o ∙ h.done t (omega arith)
  ];
  rest = λ t u v. get_or-set_other row k t x d (omega arith) ∙ h.rest t (omega arith) v;
}

-- the table where the loop has ended, by values g that are those of f below n and d after it
pub tabled_all : {X : Type 0} (w : ℕ) (f : ℕ → X) (d : X) (n : ℕ) (row : List X) → Tabled w f d n row → (g : ℕ → X) → ((t : ℕ) → t < w → g t ≡ cond (ltb t n) (f t) d) → row ≡ each w (λ t. g t ∷ [])
tabled_all {X} w f d n row h g same =
    let wide = h.long in
    ext_get_or d row (each w (λ t. g t ∷ [])) (wide ∙ sym (each_length g w)) (λ t l. here t (omega arith) (dec_lt t n) ∙ sym (same t (omega arith)) ∙ sym (each_at g d w t (omega arith)))
  where
    here : (t : ℕ) → t < w → Dec (t < n) → get_or row t d ≡ cond (ltb t n) (f t) d
    here t l (yes b) = rw (lt-ltb t n b) (h.done t b)
    here t l (no b) = rw (le-ltb t n (omega arith)) (h.rest t (omega arith) l)
