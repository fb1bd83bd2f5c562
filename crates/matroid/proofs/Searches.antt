-- Laws of `All` and `Any`, and of the largest value over a list: it is reached and not passed.
use Prim.Native.Nat.{ℕ, ◌≤◌, ◌<◌, max}
use mathlib.Core.Path.{◌≡◌}
use mathlib.Core.Logic.{inl, inr}
use mathlib.Core.List.{List, [], ◌∷◌, ◌++◌, map}
use native.Mathlib.Omega.{arith}
use native.Mathlib.Decide.{dec_le}
use Rattle.matroid.specs.Search.{All, Any, largest}

module _ {X : Type 0} where
  -- the laws of `All` and `Any`
  pub all_imp : {P Q : X → Type 0} → ((x : X) → P x → Q x) → (xs : List X) → All P xs → All Q xs
  all_imp f [] h = tt
  all_imp f (x ∷ xs) h = (f x h.0, all_imp f xs h.1)

  pub all_both : (P Q : X → Type 0) (xs : List X) → All P xs → All Q xs → All (λ x. P x × Q x) xs
  all_both P Q [] h k = tt
  all_both P Q (x ∷ xs) h k = ((h.0, k.0), all_both P Q xs h.1 k.1)

  pub all_append : (P : X → Type 0) (xs ys : List X) → All P xs → All P ys → All P (xs ++ ys)
  all_append P [] ys h k = k
  all_append P (x ∷ xs) ys h k = (h.0, all_append P xs ys h.1 k)

  pub all_map : {Y : Type 0} (P : X → Type 0) (f : Y → X) (ys : List Y) → All (λ y. P (f y)) ys → All P (map f ys)
  all_map P f [] h = tt
  all_map P f (y ∷ ys) h = (h.0, all_map P f ys h.1)

  pub any_imp : {P Q : X → Type 0} → ((x : X) → P x → Q x) → (xs : List X) → Any P xs → Any Q xs
  any_imp f [] h = h
  any_imp f (x ∷ xs) (inl p) = inl (f x p)
  any_imp f (x ∷ xs) (inr h) = inr (any_imp f xs h)

  pub any_left : (P : X → Type 0) (xs ys : List X) → Any P xs → Any P (xs ++ ys)
  any_left P [] ys h = absurd h
  any_left P (x ∷ xs) ys (inl p) = inl p
  any_left P (x ∷ xs) ys (inr h) = inr (any_left P xs ys h)

  pub any_right : (P : X → Type 0) (xs ys : List X) → Any P ys → Any P (xs ++ ys)
  any_right P [] ys h = h
  any_right P (x ∷ xs) ys h = inr (any_right P xs ys h)

  pub any_map : {Y : Type 0} (P : X → Type 0) (f : Y → X) (ys : List Y) → Any (λ y. P (f y)) ys → Any P (map f ys)
  any_map P f [] h = h
  any_map P f (y ∷ ys) (inl p) = inl p
  any_map P f (y ∷ ys) (inr h) = inr (any_map P f ys h)

  -- what some element reaches, the largest value reaches
  pub largest_most : (f : X → ℕ) (c : ℕ) (xs : List X) → Any (λ x. c ≤ f x) xs → c ≤ largest f xs
  largest_most f c [] h = absurd h
  largest_most f c (x ∷ xs) (inl l) = omega arith
  largest_most f c (x ∷ xs) (inr h) = let rest = largest_most f c xs h in omega arith

  -- a largest value that is not 0 is the value of an element
  pub largest_attained : {P : X → Type 0} (f : X → ℕ) (xs : List X) → All P xs → 0 < largest f xs → (x : X) × P x × (f x ≡ largest f xs)
  largest_attained f [] h l = absurd (omega arith)
  largest_attained {P} f (x ∷ xs) h l = go (λ (k : 0 < largest f xs). largest_attained f xs h.1 k) (dec_le (largest f xs) (f x))
    where
      go : (0 < largest f xs → (y : X) × P y × (f y ≡ largest f xs)) → Dec (largest f xs ≤ f x) → (y : X) × P y × (f y ≡ max (f x) (largest f xs))
      go rest (yes le) = (x, h.0, omega arith)
      go rest (no gt) = let y = rest (omega arith) in let e = y.2 in (y.0, y.1, omega arith)
