-- The list of the cuts holds every cut.
use Prim.Native.Nat.{ℕ, zero, suc, ◌<◌}
use mathlib.Core.Path.{◌≡◌, sym, ap, ◌∙◌, subst}
use mathlib.Core.Logic.{inl}
use mathlib.Core.List.{List, ◌++◌}
use native.Mathlib.Omega.{arith}
use native.Mathlib.Decide.{ℕ_discrete}
use Rattle.matroid.specs.Search.{All, Any}
use Rattle.matroid.specs.Division.{move}
use Rattle.matroid.specs.DivisionLaws.{move_here, move_away}
use Rattle.matroid.specs.Cuts.{each, cuts, Cuts}
use Rattle.matroid.proofs.Searches.{all_imp, all_append, all_map, any_imp, any_left, any_right, any_map}

module _ {X : Type 0} (P : X → Type 0) where
  -- what holds in each list holds in all
  all_each : (n : ℕ) (f : ℕ → List X) → ((t : ℕ) → t < n → All P (f t)) → All P (each n f)
  all_each zero f h = tt
  all_each (suc n) f h = all_append P (each n f) (f n) (all_each n f (λ t l. h t (omega arith))) (h n (omega arith))

  -- and what is found in one is found
  any_each : (n : ℕ) (f : ℕ → List X) (t : ℕ) → t < n → Any P (f t) → Any P (each n f)
  any_each zero f t l h = absurd (omega arith)
  any_each (suc n) f t l h = go (λ (b : t < n). any_each n f t b h) (ℕ_discrete t n)
    where
      go : (t < n → Any P (each n f)) → Dec (t ≡ n) → Any P (each n f ++ f n)
      go rest (yes e) = any_right P (each n f) (f n) (subst (λ (x : ℕ). Any P (f x)) e h)
      go rest (no d) = any_left P (each n f) (f n) (rest (omega arith))

-- B and C agree below m
abbrev pub Agree : ℕ → (ℕ → ℕ) → (ℕ → ℕ) → Type 0
Agree m C B = (g : ℕ) → g < m → B g ≡ C g

-- a cut, with m put into a part
move_cuts : (m n t : ℕ) (C : ℕ → ℕ) → t < n → Cuts m n C → Cuts (suc m) n (move C m t)
move_cuts m n t C l h g b = go (ℕ_discrete g m)
  where
    go : Dec (g ≡ m) → move C m t g < n
    go (yes e) = rw (move_here C m t g e) l
    go (no d) = rw (move_away C m t g d) (h g (omega arith))

-- agreement below m, with m put where C puts it
move_agree : (m : ℕ) (C B : ℕ → ℕ) → Agree m C B → Agree (suc m) C (move B m (C m))
move_agree m C B h g b = go (ℕ_discrete g m)
  where
    go : Dec (g ≡ m) → move B m (C m) g ≡ C g
    go (yes e) = move_here B m (C m) g e ∙ ap C (sym e)
    go (no d) = move_away B m (C m) g d ∙ h g (omega arith)

-- all that is listed is a cut, and every cut is listed, up to what it does from m on
pub cuts_sound : (m n : ℕ) → All (Cuts m n) (cuts m n)
cuts_sound zero n = (λ g l. absurd (omega arith), tt)
cuts_sound (suc m) n = all_each (Cuts (suc m) n) n _ (λ t l. all_map (Cuts (suc m) n) (λ C. move C m t) (cuts m n) (all_imp (λ C. move_cuts m n t C l) (cuts m n) (cuts_sound m n)))

pub cuts_complete : (m n : ℕ) (C : ℕ → ℕ) → Cuts m n C → Any (Agree m C) (cuts m n)
cuts_complete zero n C h = inl (λ g l. absurd (omega arith))
cuts_complete (suc m) n C h =
    let below = cuts_complete m n C (λ g l. h g (omega arith)) in
    any_each (Agree (suc m) C) n _ (C m) (h m (omega arith))
    (any_map (Agree (suc m) C) (λ B. move B m (C m)) (cuts m n) (any_imp (λ B. move_agree m C B) (cuts m n) below))
