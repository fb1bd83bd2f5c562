-- A shortest chain has no short cut: along it the level rises by one at each step, and no edge rises by more.
use Prim.Native.Nat.{ℕ, suc, ◌≤◌, ◌<◌}
use mathlib.Core.Path.{◌≡◌, ap}
use mathlib.Core.List.{List, [], ◌∷◌}
use native.Mathlib.Omega.{arith}
use lib.Dec.{T}
use Rattle.matroid.specs.Set.{Set}
use Rattle.matroid.specs.Search.{All}
use Rattle.matroid.specs.Matroid.{Matroid}
use Rattle.matroid.specs.Exchange.{CanGain, Edge}
use Rattle.matroid.specs.Carry.{Distinct}
use Rattle.matroid.specs.Levels.{Levels}
use Rattle.matroid.proofs.Searches.{all_imp}
use Rattle.matroid.proofs.Chains.{First, Steps, Chain}

-- g is a labelled number below m, at level c or above
pub record Label (m : ℕ) (S : Set) (level : ℕ → ℕ) (c g : ℕ) : Type 0 where
  pub below : g < m
  pub known : T (S g)
  pub high : c ≤ level g

module _ {m : ℕ} (n : ℕ) (M : ℕ → Matroid m) where
  -- g and what follows it are numbers of S, each leads to the next, and their levels are c, c + 1 and so on
  abbrev pub Rising : (ℕ → ℕ) → Set → (ℕ → ℕ) → ℕ → ℕ → List ℕ → Type 0
  Rising D S level c g [] = (g < m) × T (S g) × (level g ≡ c)
  Rising D S level c g (h ∷ hs) = (g < m) × T (S g) × (level g ≡ c) × Edge n M D g h × Rising D S level (suc c) h hs

  module _ (D : ℕ → ℕ) (i : ℕ) (S : Set) (level : ℕ → ℕ) (levels : Levels n M D i S level) where
    -- all of it is labelled c or higher
    pub rising_labels : (c g : ℕ) (gs : List ℕ) → Rising D S level c g gs → All (Label m S level c) (g ∷ gs)
    rising_labels c g [] r = (record { below = r.0; known = r.1; high = let e = r.2 in omega arith }, tt)
    rising_labels c g (h ∷ hs) r = (
      record { below = r.0; known = r.1; high = let e = r.2 in omega arith },
      all_imp (λ k l. record { below = l.below; known = l.known; high = let b = l.high in omega arith }) (h ∷ hs) (rising_labels (suc c) h hs r.4),
    )

    -- so no number stands there twice
    pub rising_distinct : (c g : ℕ) (gs : List ℕ) → Rising D S level c g gs → Distinct (g ∷ gs)
    rising_distinct c g [] r = (tt, tt)
    rising_distinct c g (h ∷ hs) r =
        let e = r.2 in
        (all_imp (λ k l same. let b = l.high in let f = ap level same in omega arith) (h ∷ hs) (rising_labels (suc c) h hs r.4), rising_distinct (suc c) h hs r.4)

    -- none leads further than to the next
    rising_steps : (c g : ℕ) (gs : List ℕ) → Rising D S level c g gs → Steps n M D (g ∷ gs)
    rising_steps c g [] r = (tt, tt)
    rising_steps c g (h ∷ []) r = ((r.3, tt), (tt, tt))
    rising_steps c g (h ∷ k ∷ ks) r =
        let e = r.2 in
        ((r.3, all_imp (λ x l s. let b = l.high in let u = levels.step g x r.1 l.known s in omega arith) (k ∷ ks) (rising_labels (suc (suc c)) k ks r.4.4)), rising_steps (suc c) h (k ∷ ks) r.4)

    -- and i can gain the first alone
    rising_first : (g : ℕ) (gs : List ℕ) → CanGain M D i g → Rising D S level 0 g gs → First (CanGain M D i) (g ∷ gs)
    rising_first g [] new r = (new, tt)
    rising_first g (h ∷ hs) new r = (new, all_imp (λ k l s. let b = l.high in let z = levels.start k l.known s in omega arith) (h ∷ hs) (rising_labels 1 h hs r.4))

    -- so it is a chain with no short cut
    pub rising_chain : (g : ℕ) (gs : List ℕ) → CanGain M D i g → Rising D S level 0 g gs → Chain n M D i (g ∷ gs)
    rising_chain g gs new r = record {
      below = all_imp (λ k l. l.below) (g ∷ gs) (rising_labels 0 g gs r);
      distinct = rising_distinct 0 g gs r;
      first = rising_first g gs new r;
      steps = rising_steps 0 g gs r;
    }
