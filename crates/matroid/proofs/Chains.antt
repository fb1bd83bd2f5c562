-- Along a chain with no short cut, all bundles stay independent.
use Prim.Native.Nat.{ℕ, ◌<◌}
use mathlib.Core.Path.{◌≡◌, sym, subst, subst⁻¹}
use mathlib.Core.Logic.{◌≢◌, ◌↔◌}
use mathlib.Core.List.{List, [], ◌∷◌}
use native.Mathlib.Decide.{ℕ_discrete}
use lib.Dec.{eqb→eq, eqb_refl, T_not}
use Rattle.matroid.specs.Set.{Set}
use Rattle.matroid.specs.SetLaws.{eq→eqb, without_old}
use Rattle.matroid.specs.Search.{All}
use Rattle.matroid.specs.Matroid.{Matroid}
use Rattle.matroid.specs.Division.{bundle, move}
use Rattle.matroid.specs.DivisionLaws.{move_away}
use Rattle.matroid.specs.Exchange.{Fits, Swaps, CanGain, Sound, CanSwap, Edge}
use Rattle.matroid.specs.Carry.{Distinct, carry}
use Rattle.matroid.proofs.Searches.{all_imp, all_both}
use Rattle.matroid.proofs.Moves.{bundle_gains, bundle_loses}
use Rattle.matroid.proofs.Swapping.{swaps_with, with_swaps, swaps_without, without_swaps, swaps_fits, fits_swaps}

-- P holds at the first of the list and nowhere else
abbrev pub First : (ℕ → Type 0) → List ℕ → Type 0
First P [] = Unit {0}
First P (g ∷ gs) = P g × All (λ k. ¬ P k) gs

-- P and Q hold of the same numbers of the list
first_imp : (P Q : ℕ → Type 0) (gs : List ℕ) → All (λ k. P k ↔ Q k) gs → First P gs → First Q gs
first_imp P Q [] h f = tt
first_imp P Q (g ∷ gs) h f = (h.0.0 f.0, all_imp (λ k p q. p.1 (p.0.1 q)) gs (all_both (λ k. P k ↔ Q k) (λ k. ¬ P k) gs h.1 f.1))

module _ {m : ℕ} (n : ℕ) (M : ℕ → Matroid m) where
  -- each of the list leads to the next, and to none further on
  abbrev pub Steps : (ℕ → ℕ) → List ℕ → Type 0
  Steps D [] = Unit {0}
  Steps D (g ∷ gs) = First (Edge n M D g) gs × Steps D gs

  -- a chain from team i with no short cut
  pub record Chain (D : ℕ → ℕ) (i : ℕ) (gs : List ℕ) : Type 0 where
    pub below : All (λ k. k < m) gs
    pub distinct : Distinct gs
    pub first : First (CanGain M D i) gs
    pub steps : Steps D gs

  -- Team i takes g, which is new to it and which it can gain. All bundles stay independent.
  module _ (D : ℕ → ℕ) (i g : ℕ) (lg : g < m) (new : CanGain M D i g) (sound : Sound n M D) where
    -- all bundles stay independent
    move_sound : Sound n M (move D g i)
    move_sound t l = go (ℕ_discrete i t)
      where
        go : Dec (i ≡ t) → (M t).Indep (bundle (move D g i) t)
        go (yes e) = rw (bundle_gains D g i t e) (subst (λ (t : ℕ). CanGain M D t g) e new).1
        go (no d) = rw (bundle_loses D g i t d) ((M t).part (without_old (bundle D t) g) (sound t l))

    -- to what i could not gain, the edges stay
    edge_stays : (h k : ℕ) → h < m → k < m → h ≢ g → k ≢ g → ¬ CanGain M D i k → Edge n M D h k → Edge n M (move D g i) h k
    edge_stays h k lh lk dh dk nk e = subst⁻¹ (λ (t : ℕ). CanSwap n M (move D g i) t h k) (move_away D g i h dh) (e.0, go (ℕ_discrete i (D h)))
      where
        go : Dec (i ≡ D h) → Swaps (M (D h)) (bundle (move D g i) (D h)) h k
        go (yes q) =
            subst⁻¹ (λ (B : Set). Swaps (M (D h)) B h k) (bundle_gains D g i (D h) q)
            (swaps_with (M (D h)) (bundle D (D h)) h k g lh lk lg dk (eqb_refl (D h)) (subst (λ (t : ℕ). CanGain M D t g) q new) (subst (λ (t : ℕ). ¬ CanGain M D t k) q nk) e.1)
        go (no q) = subst⁻¹ (λ (B : Set). Swaps (M (D h)) B h k) (bundle_loses D g i (D h) q) (swaps_without (M (D h)) (bundle D (D h)) h k g e.1)

    -- to what g did not lead to, no edge is new
    edge_old : (h k : ℕ) → h < m → k < m → h ≢ g → k ≢ g → ¬ Edge n M D g k → Edge n M (move D g i) h k → Edge n M D h k
    edge_old h k lh lk dh dk ng e =
        let e' = subst (λ (t : ℕ). CanSwap n M (move D g i) t h k) (move_away D g i h dh) e in
        (e'.0, go (ℕ_discrete i (D h)) e'.0 e'.1)
      where
        go : Dec (i ≡ D h) → D h < n → Swaps (M (D h)) (bundle (move D g i) (D h)) h k → Swaps (M (D h)) (bundle D (D h)) h k
        go (yes q) l s = with_swaps (M (D h)) (bundle D (D h)) h k g (subst (λ (B : Set). Swaps (M (D h)) B h k) (bundle_gains D g i (D h) q) s)
        go (no q) l s =
            without_swaps (M (D h)) (bundle D (D h)) h k g lh lk lg dh dk (sound (D h) l) (eqb_refl (D h))
            (λ same w. ng (subst⁻¹ (λ (t : ℕ). CanSwap n M D t g k) (eqb→eq (D g) (D h) same) (l, w)))
            (subst (λ (B : Set). Swaps (M (D h)) B h k) (bundle_loses D g i (D h) q) s)

    -- i did not hold g
    holder_differs : i ≢ D g
    holder_differs e = T_not (bundle D i g) new.0 (eq→eqb (D g) i (sym e))

    -- what could take the place of g can now join its old holder, and nothing else can
    edge_gains : (k : ℕ) → Edge n M D g k → CanGain M (move D g i) (D g) k
    edge_gains k e = subst⁻¹ (λ (B : Set). Fits (M (D g)) B k) (bundle_loses D g i (D g) holder_differs) (swaps_fits (M (D g)) (bundle D (D g)) g k e.1)

    -- and nothing else can
    gains_edge : (k : ℕ) → D g < n → k ≢ g → CanGain M (move D g i) (D g) k → Edge n M D g k
    gains_edge k l d c = (l, fits_swaps (M (D g)) (bundle D (D g)) g k d (subst (λ (B : Set). Fits (M (D g)) B k) (bundle_loses D g i (D g) holder_differs) c))

    -- what is known of a number further on than the one after g
    abbrev Far : ℕ → Type 0
    Far k = (k < m) × (k ≢ g) × (¬ CanGain M D i k) × (¬ Edge n M D g k)

    -- it is known of a list where each part of it is
    all_far : (ks : List ℕ) → All (λ k. k < m) ks → All (λ k. k ≢ g) ks → All (λ k. ¬ CanGain M D i k) ks → All (λ k. ¬ Edge n M D g k) ks → All Far ks
    all_far [] a b c d = tt
    all_far (k ∷ ks) a b c d = ((a.0, b.0, c.0, d.0), all_far ks a.1 b.1 c.1 d.1)

    -- the rest of the chain leads on as before
    steps_stay : (h : ℕ) (hs : List ℕ) → h < m → h ≢ g → All Far hs → Steps D (h ∷ hs) → Steps (move D g i) (h ∷ hs)
    steps_stay h [] lh dh f s = (tt, tt)
    steps_stay h (k ∷ ks) lh dh f s = (
      first_imp (Edge n M D h) (Edge n M (move D g i) h) (k ∷ ks) (all_imp (λ x far. (edge_stays h x lh far.0 dh far.1 far.2, edge_old h x lh far.0 dh far.1 far.3)) (k ∷ ks) f) s.0,
      steps_stay k ks f.0.0 f.0.1 f.1 s.1,
    )

    -- the rest of the chain is a chain from the old holder of g
    chain_rest : (gs : List ℕ) → Chain D i (g ∷ gs) → Chain (move D g i) (D g) gs
    chain_rest [] c = record { below = tt; distinct = tt; first = tt; steps = tt }
    chain_rest (h ∷ hs) c = record {
      below = c.below.1;
      distinct = c.distinct.1;
      first = first_imp (Edge n M D g) (CanGain M (move D g i) (D g)) (h ∷ hs) (all_imp (λ k d. (edge_gains k, gains_edge k c.steps.0.0.0 d)) (h ∷ hs) c.distinct.0) c.steps.0;
      steps = steps_stay h hs c.below.1.0 c.distinct.0.0 (all_far hs c.below.1.1 c.distinct.0.1 c.first.1.1 c.steps.0.1) c.steps.1;
    }

  -- along a chain with no short cut, all bundles stay independent
  pub carry_sound : (D : ℕ → ℕ) (i : ℕ) (gs : List ℕ) → Sound n M D → Chain D i gs → Sound n M (carry D i gs)
  carry_sound D i [] s c = s
  carry_sound D i (g ∷ gs) s c =
      let l = c.below.0 in
      let new = c.first.0 in
      carry_sound (move D g i) (D g) gs (move_sound D i g l new s) (chain_rest D i g l new s gs c)
