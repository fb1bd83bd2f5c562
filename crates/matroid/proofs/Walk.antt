-- The chain that leads back from a target to a source, and what carrying it out comes to.
use Prim.Native.Nat.{ℕ, suc, ◌+◌, ◌≤◌, ◌<◌}
use mathlib.Core.Path.{◌≡◌, refl, sym, ap, ◌∙◌, subst, fun_ext}
use mathlib.Core.Logic.{◌⊎◌, inl, inr, ◌≢◌}
use mathlib.Core.List.{List, [], ◌∷◌}
use native.Mathlib.Omega.{arith}
use native.Mathlib.Decide.{ℕ_discrete}
use lib.Dec.{T, not_T}
use lib.ListN.{length}
use Rattle.matroid.specs.Set.{Set, none, with, size}
use Rattle.matroid.specs.SetLaws.{with_cases, size_none, size_with}
use Rattle.matroid.specs.Search.{All, Any}
use Rattle.matroid.specs.Matroid.{Matroid}
use Rattle.matroid.specs.Exchange.{CanGain, Sound}
use Rattle.matroid.specs.Carry.{Distinct, carry, last}
use Rattle.matroid.specs.Breadth.{Labels, Reason, Traced, root, step}
use Rattle.matroid.proofs.Sets.{size_le}
use Rattle.matroid.proofs.Searches.{all_imp}
use Rattle.matroid.proofs.Carrying.{Handed, carry_other, carry_handed}
use Rattle.matroid.proofs.Chains.{Chain, carry_sound}
use Rattle.matroid.proofs.Shortest.{Label, Rising, rising_labels, rising_distinct, rising_chain}

-- ---- lists of different numbers

-- the set of a list's members
listed : List ℕ → Set
listed [] = none
listed (g ∷ gs) = with (listed gs) g

listed_out : (gs : List ℕ) (x : ℕ) → All (λ k. k ≢ x) gs → T (listed gs x) → ⊥
unfolding listed
listed_out [] x a t = t
listed_out (g ∷ gs) x a t = elim (with_cases (listed gs) g x t) [ inl rest ↦ listed_out gs x a.1 rest | inr e ↦ a.0 (sym e) ]

listed_size : (m : ℕ) (gs : List ℕ) → All (λ k. k < m) gs → Distinct gs → size m (listed gs) ≡ length gs
unfolding listed
listed_size m [] l d = size_none m
listed_size m (g ∷ gs) l d =
    let rest = listed_size m gs l.1 d.1 in
    let more = size_with m (listed gs) g l.0 (not_T (listed gs g) (listed_out gs g d.0)) in
    omega arith

-- different numbers below m are at most m
pub distinct_length : (m : ℕ) (gs : List ℕ) → All (λ k. k < m) gs → Distinct gs → length gs ≤ m
distinct_length m gs l d = let s = listed_size m gs l d in let b = size_le m (listed gs) in omega arith

-- x is in the list, or differs from each of it
pub in_list : (x : ℕ) (gs : List ℕ) → Any (λ k. k ≡ x) gs ⊎ All (λ k. x ≢ k) gs
in_list x [] = inr tt
in_list x (g ∷ gs) = elim (ℕ_discrete g x) [
  | yes e ↦ inl (inl e)
  | no d ↦ elim (in_list x gs) [ inl i ↦ inl (inr i) | inr o ↦ inr (λ e. d (sym e), o) ]
]

-- two that have handed the same list on agree on it
handed_same : (D D₁ D₂ : ℕ → ℕ) (i : ℕ) (gs : List ℕ) → Handed D D₁ i gs → Handed D D₂ i gs → (x : ℕ) → Any (λ k. k ≡ x) gs → D₁ x ≡ D₂ x
handed_same D D₁ D₂ i [] h k x a = absurd a
handed_same D D₁ D₂ i (g ∷ gs) h k x (inl e) = ap D₁ (sym e) ∙ h.0 ∙ sym k.0 ∙ ap D₂ e
handed_same D D₁ D₂ i (g ∷ gs) h k x (inr a) = handed_same D D₁ D₂ (D g) gs h.1 k.1 x a

-- ---- the walk back

module _ {m : ℕ} (n : ℕ) (M : ℕ → Matroid m) (D : ℕ → ℕ) (src S : Set) (L : Labels) (traced : Traced n M D src S L) where
  -- from g on, the list leads to the end
  pub record Walked (end g : ℕ) (gs : List ℕ) : Type 0 where
    pub rising : Rising n M D S L.level (L.level g) g gs
    pub handed : Handed D L.to (L.to g) (g ∷ gs)
    pub ends : last g gs ≡ end

  pub walked_end : (end : ℕ) → T (S end) → Walked end end []
  walked_end end s = record { rising = (traced.below end s, s, refl); handed = (refl, tt); ends = refl }

  -- g was reached
  walked_in : (end g : ℕ) (gs : List ℕ) → Walked end g gs → T (S g)
  walked_in end g [] w = w.rising.1
  walked_in end g (h ∷ hs) w = w.rising.1

  -- one step back, from a number that is not a root
  pub walked_back : (end g : ℕ) (gs : List ℕ) → Walked end g gs → L.level g ≢ 0 → Walked end (L.parent g) (g ∷ gs)
  walked_back end g gs w d = go (traced.reason g (walked_in end g gs w))
    where
      go : Reason n M D src S L g → Walked end (L.parent g) (g ∷ gs)
      go (root z is l c) = absurd (d z)
      go (step s l e t) = record {
        rising = (traced.below (L.parent g) s, s, refl, e, subst (λ (c : ℕ). Rising n M D S L.level c g gs) (let up : L.level g ≡ suc (L.level (L.parent g)) = omega arith in up) w.rising);
        handed = (refl, (t, w.handed.1));
        ends = w.ends;
      }

  -- a number above level 0 has a parent one level below
  pub parent_level : (end g : ℕ) (gs : List ℕ) → Walked end g gs → L.level g ≢ 0 → (T (S (L.parent g))) × (L.level g ≡ L.level (L.parent g) + 1)
  parent_level end g gs w d = go (traced.reason g (walked_in end g gs w))
    where
      go : Reason n M D src S L g → (T (S (L.parent g))) × (L.level g ≡ L.level (L.parent g) + 1)
      go (root z is l c) = absurd (d z)
      go (step s l e t) = (s, l)

  -- whoever gets a reached number is a team
  pub to_team : (g : ℕ) → T (S g) → L.to g < n
  to_team g s = go (traced.reason g s)
    where
      go : Reason n M D src S L g → L.to g < n
      go (root z is l c) = l
      go (step p l e t) = rw t e.0

  -- some team is a source, where anything was reached
  module _ (end g : ℕ) (gs : List ℕ) (w : Walked end g gs) where
    -- its numbers are reached and different
    walked_labels : (i : ℕ) → i < n → T (src i) → All (Label m S L.level (L.level g)) (g ∷ gs)
    walked_labels i l s = rising_labels n M D i S L.level (traced.levels i l s) (L.level g) g gs w.rising

    pub walked_distinct : (i : ℕ) → i < n → T (src i) → Distinct (g ∷ gs)
    walked_distinct i l s = rising_distinct n M D i S L.level (traced.levels i l s) (L.level g) g gs w.rising

    pub walked_below : (i : ℕ) → i < n → T (src i) → All (λ k. k < m) (g ∷ gs)
    walked_below i l s = all_imp (λ k x. x.below) (g ∷ gs) (walked_labels i l s)

    pub walked_reached : (i : ℕ) → i < n → T (src i) → All (λ k. T (S k)) (g ∷ gs)
    walked_reached i l s = all_imp (λ k x. x.known) (g ∷ gs) (walked_labels i l s)

    -- so it has at most m
    pub walked_short : (i : ℕ) → i < n → T (src i) → length (g ∷ gs) ≤ m
    walked_short i l s = distinct_length m (g ∷ gs) (walked_below i l s) (walked_distinct i l s)

  -- ---- carried out

  -- back at level 0 the list is a chain with no short cut from a source team
  module _ (end g : ℕ) (gs : List ℕ) (w : Walked end g gs) (z : L.level g ≡ 0) where
    root_of : T (src (L.to g)) × (L.to g < n) × CanGain M D (L.to g) g
    root_of = go (traced.reason g (walked_in end g gs w))
      where
        go : Reason n M D src S L g → T (src (L.to g)) × (L.to g < n) × CanGain M D (L.to g) g
        go (root z is l c) = (is, l, c)
        go (step s l e t) = absurd (omega arith)

    pub walked_source : T (src (L.to g))
    walked_source = root_of.0

    pub walked_team : L.to g < n
    walked_team = root_of.1

    pub walked_chain : Chain n M D (L.to g) (g ∷ gs)
    walked_chain =
        rising_chain n M D (L.to g) S L.level (traced.levels (L.to g) walked_team walked_source) g gs root_of.2
        (subst (λ (c : ℕ). Rising n M D S L.level c g gs) z w.rising)

    -- who gives each of the list to the team that its label says, and moves nothing else, has carried the chain out
    pub carried : (D' : ℕ → ℕ) → ((x : ℕ) → Any (λ k. k ≡ x) (g ∷ gs) → D' x ≡ L.to x) → ((x : ℕ) → All (λ k. x ≢ k) (g ∷ gs) → D' x ≡ D x) → D' ≡ carry D (L.to g) (g ∷ gs)
    carried D' inside outside = fun_ext (λ x. elim (in_list x (g ∷ gs)) [
      | inl i ↦ inside x i ∙ handed_same D L.to (carry D (L.to g) (g ∷ gs)) (L.to g) (g ∷ gs) w.handed (carry_handed D (L.to g) (g ∷ gs) walked_chain.distinct) x i
      | inr o ↦ outside x o ∙ sym (carry_other D (L.to g) (g ∷ gs) x o)
    ])

    pub carried_sound : Sound n M D → Sound n M (carry D (L.to g) (g ∷ gs))
    carried_sound sound = carry_sound n M D (L.to g) (g ∷ gs) sound walked_chain
