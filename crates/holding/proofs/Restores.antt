-- Give and return undo each other, where both counts are right. The theorems ask for no instrument, no team and no length: what is refused changes
-- nothing.
use Prim.Native.Nat.{ℕ, ◌<◌}
use mathlib.Core.Path.{◌≡◌, refl, sym, ap, ◌∙◌}
use mathlib.Core.Bool.{Bool, true, false, ◌&&◌, not, and-false, and-not_self}
use mathlib.Core.List.{List}
use mathlib.Core.Logic.{◌⊎◌, inl, inr}
use native.Mathlib.Omega.{arith}
use native.Mathlib.Decide.{ℕ_discrete, dec_lt}
use lib.Dec.{ltb}
use lib.ListN.{length, get_or, set, length-set, get_or-eq_default}
use lib.Seq.{get_or-set_same, get_or-set_other, set-set, set-get_or, set_out}
use borrow.Author.Tests.{not-true, not-false}
use Rattle.holding.specs.declared.Holding.{Holding}
use Rattle.holding.specs.Count.{Right}
use Rattle.holding.specs.Give.{holder_of, is_instrument, is_team, in_pool, with_owner, gave, returned}
use Rattle.holding.proofs.Tests.{and_left, and_right}
use Rattle.holding.proofs.Counting.{right_counted}

-- the holding with 255 for g
abbrev pooled : Holding → ℕ → Holding
pooled h g = with_owner h (set h.owner g 255)

-- where 255 stands, no team holds the instrument
pool_255 : (h : Holding) (g : ℕ) → holder_of h g ≡ 255 → in_pool h g ≡ true
unfolding in_pool is_team
pool_255 h g e = rw (e, and-false (ltb 255 h.n)) refl

-- where 255 is written, it stands
reads_255 : (owner : List ℕ) (g : ℕ) → get_or (set owner g 255) g 255 ≡ 255
reads_255 owner g = elim (dec_lt g (length owner)) [
  | yes low ↦ get_or-set_same owner g 255 255 low
  | no high ↦ let long = length-set owner g 255 in get_or-eq_default (set owner g 255) 255 (omega arith)
]

-- so the instrument is in the pool
pooled_pool : (h : Holding) (g : ℕ) → in_pool (pooled h g) g ≡ true
unfolding holder_of
pooled_pool h g = pool_255 (pooled h g) g (reads_255 h.owner g)

-- a give that is carried out
gave_set : (h : Holding) (g t : ℕ) → is_instrument h g ≡ true → is_team h t ≡ true → in_pool h g ≡ true → gave h g t ≡ with_owner h (set h.owner g t)
unfolding gave
gave_set h g t i e p = rw (i, e, p) refl

-- a return that is carried out
returned_set : (h : Holding) (g : ℕ) → is_instrument h g ≡ true → in_pool h g ≡ false → returned h g ≡ pooled h g
unfolding returned
returned_set h g i p = rw (i, p) refl

-- a give to what stands there is refused: it is no team, or the instrument is not in the pool
gave_held : (h : Holding) (g : ℕ) → gave h g (holder_of h g) ≡ h
unfolding gave in_pool
gave_held h g = rw (and-not_self, and-false) refl

-- a return of an instrument of the pool is refused
returned_pool : (h : Holding) (g : ℕ) → in_pool h g ≡ true → returned h g ≡ h
unfolding returned
returned_pool h g p = rw (p, and-false) refl

-- A give to its holder after a return restores the holding.
pub gave_returned : (h : Holding) (g : ℕ) → Right h → gave (returned h g) g (holder_of h g) ≡ h
unfolding returned in_pool is_instrument is_team holder_of
gave_returned h g right = go (is_instrument h g && not (in_pool h g)) refl
  where
    go : (c : Bool) → (is_instrument h g && not (in_pool h g)) ≡ c → gave (returned h g) g (holder_of h g) ≡ h
    go false e = rw e (gave_held h g)
    go true e =
        let instrument = and_left (is_instrument h g) (not (in_pool h g)) e in
        let team = not-false (is_team h (holder_of h g)) (not-true (in_pool h g) (and_right (is_instrument h g) (not (in_pool h g)) e)) in
        rw e (gave_set (pooled h g) g (holder_of h g) instrument team (pooled_pool h g) ∙ ap (with_owner h) (set-set h.owner g 255 (holder_of h g) ∙ set-get_or h.owner g 255) ∙ sym (right_counted h right))

-- what a return after a give comes to: the holding, or the holding with 255 for g
abbrev Undone : Holding → (g t : ℕ) → Type 0
Undone h g t = (returned (gave h g t) g ≡ h) ⊎ (returned (gave h g t) g ≡ pooled h g)

-- it does, for an instrument of the pool
undone : (h : Holding) (g t : ℕ) → Right h → in_pool h g ≡ true → Undone h g t
unfolding gave in_pool is_instrument is_team holder_of
undone h g t right p = go (is_instrument h g && (is_team h t && in_pool h g)) refl (dec_lt g (length h.owner))
  where
    go : (c : Bool) → (is_instrument h g && (is_team h t && in_pool h g)) ≡ c → Dec (g < length h.owner) → Undone h g t
    go false e low = inl (rw e (returned_pool h g p))
    go true e (no high) = inl (rw (e, set_out h.owner g t (omega arith), sym (right_counted h right)) (returned_pool h g p))
    go true e (yes low) =
        let instrument = and_left (is_instrument h g) (is_team h t && in_pool h g) e in
        let team = and_left (is_team h t) (in_pool h g) (and_right (is_instrument h g) (is_team h t && in_pool h g) e) in
        let held = ap (λ (x : ℕ). not (is_team h x)) (get_or-set_same h.owner g t 255 low) ∙ ap not team in
        inr (rw e (returned_set (with_owner h (set h.owner g t)) g instrument held ∙ ap (with_owner h) (set-set h.owner g t 255)))

-- A return after a give restores the holding where 255 stood.
pub returned_gave : (h : Holding) (g t : ℕ) → Right h → holder_of h g ≡ 255 → returned (gave h g t) g ≡ h
unfolding holder_of
returned_gave h g t right e = go (undone h g t right (pool_255 h g e))
  where
    go : Undone h g t → returned (gave h g t) g ≡ h
    go (inl same) = same
    go (inr was) = was ∙ ap (with_owner h) (ap (set h.owner g) (sym e) ∙ set-get_or h.owner g 255) ∙ sym (right_counted h right)

-- Whatever stood there that is no team, every place is restored: the pool is the same, and what is held has the same holder.
pub returned_gave_places : (h : Holding) (g t : ℕ) → Right h → in_pool h g ≡ true
    → (k : ℕ) → (in_pool (returned (gave h g t) g) k ≡ in_pool h k) × (in_pool h k ≡ false → holder_of (returned (gave h g t) g) k ≡ holder_of h k)
unfolding in_pool is_team holder_of
returned_gave_places h g t right p k = go (undone h g t right p) (ℕ_discrete k g)
  where
    go : Undone h g t → Dec (k ≡ g) → (in_pool (returned (gave h g t) g) k ≡ in_pool h k) × (in_pool h k ≡ false → holder_of (returned (gave h g t) g) k ≡ holder_of h k)
    go (inl same) is = rw same (refl, λ held. refl)
    go (inr was) (yes e) = rw (was, e) (pooled_pool h g ∙ sym p, λ held. let both : true ≡ false = sym p ∙ held in let z : ◌≡◌ {A = ℕ} 0 1 = cc in absurd (omega arith))
    go (inr was) (no d) = let same = get_or-set_other h.owner g k 255 255 d in rw was (ap (λ (x : ℕ). not (is_team h x)) same, λ held. same)
