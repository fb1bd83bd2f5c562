-- What the mounts that can be freed tell: who may join, and how the instruments move.
use Prim.Native.Nat.{ℕ, zero, suc, ◌≤◌, ◌<◌}
use mathlib.Core.Path.{◌≡◌, refl, sym, ◌∙◌, subst, subst⁻¹, fun_ext}
use mathlib.Core.Bool.{Bool, true, false, ◌&&◌, ◌||◌, not}
use mathlib.Core.Logic.{inl, inr}
use mathlib.Core.List.{List}
use native.Mathlib.Omega.{arith}
use native.Mathlib.Decide.{ℕ_discrete}
use lib.Dec.{T, T_not, not_T}
use lib.ListN.{get_or, set}
use lib.Seq.{get_or-set_other}
use borrow.Author.Tests.{ne_eqb}
use Rattle.matroid.specs.Taut.{decide_T, T→true}
use Rattle.matroid.specs.Set.{Set, with, without}
use Rattle.matroid.specs.SetLaws.{with_new, without_ne}
use Rattle.sets.specs.Bits.{bit}
use Rattle.mounts.specs.declared.matching.Matching.{Matching}
use Rattle.mounts.specs.declared.matching.Freed.{Freed}
use Rattle.mounts.specs.Mounts.{mounts, Mounted}
use Rattle.mounts.specs.Matching.{Placed, Matched, Leads, Closed}
use Rattle.mounts.proofs.Blocked.{mounted_blocked}
use Rattle.mounts.proofs.Placing.{old_in, mount_in, mount_in_lem, placed_mounted, settled, displaced}

-- an instrument that fits no mount that can be freed cannot be mounted beside the others
module _ (fits : ℕ → Set) (held : Matching) (s : Freed) (h : Matched fits held) (leads : Leads fits held s) (closed : Closed fits held s) where
  pub blocked : (g : ℕ) → g < 64 → T (not (bit held.taken g)) → ((c : ℕ) → T (bit s.set c) → T (not (fits g c))) → Mounted fits 64 (with (bit held.taken) g) → ⊥
  unfolding mounts placed_mounted
  blocked g l out never = mounted_blocked fits 64 (bit held.taken) g (placed_mounted fits _ _ _ h) (λ c. not (bit s.set c)) l out used for_g for_users
    where
      placed : (k : ℕ) → k < 64 → T (bit held.taken k) → (mount_in fits _ _ _ h k < 32) × (T (not (bit held.free (mount_in fits _ _ _ h k))) × (get_or held.on (mount_in fits _ _ _ h k) 0 ≡ k))
      placed = mount_in_lem fits _ _ _ h

      used : (c : ℕ) → c < 32 → T (not (bit s.set c)) → (k : ℕ) × (k < 64) × (T (bit held.taken k) × (mount_in fits _ _ _ h k ≡ c))
      used c cl outside =
          let busy = not_T (bit held.free c) (λ t. T_not (bit s.set c) outside (leads.start c t)) in
          let (kl, a, _) = h.user c cl busy in
          let (lt, (u, e)) = placed (get_or held.on c 0) kl a in
          (get_or held.on c 0, kl, (a, h.single _ c lt cl u busy e))

      for_g : (c : ℕ) → c < 32 → T (fits g c) → T (not (bit s.set c))
      for_g c cl f = not_T (bit s.set c) (λ t. T_not (fits g c) (never c t) f)

      for_users : (k : ℕ) → k < 64 → T (bit held.taken k) → T (not (bit s.set (mount_in fits _ _ _ h k))) → (c : ℕ) → c < 32 → T (fits k c) → T (not (bit s.set c))
      for_users k kl a outside c cl f =
          let (lt, (u, e)) = placed k kl a in
          not_T (bit s.set c) (λ t. T_not (fits k c) (subst (λ (x : ℕ). T (not (fits x c))) e (closed _ c lt outside t)) f)

-- a set without one of its members, and with it again
back : (B : Set) (g k : ℕ) → T (B g) → with (without B g) g k ≡ B k
back B g k t = go (ℕ_discrete k g)
  where
    same : (b : Bool) → ((b && not false) || false) ≡ b
    same true = refl
    same false = refl

    go : Dec (k ≡ g) → with (without B g) g k ≡ B k
    go (yes e) = rw e (T→true _ (with_new (without B g) g) ∙ sym (T→true _ t))
    go (no ne) = rw (ne_eqb k g ne) (same (B k))

-- The instruments on the way: all but `mover` are placed, it fits the mount `at`, and mounts no deeper than that have the instruments they had.
pub record Moving (fits : ℕ → Set) (held : Matching) (s : Freed) (W : Set) (on : List ℕ) (mover at : ℕ) : Type 0 where
  pub rest : Set
  pub placed : Placed fits rest on (bit held.free)
  pub out : T (not (rest mover))
  pub whole : (k : ℕ) → with rest mover k ≡ W k
  pub small : mover < 64
  pub there : T (bit s.set at)
  pub fit : T (fits mover at)
  pub same : (c : ℕ) → get_or s.depth c 0 ≤ get_or s.depth at 0 → get_or on c 0 ≡ get_or held.on c 0

-- an instrument beside those that are placed sets out for a mount that can be freed
pub moving_start : (fits : ℕ → Set) (held : Matching) (s : Freed) (A : Set) (g at : ℕ) → Placed fits A held.on (bit held.free) → g < 64 → T (not (A g)) → T (bit s.set at) → T (fits g at)
    → Moving fits held s (with A g) held.on g at
moving_start fits held s A g at h l out there fit = record {
  rest = A;
  placed = h;
  out = out;
  whole = λ k. refl;
  small = l;
  there = there;
  fit = fit;
  same = λ c deep. refl;
}

module _ (fits : ℕ → Set) (held : Matching) (s : Freed) (leads : Leads fits held s) (W : Set) (on : List ℕ) (mover at : ℕ) (h : Moving fits held s W on mover at) where
  -- the mount is free: all are placed
  pub moving_done : T (bit held.free at) → Placed fits W (set on at mover) (without (bit held.free) at)
  moving_done free =
      subst (λ (B : Set). Placed fits B (set on at mover) (without (bit held.free) at)) (fun_ext h.whole)
      (settled fits h.rest on (bit held.free) h.placed mover at h.small h.out (leads.low at h.there) h.fit free)

  -- it is not: the instrument that is there moves on
  pub moving_on : T (not (bit held.free at)) → Moving fits held s W (set on at mover) (get_or on at 0) (get_or s.next at 0)
  moving_on used =
      let low = leads.low at h.there in
      let (small, a, _) = h.placed.user at low used in
      let (there, fit, less) = leads.step at h.there used in
      let same = h.same at (omega arith) in
      record {
        rest = without (with h.rest mover) (get_or on at 0);
        placed = displaced fits h.rest on (bit held.free) h.placed mover at h.small h.out low h.fit used;
        out = not_T (without (with h.rest mover) (get_or on at 0) (get_or on at 0)) (λ t. without_ne (with h.rest mover) (get_or on at 0) (get_or on at 0) t refl);
        whole = λ k. back (with h.rest mover) (get_or on at 0) k (old_in h.rest mover (get_or on at 0) a) ∙ h.whole k;
        small = small;
        there = there;
        fit = subst⁻¹ (λ (x : ℕ). T (fits x (get_or s.next at 0))) same fit;
        same = λ c deep. get_or-set_other on at c mover 0 (λ e. let d : get_or s.depth c 0 ≡ get_or s.depth at 0 = rw e refl in absurd (omega arith)) ∙ h.same c (omega arith);
      }

-- so an instrument that fits a mount that can be freed can be mounted beside the others
pub reachable : (fuel : ℕ) (fits : ℕ → Set) (held : Matching) (s : Freed) → Leads fits held s → (W : Set) (on : List ℕ) (mover at : ℕ) → Moving fits held s W on mover at
    → get_or s.depth at 0 < fuel → Mounted fits 64 W
reachable zero fits held s leads W on mover at h less = absurd (omega arith)
reachable (suc fuel) fits held s leads W on mover at h less = elim (decide_T (bit held.free at)) [
  | inl free ↦ placed_mounted fits W _ _ (moving_done fits held s leads W on mover at h free)
  | inr used ↦
      let (_, _, deep) = leads.step at h.there used in
      reachable fuel fits held s leads W _ _ _ (moving_on fits held s leads W on mover at h used) (omega arith)
]
