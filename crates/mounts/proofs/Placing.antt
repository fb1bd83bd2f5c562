-- How a matching changes where an instrument takes a mount.
use Prim.Native.Nat.{ℕ, suc, ◌<◌}
use mathlib.Core.Path.{◌≡◌, refl, sym, ◌∙◌, subst, subst⁻¹, fun_ext}
use mathlib.Core.Bool.{not}
use mathlib.Core.Logic.{◌⊎◌, inl, inr, ◌≢◌}
use mathlib.Core.List.{List}
use native.Mathlib.Omega.{arith}
use native.Mathlib.Decide.{dec_lt, ℕ_discrete}
use lib.Dec.{T, T_not, not_T}
use lib.ListN.{get_or, set, length-set}
use lib.Seq.{get_or-set_same, get_or-set_other}
use Rattle.matroid.specs.Taut.{decide_T, both, and_left}
use Rattle.matroid.specs.Set.{Set, with, without}
use Rattle.matroid.specs.SetLaws.{ne→eqb, with_cases, with_new, with_old, without_ne}
use Rattle.mounts.specs.Mounts.{Mounted, mounts}
use Rattle.mounts.specs.Matching.{Placed}

-- a member of A is one of A with g
pub old_in : (A : Set) (g k : ℕ) → T (A k) → T (with A g k)
old_in A g k t = (with_old {m = suc k} A g).at k (omega arith) t

-- the same instruments and the same free mounts
pub placed_same : {fits : ℕ → Set} {A B : Set} {on : List ℕ} {free next : Set} → ((k : ℕ) → A k ≡ B k) → ((k : ℕ) → free k ≡ next k) → Placed fits A on free → Placed fits B on next
placed_same {fits} {A} {B} {on} {free} {next} e f h = subst (λ (S : Set). Placed fits S on next) (fun_ext e) (subst (λ (S : Set). Placed fits A on S) (fun_ext f) h)

module _ (fits : ℕ → Set) (A : Set) (on : List ℕ) (free : Set) (h : Placed fits A on free) where
  -- the mount of a member: from a place where it is known that it is one
  abbrev pub pick : (g : ℕ) → Dec (g < 64) → T (A g) ⊎ T (not (A g)) → ℕ
  pick g (yes l) (inl a) = (h.mounted g l a).0
  pick g (yes l) (inr out) = 0
  pick g (no d) e = 0

  abbrev pub mount_in : ℕ → ℕ
  mount_in g = pick g (dec_lt g 64) (decide_T (A g))

  pub mount_in_lem : (g : ℕ) → g < 64 → T (A g) → (mount_in g < 32) × (T (not (free (mount_in g))) × (get_or on (mount_in g) 0 ≡ g))
  mount_in_lem g l a = go (dec_lt g 64) (decide_T (A g))
    where
      go : (d : Dec (g < 64)) (e : T (A g) ⊎ T (not (A g))) → (pick g d e < 32) × (T (not (free (pick g d e))) × (get_or on (pick g d e) 0 ≡ g))
      go (yes l') (inl a') = ((h.mounted g l' a').1, (h.mounted g l' a').2)
      go (yes l') (inr out) = absurd (T_not (A g) out a)
      go (no d) e = absurd (d l)

  -- what is placed can be mounted
  unfoldable pub placed_mounted : Mounted fits 64 A
  unfolding mounts
  placed_mounted = record {
    mount = mount_in;
    mount_lt = λ g l a. (mount_in_lem g l a).0;
    fit = λ g l a.
        let (lt, (used, e)) = mount_in_lem g l a in
        subst (λ (k : ℕ). T (fits k (mount_in g))) e (h.user (mount_in g) lt used).2;
    differ = λ g k l l' a b e. sym (mount_in_lem g l a).1.1 ∙ subst⁻¹ (λ (c : ℕ). get_or on c 0 ≡ k) e (mount_in_lem k l' b).1.1;
  }

  -- An instrument that is not placed takes a mount c that it fits.
  module _ (g c : ℕ) (small : g < 64) (out : T (not (A g))) (below : c < 32) (fit : T (fits g c)) where
    abbrev after : List ℕ
    after = set on c g

    here : get_or after c 0 ≡ g
    here = get_or-set_same on c g 0 (let long = h.long in omega arith)

    away : (d : ℕ) → d ≢ c → get_or after d 0 ≡ get_or on d 0
    away d ne = get_or-set_other on c d g 0 ne

    -- no other mount has it
    new : (d : ℕ) → d < 32 → T (not (free d)) → get_or on d 0 ≢ g
    new d l used e = T_not (A g) out (subst (λ (k : ℕ). T (A k)) e (h.user d l used).1)

    -- then a set is placed that has g, the instruments on other mounts, and no others; c is free no longer
    module _ (B : Set) (next : Set) (fewer : (d : ℕ) → T (next d) → T (free d)) (kept : (d : ℕ) → d ≢ c → T (free d) → T (next d))
        (gone : T (not (next c))) (has : T (B g)) (users : (d : ℕ) → d < 32 → d ≢ c → T (not (free d)) → T (B (get_or on d 0)))
        (others : (k : ℕ) → T (B k) → (k ≡ g) ⊎ (T (A k) × (T (not (free c)) → get_or on c 0 ≢ k))) where
      used_before : (d : ℕ) → d ≢ c → T (not (next d)) → T (not (free d))
      used_before d ne used = not_T (free d) (λ t. T_not (next d) used (kept d ne t))

      used_after : (d : ℕ) → T (not (free d)) → T (not (next d))
      used_after d used = not_T (next d) (λ t. T_not (free d) used (fewer d t))

      user_after : (d : ℕ) → d < 32 → T (not (next d)) → Dec (d ≡ c) → (get_or after d 0 < 64) × T (B (get_or after d 0)) × T (fits (get_or after d 0) d)
      user_after d l used (yes e) = rw (e, here) (small, has, fit)
      user_after d l used (no ne) =
          let was = used_before d ne used in
          let (s, a, f) = h.user d l was in
          rw (away d ne) (s, users d l ne was, f)

      mounted_after : (k : ℕ) → k < 64 → (k ≡ g) ⊎ (T (A k) × (T (not (free c)) → get_or on c 0 ≢ k)) → (d : ℕ) × (d < 32) × (T (not (next d)) × (get_or after d 0 ≡ k))
      mounted_after k l (inl e) = (c, below, (gone, here ∙ sym e))
      mounted_after k l (inr (a, other)) =
          let (d, lt, (used, e)) = h.mounted k l a in
          let ne : d ≢ c = λ same. other (subst (λ (x : ℕ). T (not (free x))) same used) (subst (λ (x : ℕ). get_or on x 0 ≡ k) same e) in
          (d, lt, (used_after d used, away d ne ∙ e))

      single_after : (d e : ℕ) → d < 32 → e < 32 → T (not (next d)) → T (not (next e)) → get_or after d 0 ≡ get_or after e 0 → Dec (d ≡ c) → Dec (e ≡ c) → d ≡ e
      single_after d e l l' used used' same (yes dc) (yes ec) = dc ∙ sym ec
      single_after d e l l' used used' same (yes dc) (no en) = absurd (new e l' (used_before e en used') (sym (away e en) ∙ sym same ∙ rw dc here))
      single_after d e l l' used used' same (no dn) (yes ec) = absurd (new d l (used_before d dn used) (sym (away d dn) ∙ same ∙ rw ec here))
      single_after d e l l' used used' same (no dn) (no en) = h.single d e l l' (used_before d dn used) (used_before e en used') (sym (away d dn) ∙ same ∙ away e en)

      replaced : Placed fits B after next
      replaced = record {
        long = length-set on c g ∙ h.long;
        low = λ d t. h.low d (fewer d t);
        user = λ d l used. user_after d l used (ℕ_discrete d c);
        mounted = λ k l t. mounted_after k l (others k t);
        single = λ d e l l' used used' same. single_after d e l l' used used' same (ℕ_discrete d c) (ℕ_discrete e c);
      }

    -- c was free: then g is placed as well
    pub settled : T (free c) → Placed fits (with A g) after (without free c)
    settled was = replaced (with A g) (without free c)
        (λ d t. and_left (free d) _ t)
        (λ d ne t. both (free d) _ t (ne→eqb d c ne))
        (not_T (without free c c) (λ t. without_ne free c c t refl))
        (with_new A g)
        (λ d l ne used. old_in A g (get_or on d 0) (h.user d l used).1)
        (λ k t. elim (with_cases A g k t) [ inl a ↦ inr (a, λ used. absurd (T_not (free c) used was)) | inr e ↦ inl e ])

    -- an instrument was on c: then g is placed in its stead
    pub displaced : T (not (free c)) → Placed fits (without (with A g) (get_or on c 0)) after free
    displaced used = replaced (without (with A g) (get_or on c 0)) free
        (λ d t. t)
        (λ d ne t. t)
        used
        (both (with A g g) _ (with_new A g) (ne→eqb g (get_or on c 0) (λ e. new c below used (sym e))))
        (λ d l ne other. both (with A g (get_or on d 0)) _ (old_in A g (get_or on d 0) (h.user d l other).1)
        (ne→eqb (get_or on d 0) (get_or on c 0) (λ same. ne (h.single d c l below other used same))))
        (λ k t. elim (with_cases A g k (and_left (with A g k) _ t)) [
          | inl a ↦ inr (a, λ _ e. without_ne (with A g) (get_or on c 0) k t (sym e))
          | inr e ↦ inl e
        ])
