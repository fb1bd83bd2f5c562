-- The sets of which every member can have a mount of its own are a matroid, the transversal matroid.
use Rattle.std.specs.Prelude.{ℕ, zero, suc, ◌+◌, ◌<◌, ◌≡◌, ◌&&◌, not, ◌⊎◌, ◌↔◌, ◌≢◌, List}
use Rattle.std.proofs.Common.{sym, ◌∙◌, subst}
use Rattle.std.proofs.Math.Logic.{inl, inr}
use Rattle.std.proofs.Math.Logic.Dec
use native.Mathlib.Omega.{arith}
use Rattle.std.proofs.Math.Decide.{ℕ_discrete}
use Rattle.std.proofs.Math.Dec.{T, eqb, eqb→eq, eqb_refl, not_T}
use Rattle.matroid.specs.Taut.{decide_T, both, and_left, and_right}
use Rattle.matroid.specs.Decide.{T?, dec_both, dec_and, dec_iff, below_suc, some?}
use Rattle.matroid.specs.Set.{Set, none, ◌∩◌, with, without, size, Within}
use Rattle.matroid.specs.SetLaws.{ne→eqb, differ, within_refl, with_old, with_cases, inter_left, without_ne, size_within, size_with, size_inject}
use Rattle.matroid.specs.Matroid.{Matroid, Gain}
use Rattle.matroid.specs.Division.{move}
use Rattle.matroid.specs.DivisionLaws.{move_here, move_away}
use Rattle.mounts.specs.Mounts.{mounts, Mounted, fits_of}

-- f, but g has the value c
module _ (f : ℕ → ℕ) (g c : ℕ) where
  -- what holds for c at g, and for the values of f elsewhere, holds for all its values
  move_all : (P : ℕ → ℕ → Type 0) (k : ℕ) → (k ≡ g → P k c) → (k ≢ g → P k (f k)) → P k (move f g c k)
  move_all P k here other = elim (ℕ_discrete k g) [
    | yes e ↦ subst (P k) (sym (move_here f g c k e)) (here e)
    | no ne ↦ subst (P k) (sym (move_away f g c k ne)) (other ne)
  ]

  -- where f takes no value twice, and not c, it takes no value twice
  move_differ : (P : ℕ → Type 0) → ((k : ℕ) → P k → k ≢ g → f k ≢ c) → ((h k : ℕ) → P h → P k → h ≢ g → k ≢ g → f h ≡ f k → h ≡ k)
      → (h k : ℕ) → P h → P k → move f g c h ≡ move f g c k → h ≡ k
  move_differ P new differ h k p q e = elim (ℕ_discrete h g) [
    | yes hg ↦ elim (ℕ_discrete k g) [
      | yes kg ↦ hg ∙ sym kg
      | no kn ↦ absurd (new k q kn (sym (move_away f g c k kn) ∙ sym e ∙ move_here f g c h hg))
    ]
    | no hn ↦ elim (ℕ_discrete k g) [
      | yes kg ↦ absurd (new h p hn (sym (move_away f g c h hn) ∙ e ∙ move_here f g c k kg))
      | no kn ↦ differ h k p q hn kn (sym (move_away f g c h hn) ∙ e ∙ move_away f g c k kn)
    ]
  ]

module _ {fits fits' : ℕ → Set} {n m : ℕ} {A S : Set} (M : Mounted fits n A) where
  -- the mounts of A for a set within A that they fit too
  pub mounted_in : ((g : ℕ) → g < m → T (S g) → (g < n) × T (A g) × T (fits' g (M.mount g))) → Mounted fits' m S
  mounted_in into = record {
    mount = M.mount;
    mount_lt = λ g l s. M.mount_lt g (into g l s).0 (into g l s).1;
    fit = λ g l s. (into g l s).2;
    differ = λ g h l k s t. M.differ g h (into g l s).0 (into h k t).0 (into g l s).1 (into h k t).1;
  }

  -- the mount c for g, and for the others the mounts of A, none of them c
  mounted_set : (g c : ℕ) → c < mounts → T (fits' g c)
      → ((h : ℕ) → h < m → T (S h) → h ≢ g → (h < n) × T (A h) × T (fits' h (M.mount h)) × (M.mount h ≢ c)) → Mounted fits' m S
  mounted_set g c cl f others = record {
    mount = move M.mount g c;
    mount_lt = λ k l s. move_all M.mount g c (λ k v. v < mounts) k (λ e. cl) (λ ne. let (l', a, _, _) = others k l s ne in M.mount_lt k l' a);
    fit = λ k l s. move_all M.mount g c (λ k v. T (fits' k v)) k (λ e. rw e f) (λ ne. (others k l s ne).2);
    differ = λ h k l l' s t. move_differ M.mount g c (λ k. (k < m) × T (S k))
        (λ k (l, s) ne. (others k l s ne).3)
        (λ h k (l, s) (l', t) hn kn. M.differ h k (others h l s hn).0 (others k l' t kn).0 (others h l s hn).1 (others k l' t kn).1)
        h k (l, s) (l', t);
  }

-- where n is not in A, it needs no mount
pub mounted_skip : (fits : ℕ → Set) (n : ℕ) (A : Set) → T (not (A n)) → Mounted fits n A ↔ Mounted fits (suc n) A
mounted_skip fits n A out = (λ M. mounted_in M (below M), λ M. mounted_in M (λ g l a. (omega arith, a, M.fit g (omega arith) a)))
  where
    below : (M : Mounted fits n A) (g : ℕ) → g < suc n → T (A g) → (g < n) × T (A g) × T (fits g (M.mount g))
    below M g l a = elim (below_suc l) [ inl l' ↦ (l', a, M.fit g l' a) | inr e ↦ absurd (differ A a out e) ]

-- where n is in A, it needs a mount, and the others the mounts left
pub mounted_last : (fits : ℕ → Set) (n : ℕ) (A : Set) → T (A n)
    → ((c : ℕ) × (c < mounts) × (T (fits n c) × Mounted (λ g. without (fits g) c) n A)) ↔ Mounted fits (suc n) A
mounted_last fits n A a = (
  λ (c, l, (f, M)). mounted_set M n c l f (others c M),
  λ M. (M.mount n, M.mount_lt n (omega arith) a, (M.fit n (omega arith) a, mounted_in M (left M))),
)
  where
    others : (c : ℕ) (M : Mounted (λ g. without (fits g) c) n A) (h : ℕ) → h < suc n → T (A h) → h ≢ n
        → (h < n) × T (A h) × T (fits h (M.mount h)) × (M.mount h ≢ c)
    others c M h l t other =
        let l' : h < n = omega arith in
        let f = M.fit h l' t in
        (l', t, and_left (fits h (M.mount h)) _ f, without_ne (fits h) c (M.mount h) f)

    left : (M : Mounted fits (suc n) A) (g : ℕ) → g < n → T (A g) → (g < suc n) × T (A g) × T (without (fits g) (M.mount n) (M.mount g))
    left M g l t =
        let l' : g < suc n = omega arith in
        let other : M.mount g ≢ M.mount n = λ e. let same = M.differ g n l' (omega arith) t a e in omega arith in
        (l', t, both (fits g (M.mount g)) _ (M.fit g l' t) (ne→eqb (M.mount g) (M.mount n) other))

-- whether there are mounts for all: try each for the last
unfoldable pub mounted? : (fits : ℕ → Set) (n : ℕ) (A : Set) → Dec (Mounted fits n A)
unfolding mounts
mounted? fits zero A = yes (record {
  mount = λ g. g;
  mount_lt = λ g l a. omega arith;
  fit = λ g l a. absurd (omega arith);
  differ = λ g h l l' a b e. omega arith;
})
mounted? fits (suc n) A = elim (decide_T (A n)) [
  | inr out ↦ dec_iff (mounted_skip fits n A out) (mounted? fits n A)
  | inl a ↦ dec_iff (mounted_last fits n A a) (some? (λ c. T (fits n c) × Mounted (λ g. without (fits g) c) n A)
      (λ c. dec_and (T? (fits n c)) (λ _. mounted? (λ g. without (fits g) c) n A)) mounts)
]

module _ (fits : ℕ → Set) (m : ℕ) where
  pub mounted_none : Mounted fits m none
  mounted_none = record { mount = λ g. g; mount_lt = λ g l t. absurd t; fit = λ g l t. absurd t; differ = λ g h l k t. absurd t }

  pub mounted_part : {A B : Set} → Within m A B → Mounted fits m B → Mounted fits m A
  mounted_part h M = mounted_in M (λ g l a. (l, h.at g l a, M.fit g l (h.at g l a)))

  -- a member of A has the mount c
  abbrev pub Used : {A : Set} → Mounted fits m A → ℕ → Type 0
  Used {A} M c = (h : ℕ) × (h < m) × (T (A h) × (M.mount h ≡ c))

  pub used? : {A : Set} (M : Mounted fits m A) (c : ℕ) → Dec (Used M c)
  used? {A} M c = some? (λ h. T (A h) × (M.mount h ≡ c)) (λ h. dec_both (T? (A h)) (ℕ_discrete (M.mount h) c)) m

  module _ (A B : Set) (MB : Mounted fits m B) where
    -- a larger B has a member whose mount no member of A has
    unused : (MA : Mounted fits m A) → size m A < size m B → (g : ℕ) × (g < m) × (T (B g) × (Used MA (MB.mount g) → ⊥))
    unused MA more = elim (some? (λ g. T (B g) × (Used MA (MB.mount g) → ⊥)) (λ g. dec_both (T? (B g)) (Dec.not (used? MA (MB.mount g)))) m) [
      | yes s ↦ s
      | no never ↦
          let used : (g : ℕ) → g < m → T (B g) → Used MA (MB.mount g) = λ g l b. (Dec.not-not (used? MA (MB.mount g))).0 (λ out. never (g, l, (b, out))) in
          let no-larger = size_inject m m B A (λ g h. MA.mount h ≡ MB.mount g) used (λ g g' h l l' b b' e e'. MB.differ g g' l l' b b' (sym e ∙ e')) in
          absurd (omega arith)
    ]

    -- the members of A that have in A the mount that they have in B
    abbrev agreed : Mounted fits m A → Set
    agreed MA = A ∩ (λ g. eqb (MA.mount g) (MB.mount g))

    -- let g be a member of B whose mount no member of A has
    module _ (MA : Mounted fits m A) (g : ℕ) (l : g < m) (b : T (B g)) (new : Used MA (MB.mount g) → ⊥) where
      -- in A with g, or a part of it, g can have that mount
      moved : (S : Set) → Within m S (with A g) → Mounted fits m S
      moved S within = mounted_set MA g (MB.mount g) (MB.mount_lt g l b) (MB.fit g l b) (λ h l t other.
          elim (with_cases A g h (within.at h l t)) [ inl a ↦ (l, a, MA.fit h l a, λ e. new (h, l, (a, e))) | inr e ↦ absurd (other e) ])

      -- if g is in A, that brings one more mount to agree
      moved_agrees : T (A g) → size m (agreed MA) < size m (agreed (moved A (with_old A g)))
      unfolding moved mounted_set
      moved_agrees a =
          let one_more = size_with m (agreed MA) g l (not_T (agreed MA g) (λ t. new (g, l, (a, eqb→eq (MA.mount g) (MB.mount g) (and_right (A g) _ t))))) in
          let no-larger = size_within m {A = with (agreed MA) g} {B = agreed (moved A (with_old A g))} agrees in
          omega arith
        where
          agrees : Within m (with (agreed MA) g) (A ∩ (λ k. eqb (move MA.mount g (MB.mount g) k) (MB.mount k)))
          agrees = record {
            at = λ k l t. move_all MA.mount g (MB.mount g) (λ k v. T (A k && eqb v (MB.mount k))) k
                (λ e. rw e (both (A g) _ a (eqb_refl (MB.mount g))))
                (λ ne. elim (with_cases (agreed MA) g k t) [ inl old ↦ old | inr e ↦ absurd (ne e) ]);
          }

    -- A gains that member, or has it already, and another mount comes to agree
    closer : (MA : Mounted fits m A) → size m A < size m B
        → Gain m (Mounted fits m) A B ⊎ ((MA' : Mounted fits m A) × (size m (agreed MA) < size m (agreed MA')))
    closer MA more =
        let (g, l, (b, new)) = unused MA more in
        elim (decide_T (A g)) [
          | inr out ↦ inl (record { at = g; below = l; there = b; fresh = out; indep = moved MA g l b new (with A g) within_refl })
          | inl a ↦ inr (moved MA g l b new A (with_old A g), moved_agrees MA g l b new a)
        ]

    -- no more mounts can agree than there are members, so that comes to an end
    closest : (fuel : ℕ) (MA : Mounted fits m A) → size m A < fuel + size m (agreed MA) → size m A < size m B → Gain m (Mounted fits m) A B
    closest zero MA bound more = let most = size_within m (inter_left A (λ g. eqb (MA.mount g) (MB.mount g))) in absurd (omega arith)
    closest (suc fuel) MA bound more = elim (closer MA more) [ inl gained ↦ gained | inr (MA', rise) ↦ closest fuel MA' (omega arith) more ]

  -- the smaller of two sets with mounts can gain a member of the larger
  pub mounted_gain : {A B : Set} → Mounted fits m A → Mounted fits m B → size m A < size m B → Gain m (Mounted fits m) A B
  mounted_gain {A} {B} MA MB more = closest A B MB (suc (size m A)) MA (omega arith) more

  unfoldable pub transversal : Matroid m
  unfolding mounted?
  transversal = record { Indep = Mounted fits m; decide = mounted? fits m; empty = mounted_none; part = mounted_part; gain = mounted_gain }

-- the matroid of a team's tables
abbrev pub mounts_of : (m : ℕ) (named first second third fourth : List ℕ) → Matroid m
mounts_of m named first second third fourth = transversal (fits_of named first second third fourth) m
