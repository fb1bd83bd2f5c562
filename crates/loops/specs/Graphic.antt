-- The matroid of LOOPS with its two laws: the graphic matroid.
use Prim.Native.Nat.{ℕ, zero, suc, ◌+◌, ◌≤◌, ◌<◌}
use Rattle.std.specs.Prelude.{◌≡◌, not, List, ◌⊎◌, ◌↔◌, ◌≢◌, get_or}
use Rattle.std.proofs.Common.{sym, ◌∙◌}
use Rattle.std.proofs.Math.Path.{ap}
use Rattle.std.proofs.Math.Logic.{inl, inr, Equivalence}
use native.Mathlib.Omega.{arith}
use Rattle.std.proofs.Math.Decide.{ℕ_discrete}
use Rattle.std.proofs.Math.Dec.{T, eqb, eqb_refl, T_not, not_T}
use Rattle.matroid.specs.Taut.{decide_T, T→true, T→false}
use Rattle.matroid.specs.Decide.{T?, dec_both, dec_iff, dec_implies, some?, all?}
use Rattle.matroid.specs.Set.{Set, none, one, size, Within, with}
use Rattle.matroid.specs.SetLaws.{differ, with_old, with_new, with_cases, with_least, within_none, within_trans, size_all}
use Rattle.matroid.specs.Matroid.{Matroid, Gain}
use Rattle.team.specs.Team.{joints}
use Rattle.loops.specs.Net.{Net, net, spans, ClosedLoop, back, LoopFree}
use Rattle.loops.specs.Links.{spans_iff, loop_in, joins_relate, joins_unrelate, joins_spans}
use Rattle.sets.proofs.Through.{run}
use Rattle.loops.specs.Trail.{trail, close}
use Rattle.loops.specs.Groups.{same_label}
use Rattle.loops.specs.Labels.{labels, Taken, Together, Bridges, bridges?, no_bridge, labels_skip, taken_together, together_walk, together_least, groups, groups_same, groups_bridge, groups_coarser}

-- round a circle, a value that changes nowhere but at i does not change at i
around : (f : ℕ → ℕ) (k i : ℕ) → i < k → f k ≡ f 0 → ((j : ℕ) → j < k → j ≢ i → f j ≡ f (suc j)) → f i ≡ f (suc i)
around f k i l closed h =
    let before = run f 0 i (omega arith) (λ j lo hi. h j (omega arith) (omega arith)) in
    let after = run f (suc i) k (omega arith) (λ j lo hi. h j (omega arith) (omega arith)) in
    sym before ∙ sym closed ∙ sym after

module _ (N : Net) where
  open N use {end_a, end_b}

  -- where S is A and h: a gauge h whose joints A has together closes a loop of S
  together_loop : (n m : ℕ) (A S : Set) (h : ℕ) → ((g : ℕ) → g < n → T (A g) → (g < m) × T (S g) × (g ≢ h))
      → h < m → T (S h) → T (spans N h) → Together N A n (end_a h) (end_b h) → ClosedLoop N m S
  together_loop n m A S h others l t s e =
      close N n m A S h others (record { below = l; member = t; joins = back s }) ((spans_iff N h).0 s).2
      (trail N n A ((together_walk N A n (end_a h) (end_b h)).0 e))

  -- and a loop of S is a loop of A, or has h, whose joints A has together
  loop_together : (n m : ℕ) (A S : Set) (h : ℕ) → ((g : ℕ) → g < m → T (S g) → g ≢ h → (g < n) × T (A g))
      → ClosedLoop N m S → ClosedLoop N n A ⊎ (T (S h) × Together N A n (end_a h) (end_b h))
  loop_together n m A S h others c = elim (some? (λ i. c.gauge i ≡ h) (λ i. ℕ_discrete (c.gauge i) h) c.k) [
    | no never ↦ inl (loop_in N c (λ i l. kept i l (λ e. never (i, l, e))))
    | yes (i, l, e) ↦ inr (rw e at (c.links i l).member, rw e at (joins_unrelate N (Together N A n) eq (across i l e) (c.links i l).joins))
  ]
    where
      eq : Equivalence (Together N A n)
      eq = same_label (labels N A n)

      -- the gauges other than h are gauges of A
      kept : (i : ℕ) → i < c.k → c.gauge i ≢ h → (c.gauge i < n) × T (A (c.gauge i))
      kept i l other = others (c.gauge i) (c.links i l).below (c.links i l).member other

      -- and have their joints together
      beside : (i : ℕ) → i < c.k → c.gauge i ≢ h → Together N A n (c.joint i) (c.joint (suc i))
      beside i l other =
          let (below, member) = kept i l other in
          let joins = (c.links i l).joins in
          joins_relate N (Together N A n) eq (taken_together N A n (c.gauge i) below (member, joins_spans N joins)) joins

      -- so h has, round the other way
      across : (i : ℕ) → i < c.k → c.gauge i ≡ h → Together N A n (c.joint i) (c.joint (suc i))
      across i l e = around (λ j. labels N A n (c.joint j)) c.k i l (ap (labels N A n) c.closed)
          (λ j l' other. beside j l' (λ e'. other (c.gauges_differ j i l' l (e' ∙ sym e))))

  module _ (A : Set) where
    -- each member below n bridges two groups when it is reached
    abbrev pub Forest : ℕ → Type 0
    Forest n = (g : ℕ) → g < n → T (A g) → Bridges N A g g

    unfoldable pub forest? : (n : ℕ) → Dec (Forest n)
    unfolding bridges?
    forest? n = all? (λ g. T (A g) → Bridges N A g g) (λ g. dec_implies (T? (A g)) (λ _. bridges? N A g g)) n

    -- the members of a forest and its groups are together as many as the joints
    pub forest_size : (n : ℕ) → Forest n → size n A + groups N A n ≡ joints
    unfolding labels
    forest_size zero f = let all = size_all joints (λ j. eqb j j) (λ j l. eqb_refl j) in omega arith
    forest_size (suc n) f =
        let below = forest_size n (λ g l. f g (omega arith)) in
        elim (decide_T (A n)) [
          | inl a ↦
              let fewer = groups_bridge N A n a (f n (omega arith) a) in
              let here = ap one (T→true (A n) a) in
              omega arith
          | inr out ↦
              let same = groups_same N A n (labels_skip N A n (λ t. T_not (A n) out t.0)) in
              let here = ap one (T→false (A n) out) in
              omega arith
        ]

    -- a forest has no loop: the last gauge of one would find its joints together
    forest_no_loop : (n : ℕ) → Forest n → ClosedLoop N n A → ⊥
    forest_no_loop zero f c = let long = c.long in let below = (c.links 0 (omega arith)).below in omega arith
    forest_no_loop (suc n) f c = elim (loop_together n (suc n) A A n (λ g l a other. (omega arith, a)) c) [
      | inl c' ↦ forest_no_loop n (λ g l. f g (omega arith)) c'
      | inr (a, e) ↦ (f n (omega arith) a).1 e
    ]

    -- the loop-free sets are the forests
    pub forest_loop_free : (n : ℕ) → Forest n ↔ LoopFree N n A
    forest_loop_free n = (
      λ f. record { spanned = record { at = λ g l a. (f g l a).0 }; no_loop = forest_no_loop n f },
      λ free g l a. let s = free.spanned.at g l a in
          (s, λ e. free.no_loop (together_loop g n A A g (λ g' l' a'. (omega arith, a', omega arith)) l a s e)),
    )

  -- with one more gauge a loop-free set stays so exactly when the gauge bridges two groups
  pub loop_free_with : (m : ℕ) (A : Set) (h : ℕ) → LoopFree N m A → h < m → T (not (A h)) → LoopFree N m (with A h) ↔ Bridges N A m h
  loop_free_with m A h free l out = (bridges, stays_free)
    where
      bridges : LoopFree N m (with A h) → Bridges N A m h
      bridges more =
          let s = more.spanned.at h l (with_new A h) in
          (s, λ e. more.no_loop (together_loop m m A (with A h) h (λ g l a. (l, (with_old A h).at g l a, differ A a out)) l (with_new A h) s e))

      old : (g : ℕ) → g < m → T (with A h g) → g ≢ h → (g < m) × T (A g)
      old g l t other = elim (with_cases A h g t) [ inl a ↦ (l, a) | inr e ↦ absurd (other e) ]

      stays_free : Bridges N A m h → LoopFree N m (with A h)
      stays_free (s, d) = record {
        spanned = with_least h free.spanned s;
        no_loop = λ c. elim (loop_together m m A (with A h) h old c) [ inl c' ↦ free.no_loop c' | inr (t, e) ↦ d e ];
      }

  module _ (m : ℕ) where
    -- whether a set is free of loops
    unfoldable pub loop_free? : (A : Set) → Dec (LoopFree N m A)
    unfolding forest?
    loop_free? A = dec_iff (forest_loop_free A m) (forest? A m)

    pub loop_free_none : LoopFree N m none
    loop_free_none = record { spanned = within_none; no_loop = λ c. let long = c.long in (c.links 0 (omega arith)).member }

    pub loop_free_part : {A B : Set} → Within m A B → LoopFree N m B → LoopFree N m A
    loop_free_part h free = record {
      spanned = within_trans h free.spanned;
      no_loop = λ c. free.no_loop (loop_in N c (λ i l.
          let link = c.links i l in
          (link.below, h.at (c.gauge i) link.below link.member)));
    }

    -- where no gauge of B bridges two groups of A, A has no more groups than B, and so no fewer members
    no_bridge_size : (A B : Set) → LoopFree N m A → LoopFree N m B → ((g : ℕ) → g < m → T (B g) → Bridges N A m g → ⊥) → size m B ≤ size m A
    no_bridge_size A B a b never =
        let joined : (g : ℕ) → g < m → Taken N B g → Together N A m (end_a g) (end_b g) = λ g l (t, s). no_bridge N A m g s (never g l t) in
        let fewer = groups_coarser N A B m (together_least N B (Together N A m) (same_label (labels N A m)) m joined) in
        let sizeA = forest_size A m ((forest_loop_free A m).1 a) in
        let sizeB = forest_size B m ((forest_loop_free B m).1 b) in
        omega arith

    -- so a larger B has a gauge that does, and A can gain it
    pub loop_free_gain : {A B : Set} → LoopFree N m A → LoopFree N m B → size m A < size m B → Gain m (LoopFree N m) A B
    loop_free_gain {A} {B} a b more = elim (some? (λ g. T (B g) × Bridges N A m g) (λ g. dec_both (T? (B g)) (bridges? N A m g)) m) [
      | yes (g, l, (t, (s, d))) ↦
          let out = not_T (A g) (λ in_a. d (taken_together N A m g l (in_a, s))) in
          record { at = g; below = l; there = t; fresh = out; indep = (loop_free_with m A g a l out).1 (s, d) }
      | no never ↦ let no-larger = no_bridge_size A B a b (λ g l t bridge. never (g, l, (t, bridge))) in absurd (omega arith)
    ]

    unfoldable pub graphic : Matroid m
    unfolding loop_free?
    graphic = record { Indep = LoopFree N m; decide = loop_free?; empty = loop_free_none; part = loop_free_part; gain = loop_free_gain }

-- the joints of each instrument's span, by a team's tables
abbrev pub net_of : (first second : List ℕ) → Net
net_of first second = net (λ i. get_or first i 255) (λ i. get_or second i 255)

-- the matroid of these tables
abbrev pub loops_of : (m : ℕ) (first second : List ℕ) → Matroid m
loops_of m first second = graphic (net_of first second) m
