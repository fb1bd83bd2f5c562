-- The loop of the greedy start.
use Prim.Native.Nat.{ℕ, ◌≤◌, ◌<◌, min}
use mathlib.Core.Path.{◌≡◌, refl, sym, ap, ◌∙◌, subst, subst⁻¹, fun_ext}
use mathlib.Core.Bool.{Bool, true, false, ◌&&◌, not, and-true, and-false, and_comm}
use mathlib.Core.Logic.{inl, inr, ◌≢◌}
use mathlib.Core.List.{List}
use native.Mathlib.Omega.{arith}
use native.Mathlib.Decide.{ℕ_discrete, dec_lt}
use lib.Dec.{T, eqb, eqb→eq, ltb, ltb→lt, lt→ltb, T_not}
use lib.ListN.{get_or, set, replicate, length-set, get_or-replicate, get_or-eq_default}
use lib.Seq.{get_or-set_same, get_or-set_other}
use borrow.Author.Tests.{lt-ltb, le-ltb, ne_eqb, ltb-false}
use Rattle.matroid.specs.Taut.{decide_T, T→true, T→false, both, and_left, and_right}
use Rattle.matroid.specs.Set.{under, size}
use Rattle.matroid.specs.SetLaws.{eq→eqb}
use Rattle.matroid.specs.Matroid.{Matroid}
use Rattle.matroid.specs.Division.{bundle}
use Rattle.matroid.specs.Exchange.{Sound}
use Rattle.matroid.proofs.Sets.{size_le}
use Rattle.sets.specs.Bits.{bit}
use Rattle.sets.specs.Bundles.{Bundles}
use Rattle.sets.specs.Joining.{Grown}
use Rattle.sets.specs.Assigned.{Assigned}
use Rattle.sets.proofs.Below.{bit_none, size_under}
use Rattle.kinds.specs.declared.Valuation.{Valuation}
use Rattle.kinds.specs.Valuations.{matroid_of}
use Rattle.holding.specs.declared.Holding.{Holding}
use Rattle.holding.specs.Count.{size_in, table, sizes_in, counted}
use Rattle.holding.proofs.Tables.{table_same}
use Rattle.holding.proofs.Counting.{counted_right}
use Rattle.exchange.specs.declared.Agents.{Agents}
use Rattle.exchange.specs.Agents.{agent_matroid, holder, Held}
use Rattle.exchange.proofs.Words.{agent_is}
use Rattle.engine.specs.Fill.{ValidAgents}
use Rattle.engine.specs.Offer.{Offered}

-- tests that pass together are the same
same_T : (a b : Bool) → (T a → T b) → (T b → T a) → a ≡ b
same_T true b f g = sym (T→true b (f tt))
same_T false true f g = absurd (g tt)
same_T false false f g = refl

-- nobody holds anything before the first turn
nobody : (g : ℕ) → ◌≡◌ {A = ℕ} (holder (replicate 64 255) g) 255
nobody g = elim (dec_lt g 64) [ yes l ↦ get_or-replicate 64 g 255 255 l | no d ↦ get_or-eq_default (replicate 64 255) 255 {n = g} (omega arith) ]

-- no bundle has anything of a table without agents
none_held : (u j : ℕ) → u < 12 → bundle (holder (replicate 64 255)) u j ≡ false
none_held u j l = ap (λ (x : ℕ). eqb x u) (nobody j) ∙ ne_eqb 255 u (omega arith)

-- a word has at most 64 members
pub word_small : (word r : ℕ) → r ≡ size 64 (bit word) → r ≤ 64
word_small word r e = subst⁻¹ (λ (x : ℕ). x ≤ 64) e (size_le 64 (bit word))

-- before the first turn all instruments are in the pool
pub offered_none : (s : Agents) (all : ℕ) → ValidAgents s → ((j : ℕ) → bit all j ≡ under s.m j) → Offered s (replicate 64 255) (replicate 12 0) all
offered_none s all valid is_all =
    let few = valid.few in
    record {
      ready = record {
        small = valid.small;
        few = valid.few;
        valuations_long = valid.valuations_long;
        owner_long = refl;
        sound = λ t l. (agent_matroid s t).part (record { at = λ g b x. absurd (subst T (none_held t g (omega arith)) x) }) (agent_matroid s t).empty;
        words = record { long = refl; at = λ u l j. rw (get_or-replicate {A = ℕ} 12 u 0 0 l, none_held u j l, and-false (ltb j s.m)) (bit_none j) };
      };
      placed = λ g. inl (nobody g);
      unheld = λ j. is_all j ∙ rw (nobody j, le-ltb 255 s.n (omega arith)) (sym (and-true (ltb j s.m)));
    }

-- the holding by such a table is one of the agents
pub offered_held : (s : Agents) (h : Holding) (owner bundles shares : List ℕ) (pool : ℕ) → Offered s owner bundles pool → h ≡ counted s.m s.n owner shares → Held s h × (h.shares ≡ shares)
offered_held s h owner bundles shares pool o is = rw is (
  record {
    m = refl;
    n = refl;
    small = o.ready.small;
    few = o.ready.few;
    valuations_long = o.ready.valuations_long;
    owner_long = o.ready.owner_long;
    placed = o.placed;
    sound = o.ready.sound;
    right = counted_right s.m s.n owner shares;
  },
  refl,
)

-- and the sizes of the words are those of the bundles
pub offered_sizes : (s : Agents) (owner bundles row : List ℕ) (pool : ℕ) → Offered s owner bundles pool → row ≡ table s.n (λ t. size 64 (bit (get_or bundles t 0))) → row ≡ sizes_in s.m s.n owner
unfolding size_in
offered_sizes s owner bundles row pool o is = is ∙ table_same s.n (λ t. size 64 (bit (get_or bundles t 0))) (size_in s.m owner) (λ t l.
    let small = o.ready.small in
    let top : s.m ≡ min s.m 64 = omega arith in
    ap (size 64) (fun_ext (λ j. o.ready.words.at t (omega arith) j ∙ and_comm (ltb j s.m) (eqb (holder owner j) t))) ∙ size_under 64 s.m (bundle (holder owner) t) small
    ∙ ap (λ (m : ℕ). size m (bundle (holder owner) t)) top)

module _ (s : Agents) (t : ℕ) (owner words : List ℕ) (pool : ℕ) (turn : Offered s owner words pool) (l : t < s.n) (v d : Valuation) (is-v : v ≡ get_or s.valuations t d)
    (most larger fresh : ℕ) (grown : Grown (matroid_of s.m v) (get_or words t 0) pool most larger) (is-fresh : (j : ℕ) → bit fresh j ≡ (bit larger j && not (bit (get_or words t 0) j))) where
  few : s.n ≤ 12
  few = turn.ready.few

  word : (j : ℕ) → bit (get_or words t 0) j ≡ (ltb j s.m && eqb (holder owner j) t)
  word j = turn.ready.words.at t (omega arith) j

  -- what is fresh is in the pool
  fresh_pool : (j : ℕ) → T (bit fresh j) → (j < s.m) × (holder owner j ≡ 255)
  fresh_pool j f =
      let x = subst T (is-fresh j) f in
      elim (grown.new j (and_left (bit larger j) _ x)) [
        | inl old ↦ absurd (T_not (bit (get_or words t 0) j) (and_right (bit larger j) _ x) old)
        | inr new ↦
            let y = subst T (turn.unheld j) new in
            let out = ltb-false (holder owner j) s.n (T→false (ltb (holder owner j) s.n) (and_right (ltb j s.m) _ y)) in
            (ltb→lt j s.m (and_left (ltb j s.m) _ y), elim (turn.placed j) [ inl p ↦ p | inr b ↦ absurd (omega arith) ])
      ]

  module _ (after : List ℕ) (assigned : Assigned owner fresh t after) (left : ℕ) (is-left : (j : ℕ) → bit left j ≡ (bit pool j && not (bit fresh j))) where
    D : ℕ → ℕ
    D = holder owner

    D' : ℕ → ℕ
    D' = holder after

    at_fresh : (j : ℕ) → T (bit fresh j) → D' j ≡ t
    unfolding D'
    at_fresh j f = let (below, _) = fresh_pool j f in let small = turn.ready.small in assigned.new j 255 (omega arith) f

    at_other : (j : ℕ) → T (not (bit fresh j)) → D' j ≡ D j
    unfolding D D'
    at_other j o = assigned.old j 255 o

    -- the larger bundle is independent
    larger_indep : (agent_matroid s t).Indep (bit larger)
    larger_indep =
        subst (λ (M : Matroid s.m). M.Indep (bit (get_or words t 0)) → M.Indep (bit larger)) (agent_is s t v d l few turn.ready.valuations_long is-v) grown.indep
        ((agent_matroid s t).part (record { at = λ j b x. and_right (ltb j s.m) _ (subst T (word j) x) }) (turn.ready.sound t l))

    -- what t holds now is in it
    in_larger : (j : ℕ) → j < s.m → T (bundle D' t j) → T (bit larger j)
    unfolding D D'
    in_larger j b x = elim (decide_T (bit fresh j)) [
      | inl f ↦ and_left (bit larger j) _ (subst T (is-fresh j) f)
      | inr o ↦ grown.old j (subst⁻¹ T (word j) (both (ltb j s.m) _ (lt→ltb j s.m b) (subst (λ (k : ℕ). T (eqb k t)) (at_other j o) x)))
    ]

    -- what another agent holds it held before
    in_before : (u j : ℕ) → u ≢ t → T (bundle D' u j) → T (bundle D u j)
    unfolding D D'
    in_before u j d x = elim (decide_T (bit fresh j)) [
      | inl f ↦ absurd (d (sym (eqb→eq (D' j) u x) ∙ at_fresh j f))
      | inr o ↦ subst (λ (k : ℕ). T (eqb k u)) (at_other j o) x
    ]

    sound_after : Sound s.n (agent_matroid s) D'
    unfolding D D'
    sound_after u b = elim (ℕ_discrete u t) [
      | yes e ↦ rw e ((agent_matroid s t).part (record { at = in_larger }) larger_indep)
      | no d ↦ (agent_matroid s u).part (record { at = λ j _ x. in_before u j d x }) (turn.ready.sound u b)
    ]

    -- the word of another agent is as before
    other_word : (u : ℕ) → u ≢ t → u < 12 → (j : ℕ) → bit (get_or words u 0) j ≡ (ltb j s.m && eqb (D' j) u)
    unfolding D D'
    other_word u d b j = turn.ready.words.at u b j ∙ ap (λ (x : Bool). ltb j s.m && x) (elim (decide_T (bit fresh j)) [
      | inl f ↦ let (_, p) = fresh_pool j f in let e = at_fresh j f in ne_eqb (D j) u (omega arith) ∙ sym (ne_eqb (D' j) u (omega arith))
      | inr o ↦ ap (λ (k : ℕ). eqb k u) (sym (at_other j o))
    ])

    -- and that of t has what is fresh too
    own_word : (j : ℕ) → bit larger j ≡ (ltb j s.m && eqb (D' j) t)
    unfolding D D'
    own_word j = same_T (bit larger j) (ltb j s.m && eqb (D' j) t)
        (λ x. elim (decide_T (bit fresh j)) [
          | inl f ↦ both (ltb j s.m) _ (lt→ltb j s.m (fresh_pool j f).0) (eq→eqb (D' j) t (at_fresh j f))
          | inr o ↦ subst⁻¹ (λ (k : ℕ). T (ltb j s.m && eqb k t)) (at_other j o) (subst T (word j) (old_member j x o))
        ])
        (λ x. in_larger j (ltb→lt j s.m (and_left (ltb j s.m) _ x)) (and_right (ltb j s.m) _ x))
      where
        old_member : (j : ℕ) → T (bit larger j) → T (not (bit fresh j)) → T (bit (get_or words t 0) j)
        old_member j x o = elim (decide_T (bit (get_or words t 0) j)) [
          | inl y ↦ y
          | inr z ↦ absurd (T_not (bit fresh j) o (subst⁻¹ T (is-fresh j) (both (bit larger j) _ x z)))
        ]

    words_after : (next : List ℕ) → next ≡ set words t larger → Bundles s.m D' next
    unfolding D D'
    words_after next is = rw is (record { long = length-set words t larger ∙ turn.ready.words.long; at = λ u b j. go u b j (ℕ_discrete u t) })
      where
        go : (u : ℕ) → u < 12 → (j : ℕ) → Dec (u ≡ t) → bit (get_or (set words t larger) u 0) j ≡ (ltb j s.m && eqb (holder after j) u)
        go u b j (yes e) = let long = turn.ready.words.long in rw (e, get_or-set_same words t larger 0 (omega arith)) (own_word j)
        go u b j (no d) = rw (get_or-set_other words t u larger 0 d) (other_word u d b j)

    pool_after : (j : ℕ) → bit left j ≡ (ltb j s.m && not (ltb (D' j) s.n))
    unfolding D D'
    pool_after j = is-left j ∙ elim (decide_T (bit fresh j)) [
      | inl f ↦
          let e = at_fresh j f in
          rw (T→true (bit fresh j) f, lt-ltb (D' j) s.n (omega arith)) (and-false (bit pool j) ∙ sym (and-false (ltb j s.m)))
      | inr o ↦ rw (T→false (bit fresh j) o, at_other j o) (and-true (bit pool j) ∙ turn.unheld j)
    ]

    pub turn_next : (next : List ℕ) → next ≡ set words t larger → Offered s after next left
    unfolding D D'
    turn_next next is = record {
      ready = record {
        small = turn.ready.small;
        few = turn.ready.few;
        valuations_long = turn.ready.valuations_long;
        owner_long = assigned.long ∙ turn.ready.owner_long;
        sound = sound_after;
        words = words_after next is;
      };
      placed = λ j. elim (decide_T (bit fresh j)) [
        | inl f ↦ let e = at_fresh j f in inr (omega arith)
        | inr o ↦ rw (at_other j o) (turn.placed j)
      ];
      unheld = pool_after;
    }
