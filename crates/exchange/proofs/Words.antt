-- Bundles as words: they agree with the theory's bundles below m.
use Prim.Native.Nat.{ℕ, ◌+◌, ◌^◌, ◌≤◌, ◌<◌}
use mathlib.Core.Path.{◌≡◌, refl, sym, ap, ◌∙◌, subst, subst⁻¹}
use mathlib.Core.Bool.{Bool, true, false, ◌&&◌, ◌||◌, not}
use mathlib.Core.Logic.{◌↔◌, ◌≢◌}
use mathlib.Core.List.{List}
use native.Mathlib.Omega.{arith}
use native.Mathlib.Decide.{dec_lt}
use lib.Dec.{T, eqb, ltb, lt→ltb, T_not}
use lib.ListN.{length, get_or}
use lib.Count.{count_trailing_zeros}
use lib.Pow.{pow_mono}
use borrow.Author.Tests.{lt-ltb, le-ltb}
use Rattle.matroid.specs.Taut.{both, and_left, and_right, follows₂}
use Rattle.matroid.specs.Set.{Set, without, under, Within}
use Rattle.matroid.specs.Matroid.{Matroid}
use Rattle.matroid.specs.Division.{bundle}
use Rattle.matroid.specs.Exchange.{Fits, Swaps}
use Rattle.matroid.specs.Breadth.{Rooted}
use Rattle.matroid.proofs.Sets.{with_mono, swap_mono}
use Rattle.matroid.proofs.Waves.{rooted_take}
use Rattle.sets.specs.Bits.{bit}
use Rattle.sets.specs.Assigned.{Assigned}
use Rattle.sets.proofs.Below.{bit_none, none_there}
use Rattle.sets.proofs.Equal.{same_word}
use Rattle.sets.proofs.Trailing.{trailing_least, trailing_member}
use Rattle.sets.proofs.Words.{bit_high}
use Rattle.sets.specs.Joining.{MayJoin}
use Rattle.holding.specs.declared.Holding.{Holding}
use Rattle.holding.specs.Give.{holder_of, is_instrument, is_team, in_pool}
use Rattle.holding.specs.Words.{Pool}
use Rattle.kinds.specs.declared.Valuation.{Valuation}
use Rattle.std.proofs.lemmas.List.{get_or_default}
use Rattle.kinds.specs.Valuations.{matroid_of, blank_valuation}
use Rattle.exchange.specs.declared.Agents.{Agents}
use Rattle.exchange.specs.Agents.{agent_matroid, holder, Ready, Held}
use Rattle.exchange.specs.Search.{Exchanges}

-- sets that agree below m are alike to a matroid
module _ {m : ℕ} (M : Matroid m) (A B : Set) (same : (k : ℕ) → k < m → A k ≡ B k) where
  to_right : Within m A B
  to_right = record { at = λ k l a. subst T (same k l) a }

  to_left : Within m B A
  to_left = record { at = λ k l b. subst⁻¹ T (same k l) b }

  pub indep_alike : M.Indep A → M.Indep B
  indep_alike i = M.part to_left i

  out : (y : ℕ) → y < m → T (not (A y)) ↔ T (not (B y))
  out y l = (λ t. subst (λ (b : Bool). T (not b)) (same y l) t, λ t. subst⁻¹ (λ (b : Bool). T (not b)) (same y l) t)

  pub fits_alike : (y : ℕ) → y < m → Fits M A y ↔ Fits M B y
  fits_alike y l = (λ (o, i). ((out y l).0 o, M.part (with_mono y to_left) i), λ (o, i). ((out y l).1 o, M.part (with_mono y to_right) i))

  pub swaps_alike : (x y : ℕ) → y < m → Swaps M A x y ↔ Swaps M B x y
  swaps_alike x y l = (λ (o, i). ((out y l).0 o, M.part (swap_mono x y to_left) i), λ (o, i). ((out y l).1 o, M.part (swap_mono x y to_right) i))

-- what may join a bundle without g, outside the bundle and not seen, can take the place of g
pub exchanges_at : (m : ℕ) (v : Valuation) (set g seen cut free fresh r : ℕ) → ((k : ℕ) → bit cut k ≡ without (bit set) g k)
    → ((matroid_of m v).Indep (bit cut) → MayJoin (matroid_of m v) (bit cut) free)
    → ((k : ℕ) → bit fresh k ≡ (bit free k && not (bit set k))) → ((k : ℕ) → bit r k ≡ (bit fresh k && not (bit seen k))) → Exchanges m v set g seen r
exchanges_at m v set g seen cut free fresh r is_cut gains is-fresh is-r = record {
  at = λ i x.
      let M = matroid_of m v in
      let g' = gains (M.part (record { at = λ k l t. and_left (bit set k) _ (subst T (is_cut k) t) }) i) in
      let alike : x < m → Fits M (bit cut) x ↔ Fits M (without (bit set) g) x = λ l. fits_alike M (bit cut) (without (bit set) g) (λ k _. is_cut k) x l in (
        λ t.
            let u = subst T (is-r x) t in
            let w = subst T (is-fresh x) (and_left (bit fresh x) _ u) in
            let (l, f) = (g'.at x).0 (and_left (bit free x) _ w) in
            (l, and_right (bit fresh x) _ u, (and_right (bit free x) _ w, ((alike l).0 f).1)),
        λ (l, new, (o, j)).
            subst⁻¹ T (is-r x) (both (bit fresh x) _ (subst⁻¹ T (is-fresh x) (both (bit free x) _ ((g'.at x).1 (l, (alike l).1 (follows₂ (λ a e. not a) (λ a e. not (a && not e)) tt (bit set x) (eqb x g) o, j))) o)) new),
      );
}

-- where everything below m is seen, nothing new can take the place of g
pub exchanges_none : (m : ℕ) (v : Valuation) (set g seen all left : ℕ) → ((k : ℕ) → bit all k ≡ under m k)
    → ((k : ℕ) → bit left k ≡ (bit all k && not (bit seen k))) → left ≡ 0 → Exchanges m v set g seen 0
exchanges_none m v set g seen all left is_all is-left none = record {
  at = λ i x. (
    λ t. absurd (T_not (bit 0 x) (none_there x) t),
    λ (l, new, _). absurd (T_not (bit 0 x) (none_there x) (subst (λ (w : ℕ). T (bit w x)) none (subst⁻¹ T (is-left x) (both (bit all x) _ (subst⁻¹ T (is_all x) (lt→ltb x m l)) new)))),
  );
}

bit_out : (b : Bool) → T (not b) → b ≡ false
bit_out false t = refl
bit_out true t = absurd t

-- a word that is not 0 has a member
pub some_there : (s : ℕ) → s < 2 ^ 64 → s ≢ 0 → (k : ℕ) × (k < 64) × T (bit s k)
some_there s l d = go (dec_lt (count_trailing_zeros 64 s) 64)
  where
    empty : 64 ≤ count_trailing_zeros 64 s → (j : ℕ) → Dec (j < 64) → bit s j ≡ bit 0 j
    empty high j (yes b) = bit_out (bit s j) (trailing_least 64 s j (omega arith)) ∙ sym (bit_none j)
    empty high j (no b) = bit_high s j (let p : 2 ^ 64 ≤ 2 ^ j = let h : 64 ≤ j = omega arith in pow_mono h in omega arith) ∙ sym (bit_none j)

    go : Dec (count_trailing_zeros 64 s < 64) → (k : ℕ) × (k < 64) × T (bit s k)
    go (yes b) = (count_trailing_zeros 64 s, b, trailing_member 64 s b)
    go (no b) = absurd (d (same_word 64 s 0 l (omega arith) (λ j. empty (omega arith) j (dec_lt j 64))))

-- the matroid of the valuation that the code reads is the agent's
pub agent_is : (s : Agents) (t : ℕ) (v d : Valuation) → t < s.n → s.n ≤ 12 → length s.valuations ≡ 12 → v ≡ get_or s.valuations t d → matroid_of s.m v ≡ agent_matroid s t
agent_is s t v d l few long e = ap (matroid_of s.m) (e ∙ get_or_default s.valuations t d blank_valuation (omega arith))

-- ---- the words of the bundles

module _ (s : Agents) (owner bundles : List ℕ) (ready : Ready s owner bundles) where
  -- below m, word t is the bundle of t
  pub word_bundle : (t : ℕ) → t < s.n → (k : ℕ) → k < s.m → bit (get_or bundles t 0) k ≡ bundle (holder owner) t k
  word_bundle t l k b = let few = ready.few in ready.words.at t (omega arith) k ∙ ap (λ (x : Bool). x && eqb (holder owner k) t) (lt-ltb k s.m b)

  -- its word is independent
  pub word_indep : (t : ℕ) → t < s.n → (agent_matroid s t).Indep (bit (get_or bundles t 0))
  word_indep t l = indep_alike (agent_matroid s t) (bundle (holder owner) t) (bit (get_or bundles t 0)) (λ k b. sym (word_bundle t l k b)) (ready.sound t l)

  -- ---- the roots

  -- one source agent more: its gains are seen, and what is new of them goes to it
  pub roots_take : (sources t seen free fresh seen' : ℕ) (to to' : List ℕ) (v d : Valuation) → t < s.n → length s.valuations ≡ 12 → v ≡ get_or s.valuations t d
      → Rooted s.n (agent_matroid s) (holder owner) (bit sources) t (bit seen) (λ x. get_or to x 0) → bit sources t ≡ true
      → ((matroid_of s.m v).Indep (bit (get_or bundles t 0)) → MayJoin (matroid_of s.m v) (bit (get_or bundles t 0)) free)
      → ((k : ℕ) → bit fresh k ≡ (bit free k && not (bit seen k))) → Assigned to fresh t to' → ((k : ℕ) → bit seen' k ≡ (bit seen k || bit free k))
      → Rooted s.n (agent_matroid s) (holder owner) (bit sources) (t + 1) (bit seen') (λ x. get_or to' x 0)
  roots_take sources t seen free fresh seen' to to' v d l long e r src gains is-fresh assigned is_seen =
      let M = agent_matroid s t in
      let same = agent_is s t v d l ready.few long e in
      let g = subst (λ (X : Matroid s.m). X.Indep (bit (get_or bundles t 0)) → MayJoin X (bit (get_or bundles t 0)) free) same gains (word_indep t l) in
      rooted_take s.n (agent_matroid s) (holder owner) (bit sources) t (bit seen) (λ x. get_or to x 0) r (bit free) (bit seen') (λ x. get_or to' x 0) l (subst⁻¹ T src tt)
      (λ x f. let (b, fits) = (g.at x).0 f in (b, (fits_alike M (bit (get_or bundles t 0)) (bundle (holder owner) t) (word_bundle t l) x b).0 fits))
      (λ x b c. (g.at x).1 (b, (fits_alike M (bit (get_or bundles t 0)) (bundle (holder owner) t) (word_bundle t l) x b).1 c))
      is_seen
      (λ x seen-x. assigned.old x 0 (subst⁻¹ (λ (b : Bool). T (not b)) (is-fresh x) (follows₂ (λ f a. a) (λ f a. not (f && not a)) tt (bit free x) (bit seen x) seen-x)))
      (λ x f new. assigned.new x 0 (let b = ((g.at x).0 f).0 in let small = ready.small in omega arith) (subst⁻¹ T (is-fresh x) (both (bit free x) _ f new)))

-- ---- the holding's own tests

module _ (s : Agents) (h : Holding) (held : Held s h) where
  -- its teams are the agents
  pub team_agent : (t : ℕ) → is_team h t ≡ ltb t s.n
  unfolding is_team
  team_agent t =
      let en = held.n in
      let few = held.few in
      elim (dec_lt t s.n) [
        | yes l ↦ rw (lt-ltb t h.n (omega arith), lt-ltb t 12 (omega arith)) (sym (lt-ltb t s.n l))
        | no d ↦ rw (le-ltb t h.n (omega arith)) (sym (le-ltb t s.n (omega arith)))
      ]

  -- its pool is what no agent holds
  pub pool_word_lem : (pool : ℕ) → Pool h pool → (j : ℕ) → bit pool j ≡ (ltb j s.m && not (ltb (holder h.owner j) s.n))
  unfolding is_instrument in_pool holder_of
  pool_word_lem pool p j =
      let em = held.m in
      let small = held.small in
      p.at j ∙ rw (team_agent (holder h.owner j)) (elim (dec_lt j s.m) [
        | yes l ↦ rw (lt-ltb j h.m (omega arith), lt-ltb j 64 (omega arith), lt-ltb j s.m l) refl
        | no d ↦ rw (le-ltb j h.m (omega arith), le-ltb j s.m (omega arith)) refl
      ])

-- agents by their parts
abbrev pub the_agents : (m n : ℕ) → List Valuation → Agents
the_agents m n valuations = record { m = m; n = n; valuations = valuations }
