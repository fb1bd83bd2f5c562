-- The loops of `worthless` and of `fill`.
use Prim.Native.Nat.{ℕ, ◌-◌, ◌≤◌, ◌<◌}
use mathlib.Core.Path.{◌≡◌, sym, ap, ◌∙◌, subst, subst⁻¹}
use mathlib.Core.Bool.{Bool, true, false, ◌&&◌, not, not-not, false≢true}
use mathlib.Core.Logic.{inl, inr}
use mathlib.Core.List.{List}
use native.Mathlib.Omega.{arith}
use native.Mathlib.Decide.{dec_lt}
use lib.Dec.{T, ltb, ltb→lt, lt→ltb, T_not, not_T}
use lib.ListN.{length, take, get_or}
use Rattle.std.proofs.Common.{Some, None, MatchBool, length-take, get_or-take}
use Rattle.std.specs.Bool.{⊤}
use Rattle.std.specs.List.{AllWithin, HoldsAt}
use borrow.Author.Tests.{lt-ltb, le-ltb, ltb-false}
use Rattle.matroid.specs.Taut.{decide_T, T→false, both, and_left, and_right}
use Rattle.matroid.specs.Set.{Set, none, ◌∖◌, complement, under}
use Rattle.matroid.specs.SetLaws.{size_none, size_same, size_agree}
use Rattle.matroid.specs.Matroid.{Matroid, worth}
use Rattle.matroid.specs.Division.{held}
use Rattle.matroid.proofs.Sums.{sum_same, sum_const}
use Rattle.matroid.proofs.Rank.{worth_same, worth_le_size}
use Rattle.matroid.proofs.Certificates.{fill_certificate}
use Rattle.sets.specs.Bits.{bit}
use Rattle.sets.proofs.Below.{none_there}
use Rattle.sets.specs.Bundles.{Bundles}
use Rattle.kinds.specs.declared.Valuation.{Valuation}
use Rattle.kinds.specs.Valuations.{matroid_of, blank_valuation}
use Rattle.holding.specs.declared.Holding.{Holding}
use Rattle.holding.specs.declared.Moves.{Moves}
use Rattle.holding.specs.Give.{holder_of}
use Rattle.holding.specs.Words.{Pool}
use Rattle.holding.specs.Chain.{chained}
use Rattle.exchange.specs.declared.Agents.{Agents}
use Rattle.exchange.specs.declared.search.Reached.{Reached}
use Rattle.exchange.specs.Agents.{agent_matroid, holder, Ready, Held}
use Rattle.exchange.specs.Search.{Outcome}
use Rattle.exchange.specs.Chains.{Followed}
use Rattle.engine.specs.Fill.{ValidAgents, given, Worthless, Full}
use Rattle.exchange.proofs.Words.{agent_is, pool_word_lem}
use Rattle.exchange.proofs.Advance.{Advanced, advances}
use Rattle.engine.proofs.Sizes.{given_held, given_le, given_more}

-- the words of a holding's bundles are ready for a search
pub ready_of : (s : Agents) (h : Holding) (words : List ℕ) → Held s h → Bundles h.m (holder_of h) words → Ready s h.owner words
unfolding holder_of
ready_of s h words held b = record {
  small = held.small;
  few = held.few;
  valuations_long = held.valuations_long;
  owner_long = held.owner_long;
  sound = held.sound;
  words = subst (λ (m : ℕ). Bundles m (holder h.owner) words) held.m b;
}

-- the word of all instruments has instruments alone
pub all_low : (m all : ℕ) → ((j : ℕ) → bit all j ≡ under m j) → (g : ℕ) → T (bit all g) → g < m
all_low m all is_all g t = ltb→lt g m (subst T (is_all g) t)

-- and so has what is left of such a word
pub rest_low : (m word out rest : ℕ) → ((g : ℕ) → T (bit word g) → g < m) → ((j : ℕ) → bit rest j ≡ (bit word ∖ bit out) j) → (g : ℕ) → T (bit rest g) → g < m
rest_low m word out rest low is-rest g t = low g (and_left (bit word g) _ (subst T (is-rest g) t))

-- a set without members is worth nothing
pub worthless_none : (s : Agents) (set : ℕ) → set ≡ 0 → Worthless s set
worthless_none s set empty = record {
  at = λ t _.
      let most = worth_le_size (agent_matroid s t) (bit set) in
      let same = size_agree s.m (bit set) none (λ k l. T→false (bit set k) (subst⁻¹ (λ (w : ℕ). T (not (bit w k))) empty (none_there k))) in
      let zero = size_none s.m in
      omega arith;
}

-- the worth that the code computes is the agent's
pub agent_worth : (s : Agents) (set t r : ℕ) (v d : Valuation) → t < s.n → ValidAgents s → v ≡ get_or s.valuations t d → r ≡ worth (matroid_of s.m v) (bit set) → worth (agent_matroid s t) (bit set) ≡ r
agent_worth s set t r v d l valid is-v e = sym (e ∙ ap (λ (M : Matroid s.m). worth M (bit set)) (agent_is s t v d l valid.few valid.valuations_long is-v))

-- where the first n valuations give a set no worth, as `all` says, it is worth nothing to every agent
pub worthless_all : (s : Agents) (set : ℕ) → ValidAgents s → (r : Bool)
    → MatchBool r (AllWithin (λ v. worth (matroid_of s.m v) (bit set) ≡ 0) (take s.n s.valuations) 0 (length (take s.n s.valuations))) ((k : ℕ) × (k < length (take s.n s.valuations)) × HoldsAt (λ v. ⊤) (take s.n s.valuations) k)
    → r ≡ true → Worthless s set
worthless_all s set valid true all e = record {
  at = λ t l. subst (λ (v : Valuation). worth (matroid_of s.m v) (bit set) ≡ 0) (get_or-take s.n s.valuations t blank_valuation l)
      (all t blank_valuation (omega arith) (let few = valid.few in let long = valid.valuations_long in omega (arith, length-take s.n s.valuations)));
}
worthless_all s set valid false some e = absurd (false≢true e)

-- where what is in the pool is worth nothing it bounds every total, since the agents hold the rest
pub worthless_full : (s : Agents) (h : Holding) (pool : ℕ) → Held s h → Pool h pool → Worthless s pool → Full s h pool
worthless_full s h pool hd is-pool nothing = record {
  held = hd;
  low = λ g t. ltb→lt g s.m (and_left (ltb g s.m) _ (subst T (pool_word_lem s h hd pool is-pool g) t));
  full =
      let all = given_held s h.owner in
      let outside = size_agree s.m (complement (bit pool)) (held s.n (holder h.owner)) (λ g l. rw (pool_word_lem s h hd pool is-pool g, lt-ltb g s.m l) (not-not _)) in
      let worths = sum_same s.n (λ t. worth (agent_matroid s t) (bit pool)) (λ t. 0) nothing.at ∙ sum_const s.n 0 in
      omega arith;
}

-- a search from any agent to the pool
module _ (s : Agents) (h : Holding) (held : Held s h) (sources pool : ℕ) (is-sources : (j : ℕ) → bit sources j ≡ under s.n j) (is-pool : Pool h pool)
    (r : Reached) (out : Outcome s h.owner sources pool r) where
  -- a target is in the pool
  pool_end : (g : ℕ) → T (bit pool g) → s.n ≤ holder h.owner g
  pool_end g t =
      let u = subst T (pool_word_lem s h held pool is-pool g) t in
      ltb-false (holder h.owner g) s.n (T→false (ltb (holder h.owner g) s.n) (and_right (ltb g s.m) _ u))

  -- it was found, and the chain is carried out
  module _ (some : 1 ≤ s.n) (end : ℕ) (found : r.end ≡ Some end) (moves : Moves) (back : Followed r.trace end moves) (after : Holding) (is : after ≡ chained h moves) where
    advanced : Advanced s h sources end after
    advanced =
        let (reached, seen, _) = out.found end found in
        rw is (advances s h held sources r.trace end reached seen moves back 0 some (subst⁻¹ T (is-sources 0) (lt→ltb 0 s.n some)))

    -- the bundles stay independent
    pub fill_held : Held s after
    fill_held = advanced.held

    -- and the shares are those before
    pub fill_shares : after.shares ≡ h.shares
    fill_shares = advanced.shares

    -- and one more is given
    pub fill_less : s.m - given s after.owner < s.m - given s h.owner
    fill_less =
        let more = given_more s h after sources end advanced (pool_end end (out.found end found).2) in
        let most = given_le s after.owner in
        omega arith

  -- none was found: what was reached bounds every total
  pub fill_done : r.end ≡ None → (all k : ℕ) → ((j : ℕ) → bit all j ≡ under s.m j) → ((j : ℕ) → bit k j ≡ (bit all ∖ bit r.trace.seen) j) → Full s h k
  unfolding given
  fill_done none all k is_all is-k = record {
    held = held;
    low = rest_low s.m all r.trace.seen k (all_low s.m all is_all) is-k;
    full =
        let cert = fill_certificate s.n (agent_matroid s) (holder h.owner) R held.sound (out.closed none)
        (λ t l. out.gains none t l (subst⁻¹ T (is-sources t) (lt→ltb t s.n l))) kept in
        let outside = size_same s.m {A = complement (bit k)} {B = R} (record { at = λ g l. to_R g l }) (record { at = λ g l. from_R g l }) in
        let worths = sum_same s.n (λ t. worth (agent_matroid s t) (complement R)) (λ t. worth (agent_matroid s t) (bit k))
        (λ t _. worth_same (agent_matroid s t) {S = complement R} {S' = bit k} (record { at = λ g l. to_k g l }) (record { at = λ g l. from_k g l })) in
        omega arith;
  }
    where
      R : Set
      R = bit r.trace.seen

      here : (g : ℕ) → g < s.m → bit k g ≡ not (R g)
      here g l = is-k g ∙ ap (λ (b : Bool). b && not (R g)) (is_all g ∙ lt-ltb g s.m l)

      to_k : (g : ℕ) → g < s.m → T (not (R g)) → T (bit k g)
      to_k g l t = subst⁻¹ T (here g l) t

      from_k : (g : ℕ) → g < s.m → T (bit k g) → T (not (R g))
      from_k g l t = subst T (here g l) t

      to_R : (g : ℕ) → g < s.m → T (not (bit k g)) → T (R g)
      to_R g l t = elim (decide_T (R g)) [ inl y ↦ y | inr n ↦ absurd (T_not (bit k g) t (to_k g l n)) ]

      from_R : (g : ℕ) → g < s.m → T (R g) → T (not (bit k g))
      from_R g l t = not_T (bit k g) (λ b. T_not (R g) (from_k g l b) t)

      kept : (g : ℕ) → g < s.m → T (R g) → holder h.owner g < s.n
      kept g l t =
          let clear = out.clear none g t in
          elim (dec_lt (holder h.owner g) s.n) [
            | yes b ↦ b
            | no d ↦ absurd (T_not (bit pool g) clear (subst⁻¹ T (pool_word_lem s h held pool is-pool g) (both (ltb g s.m) _ (lt→ltb g s.m l) (subst⁻¹ (λ (b : Bool). T (not b)) (le-ltb (holder h.owner g) s.n (omega arith)) tt))))
          ]
