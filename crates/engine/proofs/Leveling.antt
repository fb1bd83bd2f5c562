-- The loop of `level`.
use Prim.Native.Nat.{ℕ, ◌+◌, ◌*◌, ◌≤◌, ◌<◌}
use mathlib.Core.Path.{◌≡◌, refl, sym, ap, ◌∙◌, subst, subst⁻¹}
use mathlib.Core.Bool.{◌||◌, not}
use mathlib.Core.Logic.{inl, inr, ◌≢◌}
use mathlib.Core.List.{List}
use native.Mathlib.Omega.{arith}
use native.Mathlib.Decide.{dec_lt, ℕ_discrete}
use lib.Dec.{T, eqb→eq, ltb, ltb→lt, lt→ltb, T_not}
use lib.ListN.{length, take, get_or}
use Rattle.std.proofs.Common.{Option, MatchOption, Some, None, length-take, get_or-take}
use Rattle.std.specs.List.{AllWithin, HoldsAt, zip}
use Rattle.std.proofs.lemmas.Slice.Zip.{length-zip, get_or-zip}
use Rattle.matroid.specs.Taut.{decide_T, both, and_left, and_right, or_cases, follows₂}
use Rattle.matroid.specs.Set.{Set, ◌∪◌, ◌∖◌, complement, only, size}
use Rattle.matroid.specs.SetLaws.{one_eq, one_ne, eq→eqb}
use Rattle.matroid.specs.Matroid.{worth}
use Rattle.matroid.specs.Division.{bundle}
use Rattle.matroid.specs.Shortfall.{shortfall}
use Rattle.matroid.proofs.Change.{OnlyAtTwo}
use Rattle.matroid.proofs.Shortfalls.{shortfall_none, shortfall_falls}
use Rattle.matroid.proofs.Certificates.{slack_held, slack_gain, slack_edge}
use Rattle.matroid.proofs.Present.{levelling_present}
use Rattle.sets.specs.Bits.{bit}
use Rattle.sets.proofs.Below.{none_there}
use Rattle.holding.specs.declared.Holding.{Holding}
use Rattle.exchange.specs.declared.Agents.{Agents}
use Rattle.exchange.specs.declared.search.Reached.{Reached}
use Rattle.exchange.specs.Agents.{agent_matroid, holder, Ready, Held}
use Rattle.exchange.specs.Search.{Outcome}
use Rattle.engine.specs.Fill.{given}
use Rattle.engine.specs.Level.{FirstShort, LowestShort, Above, Levellable, Levelled}
use Rattle.exchange.proofs.Advance.{Advanced}
use Rattle.engine.proofs.Sizes.{held_size, held_shortfall, size_after, given_same}

-- ---- the agents above their shares

pub above_none : (sizes shares bundles : List ℕ) → Above sizes shares bundles 0 0
above_none sizes shares bundles = record { at = λ j. (λ t. absurd (T_not (bit 0 j) (none_there j) t), λ (t, l, _). absurd (omega arith)) }

module _ (sizes shares bundles : List ℕ) (n r : ℕ) (h : Above sizes shares bundles n r) where
  pub above_take : (next : ℕ) → get_or shares n 0 < get_or sizes n 0 → ((j : ℕ) → bit next j ≡ (bit r ∪ bit (get_or bundles n 0)) j) → Above sizes shares bundles (n + 1) next
  above_take next more is = record {
    at = λ j. (
      λ t. elim (or_cases (bit r j) (bit (get_or bundles n 0) j) (subst T (is j) t)) [
        | inl old ↦ let (t, l, rest) = (h.at j).0 old in (t, omega arith, rest)
        | inr new ↦ (n, omega arith, (more, new))
      ],
      λ (t, l, rest). subst⁻¹ T (is j) (elim (ℕ_discrete t n) [
        | yes e ↦ follows₂ (λ a b. b) (λ a b. a || b) tt (bit r j) (bit (get_or bundles n 0) j) (subst (λ (t : ℕ). T (bit (get_or bundles t 0) j)) e rest.1)
        | no d ↦ follows₂ (λ a b. a) (λ a b. a || b) tt (bit r j) (bit (get_or bundles n 0) j) ((h.at j).1 (t, omega arith, rest))
      ]),
    );
  }

  pub above_skip : get_or sizes n 0 ≤ get_or shares n 0 → Above sizes shares bundles (n + 1) r
  above_skip few = record {
    at = λ j. (
      λ t. let (t, l, rest) = (h.at j).0 t in (t, omega arith, rest),
      λ (t, l, rest). elim (ℕ_discrete t n) [
        | yes e ↦ let more = subst (λ (t : ℕ). get_or shares t 0 < get_or sizes t 0) e rest.0 in absurd (omega arith)
        | no d ↦ (h.at j).1 (t, omega arith, rest)
      ],
    );
  }

-- ---- the first short agent

module _ (sizes shares : List ℕ) (n : ℕ) (long_sizes : length sizes ≡ 12) (long_shares : length shares ≡ 12) (few : n ≤ 12) where
  abbrev pairs : List (ℕ × ℕ)
  pairs = zip (take n sizes) (take n shares)

  long : length pairs ≡ n
  long = omega (arith, length-zip (take n sizes) (take n shares), length-take n sizes, length-take n shares)

  pair : (t : ℕ) → t < n → get_or pairs t (0, 0) ≡ (get_or sizes t 0, get_or shares t 0)
  pair t l = get_or-zip (take n sizes) (take n shares) t (0, 0) (omega (arith, length-take n sizes)) (omega (arith, length-take n shares)) ∙ rw (get_or-take n sizes t 0 l, get_or-take n shares t 0 l) refl

  enough : (t : ℕ) → t < n → (get_or pairs t (0, 0)).1 ≤ (get_or pairs t (0, 0)).0 → get_or shares t 0 ≤ get_or sizes t 0
  enough t l e = rw (pair t l) at e

  -- what `position` says of the first pair with a smaller size
  pub first_is : (r : Option ℕ)
      → MatchOption r (AllWithin (λ (p : ℕ × ℕ). p.1 ≤ p.0) pairs 0 (length pairs)) (λ i. (i < length pairs) × HoldsAt (λ (p : ℕ × ℕ). p.0 < p.1) pairs i × AllWithin (λ (p : ℕ × ℕ). p.1 ≤ p.0) pairs 0 i)
      → FirstShort sizes shares n r
  first_is None all = λ t l. enough t l (all t (0, 0) (omega arith) (let e = long in omega arith))
  first_is (Some i) (l, short, before) =
      let below : i < n = let e = long in omega arith in
      record {
        below = below;
        before = λ t b. enough t (omega arith) (before t (0, 0) (omega arith) b);
        short = rw (pair i below) at (short (0, 0));
      }

-- ---- one chain

module _ (s : Agents) (h : Holding) (held : Held s h) (bundles : List ℕ) (ready : Ready s h.owner bundles) (i only-i rich : ℕ) (first : LowestShort h.sizes h.shares s.n i)
    (is-only : (j : ℕ) → bit only-i j ≡ only i j) (is-rich : Above h.sizes h.shares bundles s.n rich) (r : Reached) (out : Outcome s h.owner only-i rich r) where
  abbrev D : ℕ → ℕ
  D = holder h.owner

  -- the short agent is the source
  pub source_only : T (bit only-i i)
  source_only = subst⁻¹ T (is-only i) (eq→eqb i i refl)

  li : i < s.n
  li = first.below

  -- agent i is short
  is_short : size s.m (bundle D i) < get_or h.shares i 0
  is_short = let e = held_size s h held i li in let l = first.short in omega arith

  -- a target of the search is held by an agent above its share
  rich_agent : (g : ℕ) → T (bit rich g) → (g < s.m) × (D g < s.n) × (get_or h.shares (D g) 0 < size s.m (bundle D (D g)))
  rich_agent g t =
      let (u, l, (more, w)) = (is-rich.at g).0 t in
      let few = ready.few in
      let b = subst T (ready.words.at u (omega arith) g) w in
      let e = eqb→eq (D g) u (and_right (ltb g s.m) _ b) in
      let same = held_size s h held u l in
      (ltb→lt g s.m (and_left (ltb g s.m) _ b), omega arith, subst⁻¹ (λ (x : ℕ). get_or h.shares x 0 < size s.m (bundle D x)) e (omega arith))

  -- and whoever holds nothing of it is not
  poor_agent : (g : ℕ) → g < s.m → D g < s.n → T (not (bit rich g)) → size s.m (bundle D (D g)) ≤ get_or h.shares (D g) 0
  poor_agent g l known clear = elim (dec_lt (get_or h.shares (D g) 0) (size s.m (bundle D (D g)))) [
    | no d ↦ omega arith
    | yes more ↦
        let few = ready.few in
        let same = held_size s h held (D g) known in
        absurd (T_not (bit rich g) clear ((is-rich.at g).1 (D g, known, (omega arith, subst⁻¹ T (ready.words.at (D g) (omega arith) g) (both (ltb g s.m) _ (lt→ltb g s.m l) (eq→eqb (D g) (D g) refl))))))
  ]

  -- an agent that is short has a target, so it is present
  short_present : (present : Set) → ((t : ℕ) → t < s.n → T (not (present t)) → get_or h.shares t 0 ≡ 0) → T (present i)
  short_present present none = elim (decide_T (present i)) [ inl here ↦ here | inr away ↦ let zero = none i li away in let less = is_short in absurd (omega arith) ]

  -- where the total is greatest a chain is found
  pub level_stuck : (start : Holding) → Levellable s start → h.shares ≡ start.shares → given s h.owner ≡ given s start.owner → r.end ≡ None → ⊥
  unfolding given
  level_stuck start able shares same none =
      let present = able.present in
      let k = able.bound in
      let full = same ∙ able.full.full in
      levelling_present s.n (agent_matroid s) present (size s.n present) refl able.away.idle D R held.sound
      (λ g x lg lx t e. both (S x) _ (out.closed none g x lg lx (and_left (S g) _ t) e) (slack_edge s.n (agent_matroid s) D (bit k) held.sound full g x lg lx (and_right (S g) _ t) e))
      (λ t. get_or h.shares t 0) (λ t l here. subst⁻¹ (λ (row : List ℕ). size s.n present * get_or row t 0 ≤ size s.m R + size s.n present * worth (agent_matroid s t) (complement R)) shares (able.allowed t l here R))
      (λ g l t. let known = slack_held s.n (agent_matroid s) D (bit k) held.sound full g l (and_right (S g) _ t) in (known, poor_agent g l known (out.clear none g (and_left (S g) _ t))))
      i li (short_present present (λ t l away. ap (λ (row : List ℕ). get_or row t 0) shares ∙ able.none t l away)) is_short
      (λ g l c. both (S g) _ (out.gains none i li source_only g l c) (slack_gain s.n (agent_matroid s) D (bit k) held.sound full i g li l c))
    where
      S : Set
      S = bit r.trace.seen

      R : Set
      R = S ∖ bit able.bound

  module _ (end : ℕ) (found : r.end ≡ Some end) (after : Holding) (a : Advanced s h only-i end after) where
    -- the chain is from agent i to an agent above its target
    from_i : a.agent ≡ i
    from_i = eqb→eq a.agent i (subst T (is-only a.agent) a.source)

    -- whoever held the end is above its share
    rich_end : (end < s.m) × (D end < s.n) × (get_or h.shares (D end) 0 < size s.m (bundle D (D end)))
    rich_end = rich_agent end (out.found end found).2

    -- so it is not agent i
    two : D end ≢ i
    two e =
        let more = subst (λ (x : ℕ). get_or h.shares x 0 < size s.m (bundle D x)) e rich_end.2 in
        let less = is_short in
        omega arith

    -- so as many are given as before
    pub level_same : given s after.owner ≡ given s h.owner
    level_same = given_same s h after only-i end a rich_end.1

    -- agent i has one more
    gains : size s.m (bundle (holder after.owner) i) ≡ size s.m (bundle D i) + 1
    gains =
        let c = size_after s h after only-i end a i in
        let to = one_eq a.agent i from_i in
        let from = one_ne (D end) i two in
        omega arith

    -- the other one fewer
    loses : size s.m (bundle (holder after.owner) (D end)) + 1 ≡ size s.m (bundle D (D end))
    loses =
        let c = size_after s h after only-i end a (D end) in
        let to = one_ne a.agent (D end) (λ e. two (sym e ∙ from_i)) in
        let from = one_eq (D end) (D end) refl in
        omega arith

    -- and nobody else another number
    keeps : OnlyAtTwo s.n (λ t. size s.m (bundle D t)) (λ t. size s.m (bundle (holder after.owner) t)) i (D end)
    keeps t _ di dj =
        let c = size_after s h after only-i end a t in
        let to = one_ne a.agent t (λ e. di (sym e ∙ from_i)) in
        let from = one_ne (D end) t (λ e. dj (sym e)) in
        omega arith

    -- A chain of levelling lowers the shortfall by exactly one.
    pub level_falls : h.shortfall ≡ after.shortfall + 1
    level_falls =
        let before = held_shortfall s h held in
        let now = held_shortfall s after a.held ∙ ap (λ (row : List ℕ). shortfall s.n (λ t. get_or row t 0) (λ t. size s.m (bundle (holder after.owner) t))) a.shares in
        let falls = shortfall_falls s.n (λ t. get_or h.shares t 0) (λ t. size s.m (bundle D t)) (λ t. size s.m (bundle (holder after.owner) t)) i (D end) li rich_end.1 keeps gains loses is_short rich_end.2 in
        omega arith

-- where nobody is short the shortfall is 0
pub nobody_short : (s : Agents) (h : Holding) → Held s h → ((t : ℕ) → t < s.n → get_or h.shares t 0 ≤ get_or h.sizes t 0) → h.shortfall ≡ 0
nobody_short s h held met =
    held_shortfall s h held ∙ (shortfall_none s.n (λ t. get_or h.shares t 0) (λ t. size s.m (bundle (holder h.owner) t))).1 (λ t l.
    let e = held_size s h held t l in
    let most = met t l in
    omega arith)

-- where the shortfall is 0 the holding is levelled
pub level_done : (s : Agents) (start h : Holding) → Held s h → h.shortfall ≡ 0 → h.shares ≡ start.shares → given s h.owner ≡ given s start.owner → Levelled s start h
level_done s start h held none shares same = record {
  held = held;
  same = same;
  reached = λ t l. subst (λ (row : List ℕ). get_or row t 0 ≤ size s.m (bundle (holder h.owner) t)) shares ((shortfall_none s.n (λ t. get_or h.shares t 0) (λ t. size s.m (bundle (holder h.owner) t))).0 (sym (held_shortfall s h held) ∙ none) t l);
}
