-- The loops of `search`.
use Prim.Native.Nat.{ℕ, suc, ◌+◌, ◌≤◌, ◌<◌}
use mathlib.Core.Path.{◌≡◌, refl, sym, ap, ◌∙◌, subst, subst⁻¹}
use mathlib.Core.Bool.{Bool, true, false, ◌&&◌, ◌||◌, not}
use mathlib.Core.Logic.{◌⊎◌, inl, inr, ◌↔◌}
use mathlib.Core.List.{List}
use native.Mathlib.Omega.{arith}
use native.Mathlib.Decide.{ℕ_discrete}
use lib.Dec.{T, eqb, T_not, not_T}
use borrow.Author.Tests.{eq-eqb}
use Rattle.std.proofs.Common.{Some, None}
use Rattle.std.proofs.lemmas.Option.{same_Some, none-some}
use lib.ListN.{length, get_or, set, length-set}
use lib.Seq.{get_or-set_same, get_or-set_other}
use Rattle.matroid.specs.Taut.{decide_T, both as both_of, and_left, and_right, follows₂}
use Rattle.matroid.specs.Set.{Set, ◌∩◌, with, without, size}
use Rattle.matroid.specs.SetLaws.{with_cases, with_new, with_old, size_with, size_same, differ, ne→eqb}
use Rattle.matroid.specs.Matroid.{Matroid}
use Rattle.matroid.specs.Division.{bundle, move}
use Rattle.matroid.specs.DivisionLaws.{move_here, move_away}
use Rattle.matroid.specs.Exchange.{Swaps, CanSwap, Edge}
use Rattle.matroid.proofs.Sets.{size_le}
use Rattle.matroid.proofs.Waves.{Wave, wave_traced, wave_closed, wave_gains, wave_next, wave_scanned, wave_mark, rooted_wave}
use Rattle.sets.specs.Bits.{bit}
use Rattle.sets.proofs.Below.{none_there}
use Rattle.sets.specs.Lowest.{Lowest}
use Rattle.sets.specs.Next.{Taken}
use Rattle.kinds.specs.declared.Valuation.{Valuation}
use Rattle.std.proofs.lemmas.List.{get_or_default}
use Rattle.kinds.specs.Valuations.{matroid_of}
use Rattle.exchange.specs.declared.Agents.{Agents}
use Rattle.exchange.specs.declared.search.Trace.{Trace}
use Rattle.exchange.specs.Agents.{agent_matroid, holder, Ready}
use Rattle.exchange.specs.Search.{Rooting, Marked, Exchanges, Rest, here, onward, ended_at, labels_of, Labelling, Outcome}
use Rattle.exchange.proofs.Words.{word_bundle, agent_is, word_indep, swaps_alike}

-- ---- words, counted

pub ones : ℕ → ℕ
ones s = size 64 (bit s)

pub ones_le : (s : ℕ) → ones s ≤ 64
unfolding ones
ones_le s = size_le 64 (bit s)

-- one more
grown : (w : ℕ) (A B : Set) (g : ℕ) → g < w → T (not (A g)) → ((k : ℕ) → B k ≡ with A g k) → size w B ≡ size w A + 1
grown w A B g l out is =
    let same = size_same w {A = B} {B = with A g} (record { at = λ k _ b. subst T (is k) b }) (record { at = λ k _ b. subst⁻¹ T (is k) b }) in
    let more = size_with w A g l out in
    omega arith

pub ones_with : (s r g : ℕ) → g < 64 → T (not (bit s g)) → ((k : ℕ) → bit r k ≡ with (bit s) g k) → ones r ≡ ones s + 1
unfolding ones
ones_with s r g l out is = grown 64 (bit s) (bit r) g l out is

-- a word of nothing at all
empty : (s r : ℕ) → Lowest s r → 64 ≤ r → (k : ℕ) → k < 64 → T (not (bit s k))
empty s r low l k b = low.least k (omega arith)

-- ---- the outer loop

-- the search goes on: what was reached has labels, is clear of targets, and is scanned level by level
pub record Going (s : Agents) (owner : List ℕ) (sources target : ℕ) (trace : Trace) (scanned todo : ℕ) : Type 0 where
  pub level : ℕ → ℕ
  pub depth : ℕ
  pub wave : Wave s.n (agent_matroid s) (holder owner) (bit sources) (bit trace.seen) (bit scanned) (bit todo) (labels_of level trace) depth
  pub roots : (x : ℕ) → T (bit trace.seen x) → level x ≡ 0 → get_or trace.parent x 0 ≡ 255
  pub clear : (x : ℕ) → T (bit trace.seen x) → T (not (bit target x))
  pub parent_long : length trace.parent ≡ 64
  pub to_long : length trace.to ≡ 64

-- what is to be scanned is not scanned yet
abbrev pub Apart : (scanned todo : ℕ) → Type 0
Apart scanned todo = (k : ℕ) → T (bit todo k) → T (not (bit scanned k))

pub apart_rest : (todo seen scanned r : ℕ) → Rest todo seen scanned r → Apart scanned todo → Apart scanned r
apart_rest todo seen scanned r (here k l t e) a = rw e a
apart_rest todo seen scanned r (onward none is) a = λ j t. and_right (bit seen j) _ (subst T (is j) t)

pub apart_scanned : (scanned todo g scanned' todo' : ℕ) → Apart scanned todo → ((k : ℕ) → bit scanned' k ≡ with (bit scanned) g k) → ((k : ℕ) → bit todo' k ≡ without (bit todo) g k) → Apart scanned' todo'
apart_scanned scanned todo g scanned' todo' a isC isO k t =
    let u = subst T (isO k) t in
    subst⁻¹ (λ (b : Bool). T (not b)) (isC k) (follows₂ (λ c e. not c && not e) (λ c e. not (c || e)) tt (bit scanned k) (eqb k g) (both_of (not (bit scanned k)) _ (a k (and_left (bit todo k) _ u)) (and_right (bit todo k) _ u)))

module _ (s : Agents) (owner bundles : List ℕ) (ready : Ready s owner bundles) (sources target : ℕ) where
  -- what was reached is below 64
  low : {trace : Trace} {scanned todo : ℕ} → Going s owner sources target trace scanned todo → (x : ℕ) → T (bit trace.seen x) → x < 64
  low g x t = let b = g.wave.below x t in let small = ready.small in omega arith

  -- at the start nothing is scanned
  pub going_start : (trace : Trace) → Rooting s owner sources s.n trace → ((x : ℕ) → T (bit trace.seen x) → T (not (bit target x)))
      → length trace.parent ≡ 64 → length trace.to ≡ 64 → Going s owner sources target trace 0 trace.seen
  going_start trace r clear lp lt = record {
    level = λ x. 0;
    depth = 0;
    wave = rooted_wave s.n (agent_matroid s) (holder owner) (bit sources) (bit trace.seen) (bit 0) (labels_of (λ x. 0) trace) r.rooted (λ x. refl) none_there;
    roots = λ x t _. r.apart x (let b = r.rooted.below x t in let small = ready.small in omega arith);
    clear = clear;
    parent_long = lp;
    to_long = lt;
  }

  -- no root is a target
  pub roots_clear : (trace : Trace) (both hit : ℕ) → Rooting s owner sources s.n trace → ((k : ℕ) → bit both k ≡ (bit trace.seen ∩ bit target) k) → Lowest both hit → 64 ≤ hit
      → (x : ℕ) → T (bit trace.seen x) → T (not (bit target x))
  roots_clear trace both hit r is lowest l x t =
      not_T (bit target x) (λ tt'. T_not (bit both x) (empty both hit lowest l x (let b = r.rooted.below x t in let small = ready.small in omega arith)) (subst⁻¹ T (is x) (both_of (bit trace.seen x) (bit target x) t tt')))

  -- or a root is a target at once
  pub roots_found : (trace : Trace) (both hit : ℕ) → Rooting s owner sources s.n trace → ((k : ℕ) → bit both k ≡ (bit trace.seen ∩ bit target) k) → Lowest both hit → hit < 64
      → Labelling s owner sources trace × T (bit trace.seen hit) × T (bit target hit)
  roots_found trace both hit r is lowest l =
      let w = rooted_wave s.n (agent_matroid s) (holder owner) (bit sources) (bit trace.seen) (bit 0) (labels_of (λ x. 0) trace) r.rooted (λ x. refl) none_there in
      let t = subst T (is hit) (lowest.member l) in (
        record {
          level = λ x. 0;
          traced = wave_traced s.n (agent_matroid s) (holder owner) (bit sources) (bit trace.seen) (bit 0) (bit trace.seen) (labels_of (λ x. 0) trace) 0 w;
          roots = λ x t _. r.apart x (let b = r.rooted.below x t in let small = ready.small in omega arith);
        },
        and_left (bit trace.seen hit) _ t,
        and_right (bit trace.seen hit) _ t,
      )

  module _ (trace : Trace) (scanned todo : ℕ) (g : Going s owner sources target trace scanned todo) where
    -- the level is done, and the next one begins
    pub going_rest : (r : ℕ) → Rest todo trace.seen scanned r → Going s owner sources target trace scanned r
    going_rest r (here k l t e) = rw e g
    going_rest r (onward none is) = record {
      level = g.level;
      depth = g.depth + 1;
      wave = wave_next s.n (agent_matroid s) (holder owner) (bit sources) (bit trace.seen) (bit scanned) (bit todo) (labels_of g.level trace) g.depth g.wave (bit r)
          (λ k. not_T (bit todo k) (λ t. T_not (bit todo k) (none k (low g k (g.wave.now k t).0)) t))
          (λ k t. let u = subst T (is k) t in (and_left (bit trace.seen k) _ u, and_right (bit trace.seen k) _ u))
          (λ k sk c. subst⁻¹ T (is k) (both_of (bit trace.seen k) (not (bit scanned k)) sk c));
      roots = g.roots;
      clear = g.clear;
      parent_long = g.parent_long;
      to_long = g.to_long;
    }

    -- where nothing is left, all is scanned
    pub all_scanned : (r least : ℕ) → Rest todo trace.seen scanned r → Lowest r least → 64 ≤ least → (x : ℕ) → T (bit trace.seen x) → T (bit scanned x)
    all_scanned r least (here k l t e) lowest top x sx = absurd (T_not (bit r k) (empty r least lowest top k l) (rw e t))
    all_scanned r least (onward none is) lowest top x sx = elim (decide_T (bit scanned x)) [
      | inl c ↦ c
      | inr c ↦ absurd (T_not (bit r x) (empty r least lowest top x (low g x sx)) (subst⁻¹ T (is x) (both_of (bit trace.seen x) (not (bit scanned x)) sx c)))
    ]

-- ---- the inner scan

-- a store in a table is a move
set_move : (l : List ℕ) (x v k : ℕ) → x < length l → get_or (set l x v) k 0 ≡ move (λ j. get_or l j 0) x v k
set_move l x v k b = elim (ℕ_discrete k x) [
  | yes e ↦ rw e (get_or-set_same l x v 0 b) ∙ sym (move_here (λ j. get_or l j 0) x v k e)
  | no d ↦ get_or-set_other l x k v 0 d ∙ sym (move_away (λ j. get_or l j 0) x v k d)
]

-- g is being scanned: what is left can take its place, and all else that can is reached
pub record Scanning (s : Agents) (owner : List ℕ) (sources target : ℕ) (trace : Trace) (scanned todo g left : ℕ) : Type 0 where
  pub going : Going s owner sources target trace scanned todo
  pub member : T (bit todo g)
  pub ahead : (k : ℕ) → T (bit left k) → T (not (bit trace.seen k)) × (k < s.m) × Edge s.n (agent_matroid s) (holder owner) g k
  pub leads : (k : ℕ) → k < s.m → Edge s.n (agent_matroid s) (holder owner) g k → T (bit trace.seen k) ⊎ T (bit left k)

module _ (s : Agents) (owner bundles : List ℕ) (ready : Ready s owner bundles) (sources target : ℕ) (trace : Trace) (scanned todo g fresh : ℕ) where
  -- the exchanges of an instrument that an agent holds
  scan_start : (t : ℕ) (v d : Valuation) → Going s owner sources target trace scanned todo → T (bit todo g) → g < 64 → t ≡ get_or owner g 0 → t < s.n → v ≡ get_or s.valuations t d
      → Exchanges s.m v (get_or bundles t 0) g trace.seen fresh → Scanning s owner sources target trace scanned todo g fresh
  scan_start t v d go og lg is-t l e ex = record {
    going = go;
    member = og;
    ahead = λ k f. let (b, new, sw) = (at k).0 f in (new, b, edge k b sw);
    leads = λ k b e. elim (decide_T (bit trace.seen k)) [ inl old ↦ inl old | inr new ↦ inr ((at k).1 (b, new, swaps k b e)) ];
  }
    where
      holds : holder owner g ≡ t
      holds = let long = ready.owner_long in sym (is-t ∙ get_or_default owner g 0 255 (omega arith))

      same : matroid_of s.m v ≡ agent_matroid s t
      same = agent_is s t v d l ready.few ready.valuations_long e

      at : (k : ℕ) → T (bit fresh k) ↔ ((k < s.m) × T (not (bit trace.seen k)) × Swaps (agent_matroid s t) (bit (get_or bundles t 0)) g k)
      at k = subst (λ (X : Matroid s.m). X.Indep (bit (get_or bundles t 0)) → T (bit fresh k) ↔ ((k < s.m) × T (not (bit trace.seen k)) × Swaps X (bit (get_or bundles t 0)) g k)) same (λ i. ex.at i k) (word_indep s owner bundles ready t l)

      alike : (k : ℕ) → k < s.m → Swaps (agent_matroid s t) (bit (get_or bundles t 0)) g k ↔ Swaps (agent_matroid s t) (bundle (holder owner) t) g k
      alike k b = swaps_alike (agent_matroid s t) (bit (get_or bundles t 0)) (bundle (holder owner) t) (word_bundle s owner bundles ready t l) g k b

      edge : (k : ℕ) → k < s.m → Swaps (agent_matroid s t) (bit (get_or bundles t 0)) g k → Edge s.n (agent_matroid s) (holder owner) g k
      edge k b sw = subst⁻¹ (λ (u : ℕ). CanSwap s.n (agent_matroid s) (holder owner) u g k) holds (l, (alike k b).0 sw)

      swaps : (k : ℕ) → k < s.m → Edge s.n (agent_matroid s) (holder owner) g k → Swaps (agent_matroid s t) (bit (get_or bundles t 0)) g k
      swaps k b e = (alike k b).1 (subst (λ (u : ℕ). CanSwap s.n (agent_matroid s) (holder owner) u g k) holds e).1

  -- an instrument of the pool leads nowhere
  scan_pool : (t : ℕ) → Going s owner sources target trace scanned todo → T (bit todo g) → g < 64 → t ≡ get_or owner g 0 → s.n ≤ t → fresh ≡ 0
      → Scanning s owner sources target trace scanned todo g fresh
  scan_pool t go og lg is-t l e = record {
    going = go;
    member = og;
    ahead = λ k f. absurd (T_not (bit 0 k) (none_there k) (rw e at f));
    leads = λ k b e. let long = ready.owner_long in let same = get_or_default owner g 0 255 (omega arith) in let known = e.0 in absurd (omega arith);
  }

  -- the scan of g starts with all that is fresh
  pub scan_enter : (todo₀ t : ℕ) → Going s owner sources target trace scanned todo₀ → Rest todo₀ trace.seen scanned todo → Lowest todo g → g < 64 → t ≡ get_or owner g 0
      → ((v : Valuation) × (d : Valuation) × (r : ℕ) × (t < s.n) × (v ≡ get_or s.valuations t d) × Exchanges s.m v (get_or bundles t 0) g trace.seen r × (fresh ≡ r)) ⊎ ((s.n ≤ t) × (fresh ≡ 0))
      → Scanning s owner sources target trace scanned todo g fresh
  scan_enter todo₀ t go rest lowest lg is-t came = elim came [
    | inl (v, d, r, l, e, ex, same) ↦ scan_start t v d next (lowest.member lg) lg is-t l e (rw same ex)
    | inr (l, none) ↦ scan_pool t next (lowest.member lg) lg is-t l none
  ]
    where
      next : Going s owner sources target trace scanned todo
      next = going_rest s owner bundles ready sources target trace scanned todo₀ go todo rest

  -- `fresh` is what is left
  module _ (sc : Scanning s owner sources target trace scanned todo g fresh) where
    -- its least number is reached
    module _ (x left : ℕ) (taken : Taken fresh x left) (t : ℕ) (after : Trace) (lg : g < 64) (is-t : t ≡ get_or owner g 0) (mark : Marked trace x g t after) where
      level' : ℕ → ℕ
      level' = move sc.going.level x (sc.going.depth + 1)

      new : T (not (bit trace.seen x)) × (x < s.m) × Edge s.n (agent_matroid s) (holder owner) g x
      new = sc.ahead x (taken.low.member taken.some)

      marked_wave : Wave s.n (agent_matroid s) (holder owner) (bit sources) (bit after.seen) (bit scanned) (bit todo) (labels_of level' after) sc.going.depth
      unfolding level'
      marked_wave =
          let small = ready.small in
          let lx = new.1 in
          let lp = sc.going.parent_long in
          let lt = sc.going.to_long in
          let long = ready.owner_long in
          wave_mark s.n (agent_matroid s) (holder owner) (bit sources) (bit trace.seen) (bit scanned) (bit todo) (labels_of sc.going.level trace) sc.going.depth sc.going.wave
          x g (bit after.seen) (labels_of (move sc.going.level x (sc.going.depth + 1)) after) sc.member lx new.0 new.2 mark.seen (λ k. refl)
          (λ k. ap (λ (l : List ℕ). get_or l k 0) mark.parent ∙ set_move trace.parent x g k (omega arith))
          (λ k. ap (λ (l : List ℕ). get_or l k 0) mark.to ∙ set_move trace.to x t k (omega arith) ∙ ap (λ (v : ℕ). move (λ j. get_or trace.to j 0) x v k) (is-t ∙ get_or_default owner g 0 255 (omega arith)))

      marked_roots : (k : ℕ) → T (bit after.seen k) → level' k ≡ 0 → get_or after.parent k 0 ≡ 255
      unfolding level'
      marked_roots k sk z = elim (with_cases (bit trace.seen) x k (subst T (mark.seen k) sk)) [
        | inr e ↦ let one = move_here sc.going.level x (sc.going.depth + 1) k e in absurd (omega arith)
        | inl old ↦
            let other = differ (bit trace.seen) old new.0 in
            ap (λ (l : List ℕ). get_or l k 0) mark.parent ∙ get_or-set_other trace.parent x k g 0 other ∙ sc.going.roots k old (sym (move_away sc.going.level x (sc.going.depth + 1) k other) ∙ z)
      ]

      reached : T (bit after.seen x)
      reached = subst⁻¹ T (mark.seen x) (with_new (bit trace.seen) x)

      -- a target: the search has found its end
      pub scan_found : bit target x ≡ true → Labelling s owner sources after × T (bit after.seen x) × T (bit target x)
      scan_found e = (
        record {
          level = level';
          traced = wave_traced s.n (agent_matroid s) (holder owner) (bit sources) (bit after.seen) (bit scanned) (bit todo) (labels_of level' after) sc.going.depth marked_wave;
          roots = marked_roots;
        },
        reached,
        subst⁻¹ T e tt,
      )

      kept : (k : ℕ) → T (bit trace.seen k) → T (bit after.seen k)
      kept k old = subst⁻¹ T (mark.seen k) ((with_old {m = suc k} (bit trace.seen) x).at k (omega arith) old)

      -- another number: the scan goes on
      pub scan_mark : bit target x ≡ false → Scanning s owner sources target after scanned todo g left
      scan_mark e = record {
        going = record {
          level = level';
          depth = sc.going.depth;
          wave = marked_wave;
          roots = marked_roots;
          clear = λ k sk. elim (with_cases (bit trace.seen) x k (subst T (mark.seen k) sk)) [
            | inl old ↦ sc.going.clear k old
            | inr same ↦ subst⁻¹ (λ (b : Bool). T (not b)) (ap (bit target) same ∙ e) tt
          ];
          parent_long = ap length mark.parent ∙ length-set trace.parent x g ∙ sc.going.parent_long;
          to_long = ap length mark.to ∙ length-set trace.to x t ∙ sc.going.to_long;
        };
        member = sc.member;
        ahead = λ k lk.
            let still = subst T (taken.is k) lk in
            let (o, l, ed) = sc.ahead k (and_left (bit fresh k) _ still) in
            (subst⁻¹ (λ (b : Bool). T (not b)) (mark.seen k) (not_T (with (bit trace.seen) x k) (λ w. elim (with_cases (bit trace.seen) x k w) [ inl old ↦ T_not (bit trace.seen k) o old | inr same ↦ T_not (eqb k x) (and_right (bit fresh k) _ still) (subst⁻¹ T (eq-eqb k x same) tt) ])), l, ed);
        leads = λ k l ed. elim (sc.leads k l ed) [
          | inl old ↦ inl (kept k old)
          | inr fk ↦ elim (ℕ_discrete k x) [
            | yes same ↦ inl (subst⁻¹ (λ (j : ℕ). T (bit after.seen j)) same reached)
            | no d ↦ inr (subst⁻¹ T (taken.is k) (both_of (bit fresh k) _ fk (ne→eqb k x d)))
          ]
        ];
      }

    -- nothing is left: g is scanned
    pub scan_end : (scanned' todo' : ℕ) → Lowest fresh 64 → ((k : ℕ) → bit scanned' k ≡ with (bit scanned) g k) → ((k : ℕ) → bit todo' k ≡ without (bit todo) g k) → Going s owner sources target trace scanned' todo'
    scan_end scanned' todo' none isC isO = record {
      level = sc.going.level;
      depth = sc.going.depth;
      wave = wave_scanned s.n (agent_matroid s) (holder owner) (bit sources) (bit trace.seen) (bit scanned) (bit todo) (labels_of sc.going.level trace) sc.going.depth sc.going.wave g (bit scanned') (bit todo') sc.member
          (λ k b ed. elim (sc.leads k b ed) [ inl old ↦ old | inr fk ↦ absurd (T_not (bit fresh k) (none.least k (let small = ready.small in omega arith)) fk) ]) isC isO;
      roots = sc.going.roots;
      clear = sc.going.clear;
      parent_long = sc.going.parent_long;
      to_long = sc.going.to_long;
    }

-- ---- how the search ends

module _ (s : Agents) (owner bundles : List ℕ) (ready : Ready s owner bundles) (sources target : ℕ) where
  pub outcome_found : (trace : Trace) (end : ℕ) → Labelling s owner sources trace × T (bit trace.seen end) × T (bit target end) → Outcome s owner sources target (ended_at trace (Some end))
  outcome_found trace end found = record {
    found = λ x e. subst (λ (x : ℕ). Labelling s owner sources trace × T (bit trace.seen x) × T (bit target x)) (same_Some end x e) found;
    closed = λ e. absurd (none-some end (sym e));
    gains = λ e. absurd (none-some end (sym e));
    below = λ e. absurd (none-some end (sym e));
    clear = λ e. absurd (none-some end (sym e));
  }

  pub outcome_none : (trace : Trace) (scanned todo r : ℕ) → Going s owner sources target trace scanned todo → Rest todo trace.seen scanned r → Lowest r 64 → Outcome s owner sources target (ended_at trace None)
  outcome_none trace scanned todo r g rest lowest =
      let all = all_scanned s owner bundles ready sources target trace scanned todo g r 64 rest lowest (omega arith) in
      record {
        found = λ x e. absurd (none-some x e);
        closed = λ _. wave_closed s.n (agent_matroid s) (holder owner) (bit sources) (bit trace.seen) (bit scanned) (bit todo) (labels_of g.level trace) g.depth g.wave all;
        gains = λ _ t l src. wave_gains s.n (agent_matroid s) (holder owner) (bit sources) (bit trace.seen) (bit scanned) (bit todo) (labels_of g.level trace) g.depth g.wave t l src;
        below = λ _. g.wave.below;
        clear = λ _. g.clear;
      }
