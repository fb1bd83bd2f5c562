-- Carrying out the moves that lead back from the end of a search is carrying out a chain with no short cut.
use Prim.Native.Nat.{ℕ, zero, suc, ◌+◌, ◌≤◌, ◌<◌}
use mathlib.Core.Path.{◌≡◌, refl, sym, ap, ◌∙◌, subst, subst⁻¹}
use mathlib.Core.Logic.{inl, inr, ◌≢◌}
use mathlib.Core.List.{List, [], ◌∷◌}
use native.Mathlib.Omega.{arith}
use native.Mathlib.Decide.{ℕ_discrete}
use lib.Dec.{T}
use lib.ListN.{length, get_or}
use Rattle.matroid.specs.Search.{All, Any}
use Rattle.matroid.specs.Exchange.{Sound}
use Rattle.matroid.specs.Carry.{Distinct, carry, last}
use Rattle.matroid.specs.Breadth.{Labels}
use Rattle.matroid.proofs.Walk.{Walked, walked_end, walked_back, walked_distinct, walked_below, walked_short, walked_source, walked_team, walked_reached, parent_level, to_team, carried, carried_sound, in_list}
use Rattle.sets.specs.Bits.{bit}
use Rattle.holding.specs.declared.Holding.{Holding}
use Rattle.holding.specs.declared.Moves.{Moves}
use Rattle.holding.specs.Give.{holder_of}
use Rattle.holding.specs.Chain.{item_at, chained}
use Rattle.holding.proofs.Rights.{chained_right}
use Rattle.holding.proofs.Applies.{Fit, chain_m, chain_n, chain_shares, chain_long, chain_moved, chain_kept}
use Rattle.exchange.specs.declared.Agents.{Agents}
use Rattle.exchange.specs.declared.search.Trace.{Trace}
use Rattle.exchange.specs.Agents.{agent_matroid, holder, Held}
use Rattle.exchange.specs.Search.{labels_of, Labelling}
use Rattle.exchange.specs.Chains.{Followed}

-- A chain from a source agent to the end was carried out: the agent has the first, each next one went to the old holder of the one before.
pub record Advanced (s : Agents) (h : Holding) (sources end : ℕ) (after : Holding) : Type 0 where
  pub agent : ℕ
  pub source : T (bit sources agent)
  pub is_agent : agent < s.n
  pub first : ℕ
  pub rest : List ℕ
  pub ends : last first rest ≡ end
  pub below : All (λ k. k < s.m) (first ∷ rest)
  pub distinct : Distinct (first ∷ rest)
  pub moved : holder after.owner ≡ carry (holder h.owner) agent (first ∷ rest)
  pub shares : after.shares ≡ h.shares
  pub held : Held s after

-- the first k items, last first
back : (ℕ → ℕ) → ℕ → List ℕ
back f zero = []
back f (suc k) = f k ∷ back f k

-- what holds of item k and the items before it holds of each
back_all : (P : ℕ → Type 0) (f : ℕ → ℕ) (k : ℕ) → All P (f k ∷ back f k) → (j : ℕ) → j ≤ k → P (f j)
unfolding back
back_all P f zero a j l = let e : j ≡ 0 = omega arith in subst⁻¹ (λ (x : ℕ). P (f x)) e a.0
back_all P f (suc k) a j l = go (λ (b : j ≤ k). back_all P f k a.1 j b) (ℕ_discrete j (suc k))
  where
    go : (j ≤ k → P (f j)) → Dec (j ≡ suc k) → P (f j)
    go rest (yes e) = subst⁻¹ (λ (x : ℕ). P (f x)) e a.0
    go rest (no d) = rest (omega arith)

-- and what differs from each differs from all
all_back : (P : ℕ → Type 0) (f : ℕ → ℕ) (k : ℕ) → ((j : ℕ) → j ≤ k → P (f j)) → All P (f k ∷ back f k)
unfolding back
all_back P f zero h = (h 0 (omega arith), tt)
all_back P f (suc k) h = (h (suc k) (omega arith), all_back P f k (λ j l. h j (omega arith)))

back_any : (f : ℕ → ℕ) (x k : ℕ) → Any (λ y. y ≡ x) (f k ∷ back f k) → (j : ℕ) × (j ≤ k) × (f j ≡ x)
unfolding back
back_any f x zero (inl e) = (0, omega arith, e)
back_any f x zero (inr a) = absurd a
back_any f x (suc k) (inl e) = (suc k, omega arith, e)
back_any f x (suc k) (inr a) = let (j, l, e) = back_any f x k a in (j, omega arith, e)

-- items of a list of different numbers differ
back_once : (f : ℕ → ℕ) (k : ℕ) → Distinct (f k ∷ back f k) → (i j : ℕ) → i < j → j ≤ k → f i ≢ f j
unfolding back
back_once f zero d i j l b = absurd (omega arith)
back_once f (suc k) d i j l b = go (λ (c : j ≤ k). back_once f k d.1 i j l c) (ℕ_discrete j (suc k))
  where
    go : (j ≤ k → f i ≢ f j) → Dec (j ≡ suc k) → f i ≢ f j
    go rest (yes e) = λ same. back_all (λ x. x ≢ f (suc k)) f k d.0 i (omega arith) (same ∙ ap f e)
    go rest (no other) = rest (omega arith)

back_length : (f : ℕ → ℕ) (k : ℕ) → length (back f k) ≡ k
unfolding back
back_length f zero = refl
back_length f (suc k) = ap suc (back_length f k)

module _ (s : Agents) (h : Holding) (held : Held s h) (sources : ℕ) (trace : Trace) (end : ℕ) (lab : Labelling s h.owner sources trace) (reached : T (bit trace.seen end))
    (moves : Moves) (fol : Followed trace end moves) (i₀ : ℕ) (l₀ : i₀ < s.n) (src₀ : T (bit sources i₀)) where
  abbrev item : ℕ → ℕ
  item = item_at moves

  abbrev L : Labels
  L = labels_of lab.level trace

  abbrev WalkedTo : ℕ → List ℕ → Type 0
  WalkedTo = Walked s.n (agent_matroid s) (holder h.owner) (bit sources) (bit trace.seen) L lab.traced end

  -- an instrument with a parent is not at level 0
  above : (x : ℕ) → T (bit trace.seen x) → get_or trace.parent x 0 < 64 → lab.level x ≢ 0
  above x t l z = let r = lab.roots x t z in omega arith

  reached_at : (k : ℕ) → WalkedTo (item k) (back item k) → T (bit trace.seen (item k))
  reached_at k w = (walked_reached s.n (agent_matroid s) (holder h.owner) (bit sources) (bit trace.seen) L lab.traced end (item k) (back item k) w i₀ l₀ src₀).0

  -- the moves walk back
  walk : (k : ℕ) → k ≤ fol.top → WalkedTo (item k) (back item k)
  unfolding back
  walk zero l = rw fol.start (walked_end s.n (agent_matroid s) (holder h.owner) (bit sources) (bit trace.seen) L lab.traced end reached)
  walk (suc k) l =
      let w = walk k (omega arith) in
      let (low, next) = fol.step k (omega arith) in
      let up : item (suc k) ≡ get_or trace.parent (item k) 0 = ap item (let e : suc k ≡ k + 1 = omega arith in e) ∙ next in
      rw up (walked_back s.n (agent_matroid s) (holder h.owner) (bit sources) (bit trace.seen) L lab.traced end (item k) (back item k) w (above (item k) (reached_at k w) low))

  top_walk : WalkedTo (item fol.top) (back item fol.top)
  top_walk = walk fol.top (omega arith)

  -- the last one is a root: the walk has no room for more
  top_root : lab.level (item fol.top) ≡ 0
  unfolding back
  top_root = go (ℕ_discrete (lab.level (item fol.top)) 0)
    where
      go : Dec (lab.level (item fol.top) ≡ 0) → lab.level (item fol.top) ≡ 0
      go (yes z) = z
      go (no d) =
          let (seen, _) = parent_level s.n (agent_matroid s) (holder h.owner) (bit sources) (bit trace.seen) L lab.traced end (item fol.top) (back item fol.top) top_walk d in
          let low = lab.traced.below (get_or trace.parent (item fol.top) 0) seen in
          let small = held.small in
          elim fol.stop [
            | inl high ↦ absurd (omega arith)
            | inr full ↦
                let more = walked_back s.n (agent_matroid s) (holder h.owner) (bit sources) (bit trace.seen) L lab.traced end (item fol.top) (back item fol.top) top_walk d in
                let short = walked_short s.n (agent_matroid s) (holder h.owner) (bit sources) (bit trace.seen) L lab.traced end (get_or trace.parent (item fol.top) 0) (item fol.top ∷ back item fol.top) more i₀ l₀ src₀ in
                let len = back_length item fol.top in
                absurd (omega arith)
          ]

  below : All (λ k. k < s.m) (item fol.top ∷ back item fol.top)
  below = walked_below s.n (agent_matroid s) (holder h.owner) (bit sources) (bit trace.seen) L lab.traced end (item fol.top) (back item fol.top) top_walk i₀ l₀ src₀

  distinct : Distinct (item fol.top ∷ back item fol.top)
  distinct = walked_distinct s.n (agent_matroid s) (holder h.owner) (bit sources) (bit trace.seen) L lab.traced end (item fol.top) (back item fol.top) top_walk i₀ l₀ src₀

  all_reached : All (λ k. T (bit trace.seen k)) (item fol.top ∷ back item fol.top)
  all_reached = walked_reached s.n (agent_matroid s) (holder h.owner) (bit sources) (bit trace.seen) L lab.traced end (item fol.top) (back item fol.top) top_walk i₀ l₀ src₀

  -- the moves fit the holding
  fit : Fit h moves
  unfolding holder_of
  fit =
      let c = fol.count in
      let b = fol.few in
      let em = held.m in
      let en = held.n in
      record {
        few = omega arith;
        item = λ k l. let x = back_all (λ j. j < s.m) item fol.top below k (omega arith) in omega arith;
        team = λ k l.
            let t = to_team s.n (agent_matroid s) (holder h.owner) (bit sources) (bit trace.seen) L lab.traced (item k) (back_all (λ j. T (bit trace.seen j)) item fol.top all_reached k (omega arith)) in
            let e = fol.to k (omega arith) in
            omega arith;
        once = λ i j l k. back_once item fol.top distinct i j l (omega arith);
      }

  after : Holding
  after = chained h moves

  small : h.m ≤ 64
  small = let e = held.m in let l = held.small in omega arith

  few : h.n ≤ 12
  few = let e = held.n in let l = held.few in omega arith

  -- who holds what after it
  inside : (x : ℕ) → Any (λ k. k ≡ x) (item fol.top ∷ back item fol.top) → holder after.owner x ≡ L.to x
  unfolding after holder_of
  inside x a =
      let (k, l, e) = back_any item x fol.top a in
      let c = fol.count in
      chain_moved h moves small few fit held.owner_long x k (omega arith) e ∙ fol.to k l ∙ ap L.to e

  outside : (x : ℕ) → All (λ k. x ≢ k) (item fol.top ∷ back item fol.top) → holder after.owner x ≡ holder h.owner x
  unfolding after holder_of
  outside x a = chain_kept h moves small few fit held.owner_long x (λ k l e. let c = fol.count in back_all (λ j. x ≢ j) item fol.top a k (omega arith) (sym e))

  is_carried : holder after.owner ≡ carry (holder h.owner) (L.to (item fol.top)) (item fol.top ∷ back item fol.top)
  is_carried = carried s.n (agent_matroid s) (holder h.owner) (bit sources) (bit trace.seen) L lab.traced end (item fol.top) (back item fol.top) top_walk top_root (holder after.owner) inside outside

  stays_held : Held s after
  unfolding after
  stays_held = record {
    m = chain_m h moves ∙ held.m;
    n = chain_n h moves ∙ held.n;
    small = held.small;
    few = held.few;
    valuations_long = held.valuations_long;
    owner_long = chain_long h moves ∙ held.owner_long;
    placed = λ x. elim (in_list x (item fol.top ∷ back item fol.top)) [
      | inl a ↦ let (k, l, e) = back_any item x fol.top a in
          inr (rw (inside x a) (to_team s.n (agent_matroid s) (holder h.owner) (bit sources) (bit trace.seen) L lab.traced x (subst (λ (j : ℕ). T (bit trace.seen j)) e (back_all (λ j. T (bit trace.seen j)) item fol.top all_reached k l))))
      | inr o ↦ rw (outside x o) (held.placed x)
    ];
    right = chained_right h moves held.right;
    sound = subst⁻¹ (Sound s.n (agent_matroid s)) is_carried (carried_sound s.n (agent_matroid s) (holder h.owner) (bit sources) (bit trace.seen) L lab.traced end (item fol.top) (back item fol.top) top_walk top_root held.sound);
  }

  pub advances : Advanced s h sources end (chained h moves)
  unfolding after
  advances = record {
    agent = L.to (item fol.top);
    source = walked_source s.n (agent_matroid s) (holder h.owner) (bit sources) (bit trace.seen) L lab.traced end (item fol.top) (back item fol.top) top_walk top_root;
    is_agent = walked_team s.n (agent_matroid s) (holder h.owner) (bit sources) (bit trace.seen) L lab.traced end (item fol.top) (back item fol.top) top_walk top_root;
    first = item fol.top;
    rest = back item fol.top;
    ends = top_walk.ends;
    below = below;
    distinct = distinct;
    moved = is_carried;
    shares = chain_shares h moves;
    held = stays_held;
  }
