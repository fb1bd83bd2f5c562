-- Shares: what shows one, and how n agents of one valuation, filled and levelled, come to it.
use Prim.Native.Nat.{ℕ, ◌+◌, ◌*◌, ◌/◌, ◌≤◌, ◌<◌}
use mathlib.Core.Path.{◌≡◌, refl, ap, ◌∙◌, subst}
use mathlib.Core.Bool.{true}
use mathlib.Core.List.{List}
use native.Mathlib.Omega.{arith}
use native.Mathlib.Nat.{mul-le-mul_left, div-add-mod', mod-lt}
use native.Mathlib.Decide.{dec_lt, dec_le, ℕ_discrete}
use lib.Dec.{T, eqb→eq}
use lib.ListN.{length, get_or, set, replicate, length-set, get_or-replicate, get_or-eq_default}
use lib.Seq.{get_or-set_same, get_or-set_other}
use Rattle.matroid.specs.Set.{Set, complement, size, Within}
use Rattle.matroid.specs.SetLaws.{eq→eqb, size_all}
use Rattle.matroid.specs.Sum.{sum}
use Rattle.matroid.specs.Matroid.{Matroid, worth}
use Rattle.matroid.specs.Division.{bundle}
use Rattle.matroid.specs.Share.{share}
use Rattle.matroid.proofs.Sets.{size_twice}
use Rattle.matroid.proofs.Sums.{sum_same, sum_const}
use Rattle.matroid.proofs.Rank.{worth_indep, worth_mono}
use Rattle.matroid.proofs.Duality.{weak_duality}
use Rattle.matroid.proofs.Shares.{share_most, share_bound}
use Rattle.sets.specs.Bits.{bit}
use Rattle.kinds.specs.declared.Valuation.{Valuation}
use Rattle.std.proofs.lemmas.List.{get_or_default}
use Rattle.holding.specs.declared.Holding.{Holding}
use Rattle.holding.specs.Give.{measured_by}
use Rattle.holding.proofs.Counting.{counted_right}
use Rattle.kinds.specs.Valuations.{matroid_of, matroids, blank_valuation}
use Rattle.exchange.specs.declared.Agents.{Agents}
use Rattle.exchange.specs.Agents.{agent_matroid, holder, Held}
use Rattle.engine.specs.Fill.{given, Full}
use Rattle.engine.specs.Level.{Levellable, Levelled}
use Rattle.engine.specs.Share.{Parted, ShareOf}

-- ---- other shares

-- the same bundles measured against other shares
pub full_measured : (s : Agents) (h m : Holding) (k : ℕ) (shares : List ℕ) → Full s h k → m ≡ measured_by h shares → Full s m k
full_measured s h m k shares f is = rw is (record {
  held = record {
    m = f.held.m;
    n = f.held.n;
    small = f.held.small;
    few = f.held.few;
    valuations_long = f.held.valuations_long;
    owner_long = f.held.owner_long;
    placed = f.held.placed;
    sound = f.held.sound;
    right = counted_right h.m h.n h.owner shares;
  };
  low = f.low;
  full = f.full;
})

-- as many are given
pub measured_given : (s : Agents) (h m : Holding) (shares : List ℕ) → m ≡ measured_by h shares → given s h.owner ≡ given s m.owner
measured_given s h m shares is = rw is refl

-- ---- the cut

pub parted_none : (owner r : List ℕ) (n : ℕ) → Parted owner n 0 r
parted_none owner r n = record { agent = λ g l. absurd (omega arith); pool = λ g l. absurd (omega arith) }

-- the table so far: zeros from k on
pub record Parting (owner : List ℕ) (n k : ℕ) (r : List ℕ) : Type 0 where
  pub long : length r ≡ 64
  pub is : Parted owner n k r
  pub rest : (g : ℕ) → k ≤ g → get_or r g 0 ≡ 0

pub parting_none : (owner : List ℕ) (n : ℕ) → Parting owner n 0 (replicate 64 0)
parting_none owner n = record {
  long = refl;
  is = parted_none owner (replicate 64 0) n;
  rest = λ g _. elim (dec_lt g 64) [ yes l ↦ get_or-replicate {A = ℕ} 64 g 0 0 l | no d ↦ get_or-eq_default {A = ℕ} (replicate 64 0) 0 {n = g} (omega arith) ];
}

module _ (owner : List ℕ) (n k : ℕ) (r next : List ℕ) (h : Parting owner n k r) (l : k < 64) where
  pub parting_agent : get_or owner k 0 < n → next ≡ set r k (get_or owner k 0) → Parting owner n (k + 1) next
  parting_agent b is = rw is (record {
    long = length-set r k (get_or owner k 0) ∙ h.long;
    is = record {
      agent = λ g c t. elim (ℕ_discrete g k) [
        | yes e ↦ let wide = h.long in rw e (get_or-set_same r k (get_or owner k 0) 0 (omega arith))
        | no d ↦ get_or-set_other r k g (get_or owner k 0) 0 d ∙ h.is.agent g (omega arith) t
      ];
      pool = λ g c t. elim (ℕ_discrete g k) [
        | yes e ↦ let same = ap (λ (x : ℕ). get_or owner x 0) e in absurd (omega arith)
        | no d ↦ get_or-set_other r k g (get_or owner k 0) 0 d ∙ h.is.pool g (omega arith) t
      ];
    };
    rest = λ g c. get_or-set_other r k g (get_or owner k 0) 0 (omega arith) ∙ h.rest g (omega arith);
  })

  pub parting_pool : n ≤ get_or owner k 0 → next ≡ r → Parting owner n (k + 1) next
  parting_pool b is = rw is (record {
    long = h.long;
    is = record {
      agent = λ g c t. elim (ℕ_discrete g k) [ yes e ↦ let same = ap (λ (x : ℕ). get_or owner x 0) e in absurd (omega arith) | no d ↦ h.is.agent g (omega arith) t ];
      pool = λ g c t. elim (ℕ_discrete g k) [ yes e ↦ rw e (h.rest k (omega arith)) | no d ↦ h.is.pool g (omega arith) t ];
    };
    rest = λ g c. h.rest g (omega arith);
  })

-- ---- what shows a share

module _ (m n : ℕ) (v : Valuation) (some : 1 ≤ n) (s k : ℕ) (part : List ℕ) (low : (g : ℕ) → T (bit k g) → g < m) (below : (g : ℕ) → g < m → get_or part g 0 < n)
    (fair : (t : ℕ) → t < n → s ≤ worth (matroid_of m v) (bundle (λ g. get_or part g 0) t)) (tight : size m (complement (bit k)) + n * worth (matroid_of m v) (bit k) < n * (s + 1)) where
  -- a number that each part of a cut is worth, and that a set forbids to exceed, is the share
  is_share : s ≡ share (matroid_of m v) n
  is_share = go (dec_le (s + 1) (share (matroid_of m v) n))
    where
      go : Dec (s + 1 ≤ share (matroid_of m v) n) → s ≡ share (matroid_of m v) n
      go (yes l) =
          let bound = share_bound (matroid_of m v) n some (bit k) in
          let times = mul-le-mul_left n l in
          absurd (omega arith)
      go (no d) = let most = share_most (matroid_of m v) n some s (record { part = λ g. get_or part g 0; below = below; fair = fair }) in omega arith

  -- so the cut and the set are its certificates
  pub share_shown : ShareOf m n v (record { share = s; bound = k; part = part })
  share_shown = record { is = is_share; low = low; below = below; fair = fair; tight = tight }

-- ---- n agents of one valuation

-- every agent's matroid is the valuation's
alike : (m n : ℕ) (v : Valuation) (t : ℕ) → t < n → n ≤ 12 → matroids m (replicate 12 v) t ≡ matroid_of m v
alike m n v t l few = ap (matroid_of m) (get_or-replicate 12 t v blank_valuation (omega arith))

module _ (m n : ℕ) (v : Valuation) (small : m ≤ 64) (some : 1 ≤ n) (few : n ≤ 12) where
  abbrev agents_of : Agents
  agents_of = record { m = m; n = n; valuations = replicate 12 v }

  abbrev M : Matroid m
  M = matroid_of m v

  -- sums over the agents
  sum_worth : (K : Set) → sum n (λ t. worth (agent_matroid agents_of t) K) ≡ n * worth M K
  sum_worth K = sum_same n (λ t. worth (agent_matroid agents_of t) K) (λ t. worth M K) (λ t l. ap (λ (X : Matroid m). worth X K) (alike m n v t l few)) ∙ sum_const n (worth M K)

  -- what is given is bounded by every set
  given_bound : (h : Holding) (R : Set) → Held agents_of h → given agents_of h.owner ≤ size m R + n * worth M (complement R)
  unfolding given
  given_bound h R hd =
      let dual = weak_duality n (agent_matroid agents_of) (holder h.owner) (complement R) in
      let twice = size_twice m R in
      let worths = sum_worth (complement R) in
      let sizes = sum_same n (λ t. worth (agent_matroid agents_of t) (bundle (holder h.owner) t)) (λ t. size m (bundle (holder h.owner) t)) (λ t l. worth_indep (agent_matroid agents_of t) (bundle (holder h.owner) t) (hd.sound t l)) in
      omega arith

  -- the quotient of what is given can be every agent's share, and all are present
  pub share_levellable : (h : Holding) (k s : ℕ) → Full agents_of h k → s ≡ given agents_of h.owner / n → h.shares ≡ replicate 12 s → Levellable agents_of h
  share_levellable h k s f e is = record {
    bound = k;
    full = f;
    present = λ _. true;
    away = record { idle = λ t l away. absurd away };
    none = λ t l away. absurd away;
    allowed = λ t l _ R.
        let bound = given_bound h R f.held in
        let div = div-add-mod' (given agents_of h.owner) n in
        let target : get_or h.shares t 0 ≡ s = ap (λ (x : List ℕ). get_or x t 0) is ∙ get_or-replicate 12 t s 0 (omega arith) in
        let times = ap (λ (x : ℕ). n * x) (target ∙ e) in
        let same = ap (λ (X : Matroid m). n * worth X (complement R)) (alike m n v t l few) in
        rw (size_all n (λ _. true) (λ _ _. tt)) (omega arith);
  }

  -- the agents are levelled to it, and their bundles cut into parts
  module _ (f h : Holding) (k s : ℕ) (part : List ℕ) (full : Full agents_of f k) (e : s ≡ given agents_of f.owner / n) (is : f.shares ≡ replicate 12 s)
      (levelled : Levelled agents_of f h) (parted : Parted h.owner n m part) where
    abbrev cut_of : ℕ → ℕ
    cut_of g = get_or part g 0

    owner_at : (g : ℕ) → g < m → get_or h.owner g 0 ≡ holder h.owner g
    owner_at g l = let long = levelled.held.owner_long in get_or_default h.owner g 0 255 (omega arith)

    below : (g : ℕ) → g < m → cut_of g < n
    below g l = elim (dec_lt (get_or h.owner g 0) n) [
      | yes b ↦ let same = parted.agent g l b in omega arith
      | no d ↦ let zero = parted.pool g l (omega arith) in omega arith
    ]

    -- an agent's bundle lies in its part
    in_part : (t : ℕ) → t < n → Within m (bundle (holder h.owner) t) (bundle cut_of t)
    in_part t l = record {
      at = λ g b x.
          let own = owner_at g b in
          let o = eqb→eq (holder h.owner g) t x in
          eq→eqb (cut_of g) t (parted.agent g b (omega arith) ∙ own ∙ o);
    }

    fair : (t : ℕ) → t < n → s ≤ worth M (bundle cut_of t)
    fair t l =
        let target : get_or f.shares t 0 ≡ s = ap (λ (x : List ℕ). get_or x t 0) is ∙ get_or-replicate 12 t s 0 (omega arith) in
        let reached = levelled.reached t l in
        let indep = subst (λ (X : Matroid m). X.Indep (bundle (holder h.owner) t)) (alike m n v t l few) (levelled.held.sound t l) in
        let same = worth_indep M (bundle (holder h.owner) t) indep in
        let more = worth_mono M (in_part t l) in
        omega arith

    tight : size m (complement (bit k)) + n * worth M (bit k) < n * (s + 1)
    tight =
        let cert = full.full in
        let worths = sum_worth (bit k) in
        let div = div-add-mod' (given agents_of f.owner) n in
        let rest = mod-lt (given agents_of f.owner) {m = n} (omega arith) in
        let times = ap (λ (x : ℕ). n * x) e in
        omega arith

    -- so the quotient is the share
    pub shares : ShareOf m n v (record { share = s; bound = k; part = part })
    shares = share_shown m n v some s k part full.low below fair tight
