-- The loops of `divide`, and what they come to.
use Prim.Native.Nat.{ℕ, ◌+◌, ◌*◌, ◌≤◌, ◌<◌}
use mathlib.Core.Path.{◌≡◌, refl, sym, ap, ◌∙◌, subst, subst⁻¹}
use mathlib.Core.Bool.{Bool, true, false, not}
use mathlib.Core.List.{List}
use native.Mathlib.Omega.{arith}
use native.Mathlib.Decide.{ℕ_discrete}
use lib.Dec.{T}
use lib.ListN.{get_or, set, replicate, length-set, get_or-replicate}
use lib.Seq.{get_or-set_same, get_or-set_other}
use Rattle.matroid.specs.Set.{Set, size}
use Rattle.matroid.proofs.Sets.{size_le}
use Rattle.matroid.proofs.Shares.{share_allowed}
use Rattle.matroid.proofs.Present.{present_some}
use Rattle.kinds.specs.declared.Valuation.{Valuation}
use Rattle.std.proofs.lemmas.List.{get_or_default}
use Rattle.kinds.specs.Valuations.{blank_valuation}
use Rattle.holding.specs.declared.Holding.{Holding}
use Rattle.exchange.specs.declared.Agents.{Agents}
use Rattle.engine.specs.declared.share.Shared.{Shared}
use Rattle.exchange.specs.Agents.{agent_matroid}
use Rattle.engine.specs.Fill.{ValidAgents, Full}
use Rattle.engine.specs.Level.{Away, Levellable, Levelled}
use Rattle.engine.specs.Share.{ShareOf}
use Rattle.engine.specs.Divide.{no_share, nothing, AllShares, Targets, Divided}

-- where an agent is present, 1 to 12 are
pub some_present : (s : Agents) (present : Set) (t p : ℕ) → ValidAgents s → t < s.n → present t ≡ true → p ≡ size s.n present → (1 ≤ p) × (p ≤ 12)
some_present s present t p valid l here number =
    let some = present_some s.n present t l (subst⁻¹ T here tt) in
    let most = size_le s.n present in
    let few = valid.few in
    (omega arith, omega arith)

-- the table so far: the shares below k, and nothing from there on
pub record Sharing (s : Agents) (present : Set) (k : ℕ) (r : List Shared) : Type 0 where
  pub is : AllShares s present k r
  pub rest : (t : ℕ) → k ≤ t → t < 12 → get_or r t no_share ≡ nothing

-- before the first agent nothing is written
pub sharing_none : (s : Agents) (present : Set) → Sharing s present 0 (replicate 12 nothing)
sharing_none s present = record {
  is = record { long = refl; at = λ t l _. absurd (omega arith); away = λ t l _. absurd (omega arith) };
  rest = λ t _ l. get_or-replicate {A = Shared} 12 t nothing no_share l;
}

module _ (s : Agents) (present : Set) (valid : ValidAgents s) (t : ℕ) (r : List Shared) (h : Sharing s present t r) (l : t < s.n) where
  -- an agent that is present has its share
  pub sharing_here : (p : ℕ) (v d : Valuation) (one : Shared) (next : List Shared) → present t ≡ true → p ≡ size s.n present → v ≡ get_or s.valuations t d → ShareOf s.m p v one → next ≡ set r t one
      → Sharing s present (t + 1) next
  sharing_here p v d one next here number e share is = rw is (record {
    is = record { long = length-set r t one ∙ h.is.long; at = λ k b x. at k b x (ℕ_discrete k t); away = λ k b x. away k b x (ℕ_discrete k t) };
    rest = λ k b c. get_or-set_other r t k one no_share (omega arith) ∙ h.rest k (omega arith) c;
  })
    where
      own : v ≡ get_or s.valuations t blank_valuation
      own = let few = valid.few in let long = valid.valuations_long in e ∙ get_or_default s.valuations t d blank_valuation (omega arith)

      at : (k : ℕ) → k < t + 1 → T (present k) → Dec (k ≡ t) → ShareOf s.m (size s.n present) (get_or s.valuations k blank_valuation) (get_or (set r t one) k no_share)
      at k b x (yes same) = let few = valid.few in let long = h.is.long in rw (same, get_or-set_same r t one no_share (omega arith), sym own, sym number) share
      at k b x (no other) = rw (get_or-set_other r t k one no_share other) (h.is.at k (omega arith) x)

      away : (k : ℕ) → k < t + 1 → T (not (present k)) → Dec (k ≡ t) → get_or (set r t one) k no_share ≡ nothing
      away k b x (yes same) = absurd (subst (λ (y : Bool). T (not y)) (ap present same ∙ here) x)
      away k b x (no other) = get_or-set_other r t k one no_share other ∙ h.is.away k (omega arith) x

  -- of one that is away nothing is written
  pub sharing_away : present t ≡ false → Sharing s present (t + 1) r
  sharing_away gone = record {
    is = record {
      long = h.is.long;
      at = λ k b x. elim (ℕ_discrete k t) [ yes same ↦ absurd (subst T (ap present same ∙ gone) x) | no other ↦ h.is.at k (omega arith) x ];
      away = λ k b x. elim (ℕ_discrete k t) [ yes same ↦ let few = valid.few in h.rest k (omega arith) (omega arith) | no other ↦ h.is.away k (omega arith) x ];
    };
    rest = λ k b c. h.rest k (omega arith) c;
  }

pub targets_none : (shares : List Shared) → Targets shares 0 (replicate 12 0)
targets_none shares = record { long = refl; at = λ t l. absurd (omega arith) }

pub targets_more : (shares : List Shared) (t : ℕ) (r next : List ℕ) → t < 12 → Targets shares t r → next ≡ set r t (get_or shares t no_share).share → Targets shares (t + 1) next
targets_more shares t r next l a is = rw is (record {
  long = length-set r t (get_or shares t no_share).share ∙ a.long;
  at = λ k b. elim (ℕ_discrete k t) [
    | yes same ↦ let long = a.long in rw same (get_or-set_same r t (get_or shares t no_share).share 0 (omega arith))
    | no other ↦ get_or-set_other r t k (get_or shares t no_share).share 0 other ∙ a.at k (omega arith)
  ];
})

-- shares can be targets, since every set bounds them
pub divide_levellable : (s : Agents) (present : Set) (h : Holding) (k : ℕ) (shares : List Shared) (targets : List ℕ) → Away s present → Full s h k × (h.shares ≡ targets) → AllShares s present s.n shares → Targets shares s.n targets
    → Levellable s h
divide_levellable s present h k shares targets away (f, measured) a t = record {
  bound = k;
  full = f;
  present = present;
  away = away;
  none = λ i l gone. ap (λ (row : List ℕ). get_or row i 0) measured ∙ t.at i l ∙ ap (λ (x : Shared). x.share) (a.away i l gone);
  allowed = λ i l here R.
      let e = ap (λ (row : List ℕ). get_or row i 0) measured ∙ t.at i l ∙ (a.at i l here).is in
      let times = ap (λ (x : ℕ). size s.n present * x) e in
      let bound = share_allowed (agent_matroid s i) (size s.n present) (present_some s.n present i l here) R in
      omega arith;
}

-- the levelled holding with the bound and the shares is the division
pub divides : (s : Agents) (present : Set) (start h : Holding) (k : ℕ) (shares : List Shared) (targets : List ℕ) → Full s start k × (start.shares ≡ targets) → AllShares s present s.n shares → Targets shares s.n targets → Levelled s start h
    → Divided s present (record { holding = h; bound = k; shares = shares })
divides s present start h k shares targets (f, measured) a t l = record {
  full = record { held = l.held; low = f.low; full = l.same ∙ f.full };
  shares = a;
  reached = λ i b. let e = ap (λ (row : List ℕ). get_or row i 0) measured ∙ t.at i b in let r = l.reached i b in omega arith;
}
