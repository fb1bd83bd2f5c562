-- Walks that pass no joint twice: every walk comes down to one, and one instrument more closes it to a loop.
use Rattle.std.specs.Prelude.{ℕ, zero, suc, ◌+◌, ◌-◌, ◌<◌, ◌≡◌, refl, ◌≢◌, T}
use Rattle.std.proofs.Common.{sym, ap, ◌∙◌, inl, inr, arith, zero-add, suc-add, sub-add_cancel}
use Rattle.std.proofs.Math.Decide.{ℕ_discrete}
use Rattle.matroid.specs.Decide.{some?}
use Rattle.matroid.specs.Set.{Set}
use Rattle.loops.specs.Net.{Net, Different, Link, Walk, stay, step, ClosedLoop}
use Rattle.loops.specs.Links.{link_in, joins_same}

-- x, and after it the values of f
abbrev front : ℕ → (ℕ → ℕ) → ℕ → ℕ
front x f zero = x
front x f (suc i) = f i

-- a new value in front leaves all values different
front_different : (k x : ℕ) (f : ℕ → ℕ) → Different k f → ((i : ℕ) → i < k → f i ≡ x → ⊥) → Different (suc k) (front x f)
front_different k x f differ new zero zero l l' e = refl
front_different k x f differ new zero (suc j) l l' e = absurd (new j (omega arith) (sym e))
front_different k x f differ new (suc i) zero l l' e = absurd (new i (omega arith) e)
front_different k x f differ new (suc i) (suc j) l l' e = ap suc (differ i j (omega arith) (omega arith) e)

module _ (N : Net) where
  -- the links of a chain with one more in front
  front_links : (n : ℕ) (A : Set) (k g x : ℕ) (gauge joint : ℕ → ℕ) → Link N n A g x (joint 0)
      → ((i : ℕ) → i < k → Link N n A (gauge i) (joint i) (joint (suc i)))
      → (i : ℕ) → i < suc k → Link N n A (front g gauge i) (front x joint i) (front x joint (suc i))
  front_links n A k g x gauge joint first links zero l = first
  front_links n A k g x gauge joint first links (suc i) l = links i (omega arith)

  -- a walk along k instruments that passes no joint twice
  pub record Trail (n : ℕ) (A : Set) (a b : ℕ) : Type 0 where
    pub k : ℕ
    pub joint : ℕ → ℕ
    pub gauge : ℕ → ℕ
    pub differ : Different (suc k) joint
    pub links : (i : ℕ) → i < k → Link N n A (gauge i) (joint i) (joint (suc i))
    pub starts : joint 0 ≡ a
    pub ends : joint k ≡ b

  module _ (n : ℕ) (A : Set) where
    -- the trail of one joint
    rest : (a : ℕ) → Trail n A a a
    rest a = record { k = 0; joint = λ _. a; gauge = λ _. 0; differ = λ i j l l' e. omega arith; links = λ i l. absurd (omega arith); starts = refl; ends = refl }

    -- what is left of a trail from its joint d on
    from : {a b : ℕ} (t : Trail n A a b) (d : ℕ) → d < suc t.k → Trail n A (t.joint d) b
    from t d l = record {
      k = t.k - d;
      joint = λ i. t.joint (i + d);
      gauge = λ i. t.gauge (i + d);
      differ = λ i j li lj e. let e' = t.differ (i + d) (j + d) (omega arith) (omega arith) e in omega arith;
      links = λ i li. rw suc-add (t.links (i + d) (omega arith));
      starts = ap t.joint (zero-add d);
      ends = ap t.joint (sub-add_cancel (omega arith)) ∙ t.ends;
    }

    -- one instrument more, from a joint that the trail does not pass
    ahead : {a b c : ℕ} (g : ℕ) → Link N n A g a b → (t : Trail n A b c) → ((i : ℕ) → i < suc t.k → t.joint i ≡ a → ⊥) → Trail n A a c
    ahead {a} {b} {c} g link t new = record {
      k = suc t.k;
      joint = front a t.joint;
      gauge = front g t.gauge;
      differ = front_different (suc t.k) a t.joint t.differ new;
      links = front_links n A t.k g a t.gauge t.joint (rw t.starts link) t.links;
      starts = refl;
      ends = t.ends;
    }

    -- every walk comes down to a trail
    pub trail : {a b : ℕ} → Walk N n A a b → Trail n A a b
    trail {a} stay = rest a
    trail {a} (step g link w) =
        let t = trail w in
        elim (some? (λ i. t.joint i ≡ a) (λ i. ℕ_discrete (t.joint i) a) (suc t.k)) [
          | yes (i, l, e) ↦ rw e at (from t i l)
          | no never ↦ ahead g link t (λ i l e. never (i, l, e))
        ]

    -- the instruments of a trail are different
    gauges_differ : {a b : ℕ} (t : Trail n A a b) → Different t.k t.gauge
    gauges_differ t i j l l' e = elim (joins_same N (rw e at (t.links i l).joins) (t.links j l').joins) [
      | inl (same, _) ↦ t.differ i j (omega arith) (omega arith) same
      | inr (crossed, crossed') ↦
          let after = t.differ i (suc j) (omega arith) (omega arith) crossed in
          let before = t.differ (suc i) j (omega arith) (omega arith) crossed' in
          omega arith
    ]

  -- an instrument that joins the ends of a trail of others closes a loop
  pub close : (n m : ℕ) (A S : Set) (h : ℕ) → ((g : ℕ) → g < n → T (A g) → (g < m) × T (S g) × (g ≢ h))
      → {a b : ℕ} → Link N m S h b a → a ≢ b → Trail n A a b → ClosedLoop N m S
  close n m A S h others {a} {b} link apart t = record {
    k = suc t.k;
    long = let some : t.k ≢ 0 = λ e. apart (sym t.starts ∙ ap t.joint (sym e) ∙ t.ends) in omega arith;
    joint = front b t.joint;
    gauge = front h t.gauge;
    joints_differ = front_different t.k b t.joint
        (λ i j l l'. t.differ i j (omega arith) (omega arith))
        (λ i l e. let last = t.differ i t.k (omega arith) (omega arith) (e ∙ sym t.ends) in omega arith);
    gauges_differ = front_different t.k h t.gauge (gauges_differ n A t) (λ i l. (other i l).2);
    links = front_links m S t.k h b t.gauge t.joint (rw t.starts link)
        (λ i l. link_in N (t.links i l) ((other i l).0, (other i l).1));
    closed = t.ends;
  }
    where
      other : (i : ℕ) → i < t.k → (t.gauge i < m) × T (S (t.gauge i)) × (t.gauge i ≢ h)
      other i l = others (t.gauge i) (t.links i l).below (t.links i l).member
