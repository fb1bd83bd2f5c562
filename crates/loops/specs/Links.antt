-- Laws of links, walks and loops.
use Rattle.std.specs.Prelude.{ℕ, ◌<◌, ◌≡◌, refl, not, ◌⊎◌, ◌↔◌, ◌≢◌, T, eqb, ltb}
use Rattle.std.proofs.Common.{inl, inr, ltb→lt, lt→ltb}
use Rattle.std.proofs.Math.Logic.{Equivalence}
use Rattle.matroid.specs.Taut.{and_three}
use Rattle.matroid.specs.Set.{Set}
use Rattle.matroid.specs.SetLaws.{ne→eqb, eqb→ne}
use Rattle.team.specs.Team.{joints}
use Rattle.loops.specs.Net.{Net, spans, Joins, forth, back, Link, ClosedLoop, Walk, stay, step}

pub spans_iff : (N : Net) (g : ℕ) → T (spans N g) ↔ ((N.end_a g < joints) × (N.end_b g < joints) × (N.end_a g ≢ N.end_b g))
unfolding spans
spans_iff N g =
    let tests = and_three (ltb (N.end_a g) joints) (ltb (N.end_b g) joints) (not (eqb (N.end_a g) (N.end_b g))) in (
      λ t. let (a, b, d) = tests.0 t in (ltb→lt _ _ a, ltb→lt _ _ b, eqb→ne _ _ d),
      λ (a, b, d). tests.1 (lt→ltb _ _ a, lt→ltb _ _ b, ne→eqb _ _ d),
    )

module _ (N : Net) where
  open N use {end_a, end_b}

  -- what joins has a span
  pub joins_spans : {g a b : ℕ} → Joins N g a b → T (spans N g)
  joins_spans (forth s) = s
  joins_spans (back s) = s

  -- what an instrument joins is its two joints
  pub joins_same : {g a b c d : ℕ} → Joins N g a b → Joins N g c d → ((a ≡ c) × (b ≡ d)) ⊎ ((a ≡ d) × (b ≡ c))
  joins_same (forth s) (forth t) = inl (refl, refl)
  joins_same (forth s) (back t) = inr (refl, refl)
  joins_same (back s) (forth t) = inr (refl, refl)
  joins_same (back s) (back t) = inl (refl, refl)

  -- an equivalence that relates an instrument's joints relates what it joins
  pub joins_relate : (P : ℕ → ℕ → Type 0) → Equivalence P → {g a b : ℕ} → P (end_a g) (end_b g) → Joins N g a b → P a b
  joins_relate P eq {g} p (forth s) = p
  joins_relate P eq {g} p (back s) = eq.symm (end_a g) (end_b g) p

  -- and the other way round
  pub joins_unrelate : (P : ℕ → ℕ → Type 0) → Equivalence P → {g a b : ℕ} → P a b → Joins N g a b → P (end_a g) (end_b g)
  joins_unrelate P eq {g} p (forth s) = p
  joins_unrelate P eq {g} p (back s) = eq.symm (end_b g) (end_a g) p

  -- a link, gone the other way
  pub link_sym : {n : ℕ} {A : Set} {g a b : ℕ} → Link N n A g a b → Link N n A g b a
  link_sym {n} {A} {g} {a} {b} link = record { below = link.below; member = link.member; joins = turn link.joins }
    where
      turn : {a b : ℕ} → Joins N g a b → Joins N g b a
      turn (forth s) = back s
      turn (back s) = forth s

  -- a link of S whose instrument is in A too
  pub link_in : {n m : ℕ} {A S : Set} {g a b : ℕ} → Link N m S g a b → (g < n) × T (A g) → Link N n A g a b
  link_in link (below, member) = record { below = below; member = member; joins = link.joins }

  -- a walk of A whose every instrument is in B too
  pub walk_in : {n m : ℕ} {A B : Set} → ((g : ℕ) → T (spans N g) → (g < n) × T (A g) → (g < m) × T (B g)) → {x y : ℕ} → Walk N n A x y → Walk N m B x y
  walk_in into stay = stay
  walk_in into (step g l w) = step g (link_in l (into g (joins_spans l.joins) (l.below, l.member))) (walk_in into w)

  -- a loop of S whose every instrument is in A too
  pub loop_in : {n m : ℕ} {A S : Set} (c : ClosedLoop N m S) → ((i : ℕ) → i < c.k → (c.gauge i < n) × T (A (c.gauge i))) → ClosedLoop N n A
  loop_in c into = record {
    k = c.k;
    long = c.long;
    joint = c.joint;
    gauge = c.gauge;
    joints_differ = c.joints_differ;
    gauges_differ = c.gauges_differ;
    links = λ i l. link_in (c.links i l) (into i l);
    closed = c.closed;
  }

  module _ (n : ℕ) (A : Set) where
    -- one walk after another, and a walk back
    walk_trans : {a b c : ℕ} → Walk N n A a b → Walk N n A b c → Walk N n A a c
    walk_trans stay v = v
    walk_trans (step g l w) v = step g l (walk_trans w v)

    walk_sym : {a b : ℕ} → Walk N n A a b → Walk N n A b a
    walk_sym stay = stay
    walk_sym (step g l w) = walk_trans (walk_sym w) (step g (link_sym l) stay)

    -- that walks lead from one joint to another is an equivalence
    pub walk_equivalence : Equivalence (Walk N n A)
    walk_equivalence = record { refl = λ x. stay; symm = λ x y w. walk_sym w; trans = λ x y z w v. walk_trans w v }
