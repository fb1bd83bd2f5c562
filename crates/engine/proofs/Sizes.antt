-- Sizes and shortfall as the holding carries them, how many instruments the agents hold, and how a chain changes the sizes of the bundles.
use Prim.Native.Nat.{ℕ, zero, suc, ◌+◌, ◌≤◌, ◌<◌, min}
use mathlib.Core.Path.{◌≡◌, refl, sym, ap, ◌∙◌, fun_ext}
use mathlib.Core.Bool.{true, and-true}
use mathlib.Core.List.{List}
use native.Mathlib.Omega.{arith}
use native.Mathlib.Decide.{ℕ_discrete}
use lib.Dec.{eqb}
use lib.ListN.{get_or}
use borrow.Author.Tests.{lt-ltb}
use Rattle.matroid.specs.Set.{Set, ◌∩◌, one, size}
use Rattle.matroid.specs.SetLaws.{one_eq, one_ne}
use Rattle.matroid.specs.Sum.{sum}
use Rattle.matroid.specs.Division.{bundle, held}
use Rattle.matroid.specs.DivisionLaws.{sum_bundles}
use Rattle.matroid.proofs.Sets.{size_le}
use Rattle.matroid.proofs.Sums.{sum_add, sum_same}
use Rattle.matroid.specs.Shortfall.{shortfall}
use Rattle.matroid.proofs.Carrying.{carry_size}
use Rattle.matroid.proofs.Shortfalls.{shortfall_same}
use Rattle.holding.specs.declared.Holding.{Holding}
use Rattle.holding.specs.Count.{size_in}
use Rattle.holding.specs.Give.{is_team}
use Rattle.holding.proofs.Counting.{size_at_lem}
use Rattle.exchange.specs.declared.Agents.{Agents}
use Rattle.exchange.specs.Agents.{holder, Held}
use Rattle.exchange.proofs.Words.{team_agent}
use Rattle.engine.specs.Fill.{given}
use Rattle.exchange.proofs.Advance.{Advanced}

-- ---- what the holding carries

module _ (s : Agents) (h : Holding) (hd : Held s h) where
  -- an agent is a team
  agent_team : (t : ℕ) → t < s.n → is_team h t ≡ true
  agent_team t l = team_agent s h hd t ∙ lt-ltb t s.n l

  -- a fresh count of a bundle's size, by the agents' instruments
  count_size : (t : ℕ) → size_in h.m h.owner t ≡ size s.m (bundle (holder h.owner) t)
  unfolding size_in
  count_size t =
      let em = hd.m in
      let small = hd.small in
      let same : min h.m 64 ≡ s.m = omega arith in
      ap (λ (m : ℕ). size m (bundle (holder h.owner) t)) same

  -- the size of an agent's bundle
  pub held_size : (t : ℕ) → t < s.n → get_or h.sizes t 0 ≡ size s.m (bundle (holder h.owner) t)
  held_size t l = size_at_lem h hd.right t (agent_team t l) ∙ count_size t

  agents : min h.n 12 ≡ s.n
  agents = let en = hd.n in let few = hd.few in omega arith

  -- and the shortfall
  pub held_shortfall : h.shortfall ≡ shortfall s.n (λ t. get_or h.shares t 0) (λ t. size s.m (bundle (holder h.owner) t))
  held_shortfall =
      hd.right.shortfall
      ∙ shortfall_same (min h.n 12) (λ t. get_or h.shares t 0) (size_in h.m h.owner) (λ t. size s.m (bundle (holder h.owner) t)) (λ t _. count_size t)
      ∙ ap (λ (n : ℕ). shortfall n (λ t. get_or h.shares t 0) (λ t. size s.m (bundle (holder h.owner) t))) agents

  -- the sum of the sizes is what the agents hold
  pub held_total : (r : ℕ) → r ≡ sum (min h.n 12) (size_in h.m h.owner) → r ≡ given s h.owner
  unfolding given
  held_total r is =
      is ∙ sum_same (min h.n 12) (size_in h.m h.owner) (λ t. size s.m (bundle (holder h.owner) t)) (λ t _. count_size t)
      ∙ ap (λ (n : ℕ). sum n (λ t. size s.m (bundle (holder h.owner) t))) agents

-- ---- how many are given

-- among the numbers below n, i is one, and none where it is not below n
sum_out : (n i : ℕ) → n ≤ i → sum n (λ t. one (eqb i t)) ≡ 0
sum_out zero i l = refl
sum_out (suc n) i l = let below = sum_out n i (omega arith) in let here = one_ne i n (omega arith) in omega arith

sum_in : (n i : ℕ) → i < n → sum n (λ t. one (eqb i t)) ≡ 1
sum_in zero i l = absurd (omega arith)
sum_in (suc n) i l = go (λ (b : i < n). sum_in n i b) (ℕ_discrete i n)
  where
    go : (i < n → sum n (λ t. one (eqb i t)) ≡ 1) → Dec (i ≡ n) → sum n (λ t. one (eqb i t)) + one (eqb i n) ≡ 1
    go rest (yes e) = let below = sum_out n i (omega arith) in let here = one_eq i n e in omega arith
    go rest (no d) = let below = rest (omega arith) in let here = one_ne i n d in omega arith

-- what the agents hold, counted by the instruments
pub given_held : (s : Agents) (owner : List ℕ) → given s owner ≡ size s.m (held s.n (holder owner))
unfolding given
given_held s owner =
    sym (ap (sum s.n) (fun_ext (λ t. all (bundle (holder owner) t)))) ∙ sum_bundles s.m s.n (holder owner) (λ g. true) ∙ all (held s.n (holder owner))
  where
    all : (A : Set) → size s.m (A ∩ (λ g. true)) ≡ size s.m A
    all A = ap (size s.m) (fun_ext (λ g. and-true (A g)))

-- the agents hold at most all instruments
pub given_le : (s : Agents) (owner : List ℕ) → given s owner ≤ s.m
given_le s owner = rw (given_held s owner) (size_le s.m (held s.n (holder owner)))

module _ (s : Agents) (h after : Holding) (sources end : ℕ) (a : Advanced s h sources end after) where
  abbrev D : ℕ → ℕ
  D = holder h.owner

  -- the source agent has one more, and who held the end has one fewer
  pub size_after : (t : ℕ) → size s.m (bundle (holder after.owner) t) + one (eqb (D end) t) ≡ size s.m (bundle D t) + one (eqb a.agent t)
  size_after t =
      let c = carry_size s.m D a.agent a.first a.rest t a.below a.distinct in
      let e = ap (λ (x : ℕ). one (eqb (D x) t)) a.ends in
      let f = ap (λ (E : ℕ → ℕ). size s.m (bundle E t)) a.moved in
      omega arith

  given_sum : given s after.owner + sum s.n (λ t. one (eqb (D end) t)) ≡ given s h.owner + sum s.n (λ t. one (eqb a.agent t))
  unfolding given
  given_sum =
      sym (sum_add s.n (λ t. size s.m (bundle (holder after.owner) t)) (λ t. one (eqb (D end) t)))
      ∙ sum_same s.n (λ t. size s.m (bundle (holder after.owner) t) + one (eqb (D end) t)) (λ t. size s.m (bundle D t) + one (eqb a.agent t)) (λ t _. size_after t)
      ∙ sum_add s.n (λ t. size s.m (bundle D t)) (λ t. one (eqb a.agent t))

  -- a chain to the pool gives one more
  pub given_more : s.n ≤ D end → given s after.owner ≡ given s h.owner + 1
  given_more l = let g = given_sum in let i = sum_in s.n a.agent a.is_agent in let o = sum_out s.n (D end) l in omega arith

  -- a chain to an agent leaves as many given
  pub given_same : D end < s.n → given s after.owner ≡ given s h.owner
  given_same l = let g = given_sum in let i = sum_in s.n a.agent a.is_agent in let o = sum_in s.n (D end) l in omega arith
