-- Accepted gauges: they close no loop, and once no gauge of a set joins two groups they are as many as the set is worth.
use Rattle.std.specs.Prelude.{ℕ, ◌<◌, ◌≡◌, not, List, ◌↔◌, T}
use Rattle.std.proofs.Common.{ap}
use Rattle.std.proofs.Math.Logic.Iff
use Rattle.std.proofs.Math.Dec.{not_T}
use Rattle.matroid.specs.Set.{Set, Within, with, size}
use Rattle.matroid.specs.Matroid.{worth}
use Rattle.matroid.proofs.Rank.{maximal_is_worth}
use Rattle.loops.specs.Net.{Net, LoopFree}
use Rattle.loops.specs.Links.{spans_iff}
use Rattle.loops.specs.Groups.{apart, apart_iff, on, carried, Accepted, start, accept, row_together, groups_lead}
use Rattle.loops.specs.Labels.{Bridges, together_walk}
use Rattle.loops.specs.Graphic.{loop_free_none, loop_free_with, graphic}

module _ (N : Net) (m : ℕ) where
  open N use {end_a, end_b}

  -- a gauge has its joints in different groups of accepted gauges exactly when it bridges two groups of their set
  apart_bridges : (row : List ℕ) → Accepted N m row → (h : ℕ) → T (apart (carried N row) (end_a h) (end_b h)) ↔ Bridges N (on row) m h
  apart_bridges row accepted h =
      let a = end_a h in
      let b = end_b h in
      let lead = groups_lead N m row accepted a b in
      let walk = together_walk N (on row) m a b in
      let tests = apart_iff (carried N row) a b in (
        λ t.
            let (la, lb, differ) = tests.0 t in
            ((spans_iff N h).1 (la, lb, λ e. differ (ap (carried N row) e)), λ e. differ (lead.1 (walk.0 e))),
        λ (s, differ).
            let (la, lb, _) = (spans_iff N h).0 s in
            tests.1 (la, lb, λ e. differ (walk.1 (lead.0 e))),
      )

  -- accepted gauges close no loop
  pub accepted_free : (row : List ℕ) → Accepted N m row → LoopFree N m (on row)
  accepted_free _ start = loop_free_none N m
  accepted_free _ (accept {row} g before l s new) =
      let fresh = not_T (on row g) (λ t. new (row_together N row g t)) in
      let lead = groups_lead N m row before (end_a g) (end_b g) in
      let walk = together_walk N (on row) m (end_a g) (end_b g) in
      (loop_free_with N m (on row) g (accepted_free row before) l fresh).1 (s, λ e. new (lead.1 (walk.0 e)))

  -- and one more closes none exactly when its joints are in different groups
  pub accepted_joins : (row : List ℕ) → Accepted N m row → (h : ℕ) → h < m → T (not (on row h)) → T (apart (carried N row) (end_a h) (end_b h)) ↔ LoopFree N m (with (on row) h)
  accepted_joins row accepted h l out = Iff.trans (apart_bridges row accepted h) (Iff.symm (loop_free_with N m (on row) h (accepted_free row accepted) l out))

  -- Whichever gauges of a set were accepted, and in whichever order: once none of it joins two groups, they are as many as it is worth.
  pub accepted_worth : (row : List ℕ) → Accepted N m row → (S : Set) → Within m (on row) S
      → ((g : ℕ) → g < m → T (S g) → T (apart (carried N row) (end_a g) (end_b g)) → ⊥) → size m (on row) ≡ worth (graphic N m) S
  unfolding graphic
  accepted_worth row accepted S within none_Apart = maximal_is_worth (graphic N m) (record {
    within = within;
    indep = accepted_free row accepted;
    stuck = λ g l t out more. none_Apart g l t ((accepted_joins row accepted g l out).1 more);
  })
