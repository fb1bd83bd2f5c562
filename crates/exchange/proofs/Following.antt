-- The loop of `moves_back`.
use Prim.Native.Nat.{ℕ, ◌+◌, ◌≤◌, ◌<◌}
use mathlib.Core.Path.{◌≡◌, refl, sym, ap, ◌∙◌}
use mathlib.Core.Logic.{inl, inr}
use mathlib.Core.List.{List}
use native.Mathlib.Omega.{arith}
use native.Mathlib.Decide.{ℕ_discrete}
use lib.ListN.{length, get_or, set, length-set}
use lib.Seq.{get_or-set_same, get_or-set_other}
use Rattle.holding.specs.declared.Move.{Move}
use Rattle.holding.specs.Chain.{no_move}
use Rattle.exchange.specs.declared.search.Trace.{Trace}
use Rattle.exchange.specs.Chains.{Followed}

-- the instrument of move j
abbrev item : List Move → ℕ → ℕ
item list j = (get_or list j no_move).item

-- the move of an instrument, by a trace
abbrev pub step_of : Trace → ℕ → Move
step_of trace g = record { item = g; to = get_or trace.to g 0 }

-- the moves before k are stored, and g is the parent of the last of them, or the end
pub record Following (trace : Trace) (end g k : ℕ) (list : List Move) : Type 0 where
  pub long : length list ≡ 64
  pub low : g < 64
  pub start : k ≡ 0 → g ≡ end
  pub first : 0 < k → item list 0 ≡ end
  pub step : (j : ℕ) → j < k → (get_or trace.parent (item list j) 0 < 64) × (j + 1 < k → item list (j + 1) ≡ get_or trace.parent (item list j) 0)
  pub next : (j : ℕ) → j + 1 ≡ k → g ≡ get_or trace.parent (item list j) 0
  pub goes : (j : ℕ) → j < k → (get_or list j no_move).to ≡ get_or trace.to (item list j) 0

pub following_start : (trace : Trace) (end : ℕ) (list : List Move) → end < 64 → length list ≡ 64 → Following trace end end 0 list
following_start trace end list l long = record {
  long = long;
  low = l;
  start = λ _. refl;
  first = λ p. absurd (omega arith);
  step = λ j p. absurd (omega arith);
  next = λ j e. absurd (omega arith);
  goes = λ j p. absurd (omega arith);
}

-- 64 moves are all that there are
pub following_full : (trace : Trace) (end g k : ℕ) (list : List Move) → Following trace end g k list → k ≡ 64 → Followed trace end (record { count = 64; list = list })
following_full trace end g k list f e = record {
  top = 63;
  few = omega arith;
  count = refl;
  start = f.first (omega arith);
  step = λ j l. ((f.step j (omega arith)).0, (f.step j (omega arith)).1 (omega arith));
  to = λ j l. f.goes j (omega arith);
  stop = inr refl;
}

module _ (trace : Trace) (end g k : ℕ) (list : List Move) (f : Following trace end g k list) (few : k < 64) where
  list' : List Move
  list' = set list k (step_of trace g)

  here : get_or list' k no_move ≡ step_of trace g
  unfolding list'
  here = let l = f.long in get_or-set_same list k (step_of trace g) no_move (omega arith)

  old : (j : ℕ) → j < k → get_or list' j no_move ≡ get_or list j no_move
  unfolding list'
  old j l = get_or-set_other list k j (step_of trace g) no_move (omega arith)

  here_item : item list' k ≡ g
  here_item = ap (λ (s : Move). s.item) here

  old_item : (j : ℕ) → j < k → item list' j ≡ item list j
  old_item j l = ap (λ (s : Move). s.item) (old j l)

  goes_here : (get_or list' k no_move).to ≡ get_or trace.to (item list' k) 0
  goes_here = ap (λ (s : Move). s.to) here ∙ ap (λ (x : ℕ). get_or trace.to x 0) (sym here_item)

  goes_old : (j : ℕ) → j < k → (get_or list' j no_move).to ≡ get_or trace.to (item list' j) 0
  goes_old j l = ap (λ (s : Move). s.to) (old j l) ∙ f.goes j l ∙ ap (λ (x : ℕ). get_or trace.to x 0) (sym (old_item j l))

  starts : item list' 0 ≡ end
  starts = elim (ℕ_discrete k 0) [
    | yes z ↦ ap (item list') (sym z) ∙ here_item ∙ f.start z
    | no d ↦ old_item 0 (omega arith) ∙ f.first (omega arith)
  ]

  -- each of the stored moves leads to the next
  steps : (j : ℕ) → j < k → (get_or trace.parent (item list' j) 0 < 64) × (item list' (j + 1) ≡ get_or trace.parent (item list' j) 0)
  steps j l = (
    rw (old_item j l) (f.step j l).0,
    elim (ℕ_discrete (j + 1) k) [
      | yes e ↦ ap (item list') e ∙ here_item ∙ f.next j e ∙ ap (λ (x : ℕ). get_or trace.parent x 0) (sym (old_item j l))
      | no d ↦ old_item (j + 1) (omega arith) ∙ (f.step j l).1 (omega arith) ∙ ap (λ (x : ℕ). get_or trace.parent x 0) (sym (old_item j l))
    ],
  )

  pub following_more : (p : ℕ) → p ≡ get_or trace.parent g 0 → p < 64 → Following trace end p (k + 1) (set list k (step_of trace g))
  unfolding list'
  following_more p is l = record {
    long = length-set list k (step_of trace g) ∙ f.long;
    low = l;
    start = λ e. absurd (omega arith);
    first = λ _. starts;
    step = λ j b. elim (ℕ_discrete j k) [
      | yes e ↦ (rw (e, here_item, sym is) l, λ c. absurd (omega arith))
      | no d ↦ ((steps j (omega arith)).0, λ _. (steps j (omega arith)).1)
    ];
    next = λ j e. let same : j ≡ k = omega arith in rw (same, here_item) is;
    goes = λ j b. elim (ℕ_discrete j k) [ yes e ↦ rw e goes_here | no d ↦ goes_old j (omega arith) ];
  }

  pub following_end : (p : ℕ) → p ≡ get_or trace.parent g 0 → 64 ≤ p → Followed trace end (record { count = k + 1; list = set list k (step_of trace g) })
  unfolding list'
  following_end p is stop = record {
    top = k;
    few = few;
    count = refl;
    start = starts;
    step = steps;
    to = λ j b. elim (ℕ_discrete j k) [ yes e ↦ rw e goes_here | no d ↦ goes_old j (omega arith) ];
    stop = inl (rw (here_item, sym is) stop);
  }
