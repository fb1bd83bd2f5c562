-- One changed owner moves sizes and shortfall: a give, a return, and a move of a chain, which is a return and a give.
use Prim.Native.Nat.{ℕ, ◌+◌, ◌-◌, ◌≤◌, ◌<◌, min}
use mathlib.Core.Path.{◌≡◌, refl, sym, ap, ap₂, ◌∙◌, fun_ext}
use mathlib.Core.Bool.{Bool, true, false, cond, and-false}
use mathlib.Core.List.{List}
use native.Mathlib.Omega.{arith}
use native.Mathlib.Decide.{ℕ_discrete, dec_lt}
use lib.Dec.{eqb, ltb}
use lib.ListN.{length, get_or, set, replicate, length-set, get_or-replicate}
use lib.Seq.{get_or-set_same, get_or-set_other, set-set}
use mir.Syntax.{w8}
use mir.Val.{Fits}
use borrow.Author.Tests.{lt-ltb, le-ltb}
use Rattle.matroid.specs.Set.{one}
use Rattle.matroid.specs.Sum.{sum}
use Rattle.matroid.specs.Division.{move}
use Rattle.matroid.specs.DivisionLaws.{move_here, move_away}
use Rattle.matroid.specs.Shortfall.{sizes, shortfall}
use Rattle.matroid.proofs.Sets.{size_le}
use Rattle.matroid.proofs.Sums.{sum_same}
use Rattle.matroid.proofs.Change.{OnlyAt}
use Rattle.matroid.proofs.Shortfalls.{shortfall_none, shortfall_same, shortfall_most, give_gains, give_keeps, return_loses, return_keeps, sizes_start}
use Rattle.holding.specs.declared.Holding.{Holding}
use Rattle.holding.specs.Count.{size_in, sizes_in, shortfall_in, counted, Right}
use Rattle.holding.specs.Give.{holder_of, is_instrument, is_team, with_owner}
use Rattle.holding.specs.Tally.{size_at, share_at, tally_of, next_by, raised_at, lowered_at, passed_on}
use Rattle.holding.proofs.Tests.{instrument_below, instrument_m, team_below, team_n}
use Rattle.holding.proofs.Tables.{table_at, table_is, raise_sizes, raise_short, lower_sizes, lower_short}

-- a holding whose counts are right is its own fresh count
pub right_counted : (h : Holding) → Right h → h ≡ with_owner h h.owner
right_counted h r = ap₂ (λ (sizes : List ℕ) (short : ℕ). record { m = h.m; n = h.n; owner = h.owner; shares = h.shares; sizes = sizes; shortfall = short }) r.sizes r.shortfall

-- and a fresh count is right
pub counted_right : (m n : ℕ) (owner shares : List ℕ) → Right (counted m n owner shares)
counted_right m n owner shares = record { sizes = refl; shortfall = refl }

-- nobody holds anything where all owners are 255
pub empty_sizes : (m n : ℕ) → ◌≡◌ {A = List ℕ} (replicate 12 0) (sizes_in m n (replicate 64 255))
unfolding size_in
empty_sizes m n = table_is n (size_in m (replicate 64 255)) (replicate 12 0) refl (λ t l b. get_or-replicate {A = ℕ} 12 t 0 0 b ∙ sym (sizes_start (min m 64) 12 (λ g. get_or (replicate 64 255) g 255) (λ g l. let all = get_or-replicate {A = ℕ} 64 g 255 255 (omega arith) in omega arith) t b)) (λ t l b. get_or-replicate {A = ℕ} 12 t 0 0 b)

-- another owner for g is a move of g
set_moves : (owner : List ℕ) (g x : ℕ) → g < length owner → (λ (k : ℕ). get_or (set owner g x) k 255) ≡ move (λ k. get_or owner k 255) g x
set_moves owner g x l = fun_ext (λ k. go k (ℕ_discrete k g))
  where
    go : (k : ℕ) → Dec (k ≡ g) → get_or (set owner g x) k 255 ≡ move (λ k. get_or owner k 255) g x k
    go k (yes e) = rw e (get_or-set_same owner g x 255 l ∙ sym (move_here (λ k. get_or owner k 255) g x g refl))
    go k (no d) = get_or-set_other owner g k x 255 d ∙ sym (move_away (λ k. get_or owner k 255) g x k d)

-- so the sizes are those of the move
pub moved_size : (m : ℕ) (owner : List ℕ) (g x t : ℕ) → g < length owner → size_in m (set owner g x) t ≡ sizes (min m 64) (move (λ k. get_or owner k 255) g x) t
unfolding size_in
moved_size m owner g x t l = ap (λ (D : ℕ → ℕ). sizes (min m 64) D t) (set_moves owner g x l)

-- what no team holds is with no number below n and 12
pool_high : (h : Holding) (x : ℕ) → is_team h x ≡ false → min h.n 12 ≤ x
unfolding is_team
pool_high h x e = elim (dec_lt x (min h.n 12)) [
  | no d ↦ omega arith
  | yes l ↦ let both : true ≡ false = sym (rw (lt-ltb x h.n (omega arith), lt-ltb x 12 (omega arith)) refl) ∙ e in let z : ◌≡◌ {A = ℕ} 0 1 = cc in absurd (omega arith)
]

-- ---- a holding whose counts are right

module _ (h : Holding) (right : Right h) where
  abbrev f : ℕ → ℕ
  f = size_in h.m h.owner

  -- the size of a team's bundle
  pub size_at_lem : (t : ℕ) → is_team h t ≡ true → size_at (tally_of h) t ≡ f t
  size_at_lem t team = ap (λ (row : List ℕ). get_or row t 0) right.sizes ∙ table_at h.n f t (team_n h t team) (team_below h t team)

  -- is at most 64
  pub size_small : (t : ℕ) → is_team h t ≡ true → size_at (tally_of h) t ≤ 64
  unfolding size_in
  size_small t team = let is = size_at_lem t team in let most = size_le (min h.m 64) (λ g. eqb (get_or h.owner g 255) t) in omega arith

  -- where a team is short there is a shortfall
  short_some : (t : ℕ) → is_team h t ≡ true → size_at (tally_of h) t < share_at (tally_of h) t → 0 < h.shortfall
  short_some t team less = elim (dec_lt 0 h.shortfall) [
    | yes l ↦ l
    | no d ↦
        let none : shortfall_in h.m h.n h.owner h.shares ≡ 0 = sym right.shortfall ∙ omega arith in
        let met = (shortfall_none (min h.n 12) (λ t. get_or h.shares t 0) f).0 none t (let a = team_n h t team in let b = team_below h t team in omega arith) in
        let is = size_at_lem t team in
        absurd (omega arith)
  ]

  -- the shares are bytes, so the shortfall is small
  shortfall_small : ((t : ℕ) → Fits w8 (share_at (tally_of h) t)) → h.shortfall ≤ 3060
  shortfall_small bytes =
      let most = shortfall_most (min h.n 12) (λ t. get_or h.shares t 0) f 255 (λ t l. omega (arith, (bytes t).fits)) in
      let is = right.shortfall in
      omega arith

-- ---- one changed owner

module _ (h : Holding) (right : Right h) (long : length h.owner ≡ 64) (g : ℕ) (instrument : is_instrument h g ≡ true) where
  abbrev D : ℕ → ℕ
  D k = get_or h.owner k 255

  abbrev M : ℕ
  M = min h.m 64

  abbrev N : ℕ
  N = min h.n 12

  low : g < M
  low = let a = instrument_m h g instrument in let b = instrument_below h g instrument in omega arith

  inside : g < length h.owner
  inside = let b = instrument_below h g instrument in omega arith

  -- other sizes are those of the move
  keeps : (y t : ℕ) → OnlyAt N (sizes M D) (sizes M (move D g y)) t → OnlyAt N (size_in h.m h.owner) (size_in h.m (set h.owner g y)) t
  unfolding size_in
  keeps y t only u l d = only u l d ∙ sym (moved_size h.m h.owner g y u inside)

  -- Give: g, which no team holds, goes to team t.
  module _ (t : ℕ) (team : is_team h t ≡ true) (loose : is_team h (holder_of h g) ≡ false) where
    in_range : t < N
    in_range = let a = team_n h t team in let b = team_below h t team in omega arith

    high : N ≤ D g
    unfolding holder_of
    high = pool_high h (holder_of h g) loose

    pub give_size : size_in h.m (set h.owner g t) t ≡ size_in h.m h.owner t + 1
    unfolding size_in
    give_size = moved_size h.m h.owner g t t inside ∙ give_gains M N D g t low in_range high

    pub give_others : OnlyAt N (size_in h.m h.owner) (size_in h.m (set h.owner g t)) t
    give_others = keeps t t (give_keeps M N D g t low in_range high)

    pub give_counted : next_by h (set h.owner g t) (raised_at (tally_of h) t) ≡ with_owner h (set h.owner g t)
    unfolding raised_at
    give_counted = ap₂ (λ (row : List ℕ) (short : ℕ). record { m = h.m; n = h.n; owner = set h.owner g t; shares = h.shares; sizes = row; shortfall = short })
        (ap (λ (row : List ℕ). set row t (get_or row t 0 + 1)) right.sizes ∙ raise_sizes h.n (λ u. get_or h.shares u 0) (size_in h.m h.owner) (size_in h.m (set h.owner g t)) t (team_n h t team) (team_below h t team) give_others give_size)
        (ap₂ (λ (row : List ℕ) (short : ℕ). short - one (ltb (get_or row t 0) (share_at (tally_of h) t))) right.sizes right.shortfall
        ∙ raise_short h.n (λ u. get_or h.shares u 0) (size_in h.m h.owner) (size_in h.m (set h.owner g t)) t (team_n h t team) (team_below h t team) give_others give_size)

  -- Return: g goes from the team j that holds it to the pool.
  module _ (j : ℕ) (team : is_team h j ≡ true) (holds : holder_of h g ≡ j) where
    in_range_j : j < N
    in_range_j = let a = team_n h j team in let b = team_below h j team in omega arith

    held : D g ≡ j
    unfolding holder_of
    held = holds

    pub return_size : size_in h.m (set h.owner g 255) j + 1 ≡ size_in h.m h.owner j
    unfolding size_in
    return_size = let is = moved_size h.m h.owner g 255 j inside in let less = return_loses M N D g j 255 low in_range_j held (omega arith) in omega arith

    pub return_others : OnlyAt N (size_in h.m h.owner) (size_in h.m (set h.owner g 255)) j
    return_others = keeps 255 j (return_keeps M N D g j 255 low in_range_j held (omega arith))

    -- who holds something has a size above 0
    pub holder_some : 0 < size_at (tally_of h) j
    holder_some = let is = size_at_lem h right j team in let less = return_size in omega arith

    pub return_counted : next_by h (set h.owner g 255) (lowered_at (tally_of h) j) ≡ with_owner h (set h.owner g 255)
    unfolding lowered_at
    return_counted = ap₂ (λ (row : List ℕ) (short : ℕ). record { m = h.m; n = h.n; owner = set h.owner g 255; shares = h.shares; sizes = row; shortfall = short })
        (ap (λ (row : List ℕ). set row j (get_or row j 0 - 1)) right.sizes ∙ lower_sizes h.n (λ u. get_or h.shares u 0) (size_in h.m h.owner) (size_in h.m (set h.owner g 255)) j (team_n h j team) (team_below h j team) return_others return_size)
        (ap₂ (λ (row : List ℕ) (short : ℕ). short + one (ltb (get_or row j 0 - 1) (share_at (tally_of h) j))) right.sizes right.shortfall
        ∙ lower_short h.n (λ u. get_or h.shares u 0) (size_in h.m h.owner) (size_in h.m (set h.owner g 255)) j (team_n h j team) (team_below h j team) return_others return_size)

-- in the pool there is no team
no_team_255 : (h : Holding) → is_team h 255 ≡ false
unfolding is_team
no_team_255 h = and-false (ltb 255 h.n)

-- the teams are the numbers below n and 12
team_test : (h : Holding) (x : ℕ) → ltb x (min h.n 12) ≡ is_team h x
unfolding is_team
team_test h x = elim (dec_lt x h.n) [
  | yes a ↦ rw (lt-ltb x h.n a) (elim (dec_lt x 12) [
    | yes b ↦ lt-ltb x (min h.n 12) (omega arith) ∙ sym (lt-ltb x 12 b)
    | no b ↦ le-ltb x (min h.n 12) (omega arith) ∙ sym (le-ltb x 12 (omega arith))
  ])
  | no a ↦ rw (le-ltb x h.n (omega arith)) (le-ltb x (min h.n 12) (omega arith))
]

-- A move of a chain: g goes from where it is, which is not team t, to team t.
pub pass_counted : (h : Holding) → Right h → length h.owner ≡ 64 → (g : ℕ) → is_instrument h g ≡ true → (t : ℕ) → is_team h t ≡ true
    → next_by h (set h.owner g t) (passed_on (tally_of h) (min h.n 12) (holder_of h g) t) ≡ with_owner h (set h.owner g t)
unfolding passed_on raised_at lowered_at is_instrument is_team holder_of
pass_counted h right long g instrument t team = rw (team_test h (holder_of h g)) (go (is_team h (holder_of h g)) refl)
  where
    -- the holding with g in the pool
    mid : Holding
    mid = with_owner h (set h.owner g 255)

    go : (b : Bool) → is_team h (holder_of h g) ≡ b → next_by h (set h.owner g t) (raised_at (cond b (lowered_at (tally_of h) (holder_of h g)) (tally_of h)) t) ≡ with_owner h (set h.owner g t)
    go false loose = give_counted h right long g instrument t team loose
    go true from =
        let wide = length-set h.owner g 255 ∙ long in
        let b = instrument_below h g instrument in
        let pooled : is_team mid (holder_of mid g) ≡ false = ap (is_team h) (get_or-set_same h.owner g 255 255 (omega arith)) ∙ no_team_255 h in
        rw (set-set h.owner g 255 t) at (ap (λ (x : Holding). next_by x (set (set h.owner g 255) g t) (raised_at (tally_of x) t)) (return_counted h right long g instrument (holder_of h g) from refl)
        ∙ give_counted mid (counted_right h.m h.n (set h.owner g 255) h.shares) wide g instrument t team pooled)

-- ---- what the functions ask of the counts

module _ (h : Holding) (right : Right h) where
  -- one fewer
  pub lower_ready : (j : ℕ) → is_team h j ≡ true → 0 < size_at (tally_of h) j → ((t : ℕ) → Fits w8 (get_or h.shares t 0)) → (j < 12) × (0 < size_at (tally_of h) j) × (h.shortfall ≤ 3060)
  lower_ready j team some bytes = (team_below h j team, some, shortfall_small h right bytes)

  -- one more
  pub raise_ready : (t : ℕ) → is_team h t ≡ true → (t < 12) × (size_at (tally_of h) t < 255) × (size_at (tally_of h) t < share_at (tally_of h) t → 0 < h.shortfall)
  raise_ready t team = let small = size_small h right t team in (team_below h t team, omega arith, short_some h right t team)

  -- a team below both bounds that an instrument comes from holds something
  pub holder_below : length h.owner ≡ 64 → (g : ℕ) → is_instrument h g ≡ true → holder_of h g < min h.n 12 → 0 < size_at (tally_of h) (holder_of h g)
  holder_below long g instrument l = holder_some h right long g instrument (holder_of h g) (sym (team_test h (holder_of h g)) ∙ lt-ltb (holder_of h g) (min h.n 12) l) refl

-- the sum of the sizes is what the teams hold
pub total_is : (h : Holding) → Right h → (k : ℕ) → k ≡ min h.n 12 → sum k (λ t. get_or h.sizes t 0) ≡ sum (min h.n 12) (size_in h.m h.owner)
unfolding is_team
total_is h right k e = ap (λ (k : ℕ). sum k (λ t. get_or h.sizes t 0)) e ∙ sum_same (min h.n 12) (λ t. get_or h.sizes t 0) (size_in h.m h.owner) (λ t l. size_at_lem h right t (rw (lt-ltb t h.n (omega arith), lt-ltb t 12 (omega arith)) refl))

-- sizes that are right make the shortfall by them right
pub of_counted : (m n : ℕ) (owner shares row : List ℕ) (short : ℕ) → row ≡ sizes_in m n owner → short ≡ shortfall (min n 12) (λ t. get_or shares t 0) (λ t. get_or row t 0)
    → record { m = m; n = n; owner = owner; shares = shares; sizes = row; shortfall = short } ≡ counted m n owner shares
of_counted m n owner shares row short is by = ap₂ (λ (row : List ℕ) (short : ℕ). record { m = m; n = n; owner = owner; shares = shares; sizes = row; shortfall = short }) is
    (by ∙ shortfall_same (min n 12) (λ t. get_or shares t 0) (λ t. get_or row t 0) (size_in m owner) (λ t l. ap (λ (x : List ℕ). get_or x t 0) is ∙ table_at n (size_in m owner) t (omega arith) (omega arith)))
