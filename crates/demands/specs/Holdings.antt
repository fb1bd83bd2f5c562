-- Give, return and chain (document 01, "Worth and share"): who holds each instrument of a holding h, and of the one r that is handed back. And
-- what they do to sizes and shortfall (document 02, note 7): "Give, return and each chain are called only on a holding where both are right, and
-- leave both equal to a fresh count."
use Rattle.std.specs.Prelude.{ℕ, ◌+◌, ◌≤◌, ◌<◌, ◌≡◌, true, false, ◌≢◌, eqb, get_or}
use Rattle.matroid.specs.Set.{size}
use Rattle.holding.specs.declared.Holding.{Holding}
use Rattle.holding.specs.declared.Moves.{Moves}
use Rattle.holding.specs.Count.{Right}
use Rattle.holding.specs.Give.{holder_of, is_instrument, is_team, in_pool}
use Rattle.holding.specs.Chain.{item_at, team_of}

-- the holding is for the same instruments and teams, measured against the same shares, and both counts are right
pub record Alike (h r : Holding) : Type 0 where
  pub m : r.m ≡ h.m
  pub n : r.n ≡ h.n
  pub shares : r.shares ≡ h.shares
  pub right : Right r

-- the size and the share of team t, as a holding has them
abbrev pub size_of : Holding → ℕ → ℕ
size_of h t = get_or h.sizes t 0

abbrev pub share_of : Holding → ℕ → ℕ
share_of h t = get_or h.shares t 0

-- the size of team t is one more, no other changes, and the shortfall is one less where t was short
pub record Gains (h : Holding) (t : ℕ) (r : Holding) : Type 0 where
  pub one : size_of r t ≡ size_of h t + 1
  pub others : (u : ℕ) → is_team h u ≡ true → u ≢ t → size_of r u ≡ size_of h u
  pub short : size_of h t < share_of h t → h.shortfall ≡ r.shortfall + 1
  pub enough : share_of h t ≤ size_of h t → r.shortfall ≡ h.shortfall

-- the size of team t is one less, no other changes, and the shortfall is one more where t is short then
pub record Loses (h : Holding) (t : ℕ) (r : Holding) : Type 0 where
  pub one : size_of r t + 1 ≡ size_of h t
  pub others : (u : ℕ) → is_team h u ≡ true → u ≢ t → size_of r u ≡ size_of h u
  pub short : size_of h t ≤ share_of h t → r.shortfall ≡ h.shortfall + 1
  pub enough : share_of h t < size_of h t → r.shortfall ≡ h.shortfall

-- "Give (instrument, team) puts a pool instrument with a team"
pub record Gives (h : Holding) (g t : ℕ) (r : Holding) : Type 0 where
  pub alike : Alike h r
  pub put : is_instrument h g ≡ true → is_team h t ≡ true → in_pool h g ≡ true → holder_of r g ≡ t
  pub gains : is_instrument h g ≡ true → is_team h t ≡ true → in_pool h g ≡ true → Gains h t r
  pub others : (k : ℕ) → k ≢ g → holder_of r k ≡ holder_of h k
  -- "Where an instrument, a team or the instrument's present place does not fit this, the holding comes back unchanged."
  pub no_instrument : is_instrument h g ≡ false → r ≡ h
  pub no_team : is_team h t ≡ false → r ≡ h
  pub not_in_pool : in_pool h g ≡ false → r ≡ h

-- "return (instrument) puts a held one in the pool"
pub record Returns (h : Holding) (g : ℕ) (r : Holding) : Type 0 where
  pub alike : Alike h r
  pub put : is_instrument h g ≡ true → in_pool h g ≡ false → holder_of r g ≡ 255
  pub loses : is_instrument h g ≡ true → in_pool h g ≡ false → Loses h (holder_of h g) r
  pub others : (k : ℕ) → k ≢ g → holder_of r k ≡ holder_of h k
  pub no_instrument : is_instrument h g ≡ false → r ≡ h
  pub in_pool_lem : in_pool h g ≡ true → r ≡ h

-- the moves fit a holding: instruments, teams, "no instrument twice"
pub record Fits (h : Holding) (moves : Moves) : Type 0 where
  pub few : moves.count ≤ 64
  pub item : (k : ℕ) → k < moves.count → is_instrument h (item_at moves k) ≡ true
  pub team : (k : ℕ) → k < moves.count → is_team h (team_of moves k) ≡ true
  pub once : (j k : ℕ) → j < k → k < moves.count → item_at moves j ≢ item_at moves k

-- "chain carries out a list of moves, each an instrument and the team that gets it, no instrument twice"
pub record Chains (h : Holding) (moves : Moves) (r : Holding) : Type 0 where
  pub alike : Alike h r
  pub put : Fits h moves → (k : ℕ) → k < moves.count → holder_of r (item_at moves k) ≡ team_of moves k
  pub others : (x : ℕ) → ((k : ℕ) → k < moves.count → item_at moves k ≢ x) → holder_of r x ≡ holder_of h x
  -- what team t holds after it, and the moves of what it held, are what it held and the moves to it
  pub counts : Fits h moves → (t : ℕ) → is_team h t ≡ true → size_of r t + size moves.count (λ k. eqb (holder_of h (item_at moves k)) t) ≡ size_of h t + size moves.count (λ k. eqb (team_of moves k) t)
  -- the shortfall is one less where a short team has one more, a team above its share one fewer, and no other another size
  pub falls : (i j : ℕ) → is_team h i ≡ true → is_team h j ≡ true → ((t : ℕ) → is_team h t ≡ true → t ≢ i → t ≢ j → size_of r t ≡ size_of h t)
      → size_of r i ≡ size_of h i + 1 → size_of r j + 1 ≡ size_of h j → size_of h i < share_of h i → share_of h j < size_of h j → h.shortfall ≡ r.shortfall + 1
  pub refused : (Fits h moves → ⊥) → r ≡ h
