-- What a chain of moves that fit comes to.
use Prim.Native.Nat.{ℕ, zero, suc, ◌≤◌, ◌<◌}
use mathlib.Core.Path.{◌≡◌, refl, sym, ◌∙◌}
use mathlib.Core.Bool.{Bool, true, false, cond}
use mathlib.Core.List.{List}
use mathlib.Core.Logic.{◌≢◌}
use native.Mathlib.Omega.{arith}
use native.Mathlib.Decide.{ℕ_discrete}
use lib.ListN.{length, get_or, set}
use lib.Seq.{get_or-set_same, get_or-set_other}
use borrow.Author.Tests.{lt-ltb, le-leb, ne_eqb}
use Rattle.holding.specs.declared.Holding.{Holding}
use Rattle.holding.specs.declared.Moves.{Moves}
use Rattle.holding.specs.Give.{holder_of, is_instrument, is_team, with_owner}
use Rattle.holding.specs.Chain.{item_at, team_of, may_move, earlier, first_fit, moves_fit, moved, carried_out, chained}
use Rattle.holding.proofs.Carried.{moved_long}

-- A chain leaves m, n, the shares and the length of the list of owners.
pub chain_m : (h : Holding) (moves : Moves) → (chained h moves).m ≡ h.m
unfolding chained
chain_m h moves = go (moves_fit h moves)
  where
    go : (b : Bool) → (cond b (carried_out h moves) h).m ≡ h.m
    go true = refl
    go false = refl

pub chain_n : (h : Holding) (moves : Moves) → (chained h moves).n ≡ h.n
unfolding chained
chain_n h moves = go (moves_fit h moves)
  where
    go : (b : Bool) → (cond b (carried_out h moves) h).n ≡ h.n
    go true = refl
    go false = refl

pub chain_shares : (h : Holding) (moves : Moves) → (chained h moves).shares ≡ h.shares
unfolding chained
chain_shares h moves = go (moves_fit h moves)
  where
    go : (b : Bool) → (cond b (carried_out h moves) h).shares ≡ h.shares
    go true = refl
    go false = refl

pub chain_long : (h : Holding) (moves : Moves) → length (chained h moves).owner ≡ length h.owner
unfolding chained
chain_long h moves = go (moves_fit h moves)
  where
    go : (b : Bool) → length (cond b (carried_out h moves) h).owner ≡ length h.owner
    go true = moved_long h.owner moves moves.count
    go false = refl

-- the moves fit a holding: instruments, teams, and no instrument twice
pub record Fit (h : Holding) (moves : Moves) : Type 0 where
  pub few : moves.count ≤ 64
  pub item : (k : ℕ) → k < moves.count → item_at moves k < h.m
  pub team : (k : ℕ) → k < moves.count → team_of moves k < h.n
  pub once : (j k : ℕ) → j < k → k < moves.count → item_at moves j ≢ item_at moves k

-- an instrument that none of the first k moves has is not found among them
pub earlier_none : (moves : Moves) (k x : ℕ) → ((j : ℕ) → j < k → item_at moves j ≢ x) → earlier moves k x ≡ false
unfolding earlier
earlier_none moves zero x d = refl
earlier_none moves (suc k) x d = rw (earlier_none moves k x (λ j l. d j (omega arith)), ne_eqb x (item_at moves k) (λ e. d k (omega arith) (sym e))) refl

-- moves that each fit, none of an instrument that moves before
pub first_fits : (h : Holding) (moves : Moves) → ((k : ℕ) → k < moves.count → may_move h (item_at moves k) (team_of moves k) ≡ true) → ((j k : ℕ) → j < k → k < moves.count → item_at moves j ≢ item_at moves k)
    → (k : ℕ) → k ≤ moves.count → first_fit h moves k ≡ true
unfolding first_fit
first_fits h moves each once zero l = refl
first_fits h moves each once (suc k) l = rw (first_fits h moves each once k (omega arith), each k (omega arith), earlier_none moves k (item_at moves k) (λ j s. once j k s (omega arith))) refl

-- the owners after the first moves
module _ (owner : List ℕ) (moves : Moves) (x : ℕ) where
  -- an instrument that none of the first k moves has stays
  pub stays : (k : ℕ) → ((j : ℕ) → j < k → item_at moves j ≢ x) → get_or (moved owner moves k) x 255 ≡ get_or owner x 255
  unfolding moved
  stays zero d = refl
  stays (suc k) d = get_or-set_other (moved owner moves k) (item_at moves k) x (team_of moves k) 255 (λ e. d k (omega arith) (sym e)) ∙ stays k (λ j l. d j (omega arith))

  -- the instrument of move k goes to its team, and later moves leave it there
  pub goes : ((k : ℕ) → k < moves.count → item_at moves k < length owner) → ((j k : ℕ) → j < k → k < moves.count → item_at moves j ≢ item_at moves k)
      → (n k : ℕ) → n ≤ moves.count → k < n → item_at moves k ≡ x → get_or (moved owner moves n) x 255 ≡ team_of moves k
  unfolding moved
  goes below once zero k l s e = absurd (omega arith)
  goes below once (suc n) k l s e = go (ℕ_discrete k n) (λ (s : k < n). goes below once n k (omega arith) s e)
    where
      go : Dec (k ≡ n) → (k < n → get_or (moved owner moves n) x 255 ≡ team_of moves k) → get_or (set (moved owner moves n) (item_at moves n) (team_of moves n)) x 255 ≡ team_of moves k
      go (yes same) rest =
          let b = below n (omega arith) in
          let wide = moved_long owner moves n in
          rw (sym e, same) (get_or-set_same (moved owner moves n) (item_at moves n) (team_of moves n) 255 (omega arith))
      go (no less) rest =
          get_or-set_other (moved owner moves n) (item_at moves n) x (team_of moves n) 255 (λ d. once k n (omega arith) (omega arith) (e ∙ d)) ∙ rest (omega arith)

module _ (h : Holding) (moves : Moves) (small : h.m ≤ 64) (few : h.n ≤ 12) (fit : Fit h moves) where
  -- each move fits
  each : (k : ℕ) → k < moves.count → may_move h (item_at moves k) (team_of moves k) ≡ true
  unfolding may_move is_instrument is_team
  each k l =
      let i = fit.item k l in
      let t = fit.team k l in
      rw (lt-ltb (item_at moves k) h.m i, lt-ltb (item_at moves k) 64 (omega arith), lt-ltb (team_of moves k) h.n t, lt-ltb (team_of moves k) 12 (omega arith)) refl

  -- such moves are carried out
  pub chain_applies : chained h moves ≡ with_owner h (moved h.owner moves moves.count)
  unfolding chained moves_fit
  chain_applies = rw (le-leb moves.count 64 fit.few, first_fits h moves each fit.once moves.count (omega arith)) refl

  module _ (long : length h.owner ≡ 64) (x : ℕ) where
    -- an instrument that is moved is held by the team that gets it
    pub chain_moved : (k : ℕ) → k < moves.count → item_at moves k ≡ x → holder_of (chained h moves) x ≡ team_of moves k
    unfolding holder_of
    chain_moved k l e = rw chain_applies (goes h.owner moves x (λ k l. let i = fit.item k l in omega arith) fit.once moves.count k (omega arith) l e)

    -- any other keeps its place
    pub chain_kept : ((k : ℕ) → k < moves.count → item_at moves k ≢ x) → holder_of (chained h moves) x ≡ holder_of h x
    unfolding holder_of
    chain_kept d = rw chain_applies (stays h.owner moves x moves.count d)
