-- Give, return and chain leave both counts right, and the code's steps come to them.
use Prim.Native.Nat.{ℕ, ◌<◌, min}
use mathlib.Core.Path.{◌≡◌, refl, sym, ap}
use mathlib.Core.Bool.{Bool, true, false, ◌&&◌, not, cond}
use mathlib.Core.List.{List}
use lib.ListN.{length, set}
use lib.Seq.{set-get_or}
use borrow.Author.Tests.{not-true, not-false}
use Rattle.holding.specs.declared.Holding.{Holding}
use Rattle.holding.specs.declared.Moves.{Moves}
use Rattle.holding.specs.Count.{Right}
use Rattle.holding.specs.Give.{holder_of, is_instrument, is_team, in_pool, with_owner, gave, returned}
use Rattle.holding.specs.Chain.{moved, moves_fit, chained}
use Rattle.holding.specs.Tally.{size_at, tally_of, next_by, raised_at, lowered_at, passed_on}
use Rattle.holding.proofs.Counting.{right_counted, counted_right, give_counted, holder_some, return_counted, pass_counted}

-- other owners, counted afresh, or the same holding
cond_right : (h : Holding) (owner : List ℕ) → Right h → (b : Bool) → Right (cond b (with_owner h owner) h)
cond_right h owner right true = counted_right h.m h.n owner h.shares
cond_right h owner right false = right

pub gave_right : (h : Holding) (g t : ℕ) → Right h → Right (gave h g t)
unfolding gave
gave_right h g t right = cond_right h (set h.owner g t) right (is_instrument h g && (is_team h t && in_pool h g))

pub returned_right : (h : Holding) (g : ℕ) → Right h → Right (returned h g)
unfolding returned
returned_right h g right = cond_right h (set h.owner g 255) right (is_instrument h g && not (in_pool h g))

pub chained_right : (h : Holding) (moves : Moves) → Right h → Right (chained h moves)
unfolding chained
chained_right h moves right = cond_right h (moved h.owner moves moves.count) right (moves_fit h moves)

module _ (h : Holding) (right : Right h) (long : length h.owner ≡ 64) (g : ℕ) (instrument : is_instrument h g ≡ true) where
  -- a give that is carried out
  pub gave_taken : (t : ℕ) → is_team h t ≡ true → in_pool h g ≡ true → next_by h (set h.owner g t) (raised_at (tally_of h) t) ≡ gave h g t
  unfolding gave in_pool
  gave_taken t team pool = rw (instrument, team, pool) (give_counted h right long g instrument t team (not-true (is_team h (holder_of h g)) pool))

  -- who holds an instrument that is not in the pool is a team
  held_team : in_pool h g ≡ false → is_team h (holder_of h g) ≡ true
  unfolding in_pool
  held_team held = not-false (is_team h (holder_of h g)) held

  -- and holds something
  pub held_some : in_pool h g ≡ false → (is_team h (holder_of h g) ≡ true) × (0 < size_at (tally_of h) (holder_of h g))
  held_some held = (held_team held, holder_some h right long g instrument (holder_of h g) (held_team held) refl)

  -- a return that is carried out
  pub returned_taken : in_pool h g ≡ false → next_by h (set h.owner g 255) (lowered_at (tally_of h) (holder_of h g)) ≡ returned h g
  unfolding returned
  returned_taken held = rw (instrument, held) (return_counted h right long g instrument (holder_of h g) (held_team held) refl)

  -- a move of a chain: the counts
  pub pass_taken : (t : ℕ) → is_team h t ≡ true → passed_on (tally_of h) (min h.n 12) (holder_of h g) t ≡ tally_of (with_owner h (set h.owner g t))
  pass_taken t team = ap tally_of (pass_counted h right long g instrument t team)

  -- and where it goes to the team that has it
  pub pass_same : (t : ℕ) → holder_of h g ≡ t → tally_of h ≡ tally_of (with_owner h (set h.owner g t))
  unfolding holder_of
  pass_same t e = rw (sym e, set-get_or h.owner g 255) (ap tally_of (right_counted h right))
