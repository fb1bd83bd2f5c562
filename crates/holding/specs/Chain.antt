-- Chain (document 01, "Worth and share"): "chain carries out a list of moves, each an instrument and the team that gets it, no instrument twice".
use Rattle.std.specs.Prelude.{ℕ, zero, suc, Bool, true, false, ◌&&◌, ◌||◌, not, cond, List, eqb, leb, get_or, set}
use Rattle.holding.specs.declared.Holding.{Holding}
use Rattle.holding.specs.declared.Move.{Move}
use Rattle.holding.specs.declared.Moves.{Moves}
use Rattle.holding.specs.Give.{is_instrument, is_team, with_owner}

-- what stands past the end of the table
abbrev pub no_move : Move
no_move = record { item = 0; to = 0 }

-- move k: the instrument
abbrev pub item_at : Moves → ℕ → ℕ
item_at moves k = (get_or moves.list k no_move).item

-- and the team that gets it
abbrev pub team_of : Moves → ℕ → ℕ
team_of moves k = (get_or moves.list k no_move).to

-- "there an instrument may come from the pool or from any team, the one that gets it included": every instrument is in the pool or with a
-- team, so its present place always fits
unfoldable pub may_move : Holding → (g t : ℕ) → Bool
may_move h g t = is_instrument h g && is_team h t

-- one of the first k moves is of x
unfoldable pub earlier : Moves → (k x : ℕ) → Bool
earlier moves zero x = false
earlier moves (suc k) x = earlier moves k x || eqb x (item_at moves k)

-- the first k moves fit, and no instrument is moved twice
unfoldable pub first_fit : Holding → Moves → ℕ → Bool
first_fit h moves zero = true
first_fit h moves (suc k) = first_fit h moves k && (may_move h (item_at moves k) (team_of moves k) && not (earlier moves k (item_at moves k)))

-- all moves fit, of which there are at most 64
unfoldable pub moves_fit : Holding → Moves → Bool
moves_fit h moves = leb moves.count 64 && first_fit h moves moves.count

-- the owners after the first k moves
unfoldable pub moved : List ℕ → Moves → ℕ → List ℕ
moved owner moves zero = owner
moved owner moves (suc k) = set (moved owner moves k) (item_at moves k) (team_of moves k)

-- the holding after all moves
abbrev pub carried_out : Holding → Moves → Holding
carried_out h moves = with_owner h (moved h.owner moves moves.count)

-- "Where an instrument, a team or the instrument's present place does not fit this, the holding comes back unchanged."
unfoldable pub chained : Holding → Moves → Holding
chained h moves = cond (moves_fit h moves) (carried_out h moves) h
