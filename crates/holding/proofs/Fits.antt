-- The loop of `fits`: the moves so far fit, and the word of instruments seen holds those that they move.
use Prim.Native.Nat.{ℕ, zero, suc, ◌+◌, ◌≤◌, ◌<◌}
use mathlib.Core.Path.{◌≡◌, refl, sym, ap, ◌∙◌}
use mathlib.Core.Bool.{Bool, true, false, ◌&&◌, ◌||◌, not, and-false}
use native.Mathlib.Omega.{arith}
use native.Mathlib.Numerals.{add-one}
use native.Mathlib.Decide.{ℕ_discrete}
use lib.Dec.{eqb, leb}
use lib.ListN.{length, take, get_or}
use Rattle.std.proofs.Common.{length-take, get_or-take}
use borrow.Author.Tests.{le-leb, lt-leb, leb-true}
use Rattle.matroid.specs.Set.{with}
use Rattle.sets.specs.Bits.{bit}
use Rattle.holding.specs.declared.Holding.{Holding}
use Rattle.holding.specs.declared.Move.{Move}
use Rattle.holding.specs.declared.Moves.{Moves}
use Rattle.holding.specs.Give.{is_instrument, is_team}
use Rattle.holding.specs.Chain.{no_move, item_at, team_of, may_move, earlier, first_fit, moves_fit}
use Rattle.holding.proofs.Tests.{and_left, and_right, instrument_below}
use Rattle.sets.proofs.Below.{bit_none}

-- the first k moves fit, and the word holds their instruments
pub record Fitting (h : Holding) (moves : Moves) (k word : ℕ) : Type 0 where
  pub fit : first_fit h moves k ≡ true
  pub seen : (x : ℕ) → bit word x ≡ earlier moves k x

-- where the first k moves do not fit, neither do more
first_false : (h : Holding) (moves : Moves) (k n : ℕ) → k ≤ n → first_fit h moves k ≡ false → first_fit h moves n ≡ false
unfolding first_fit
first_false h moves k zero l e = let z : k ≡ 0 = omega arith in rw z at e
first_false h moves k (suc n) l e = go (ℕ_discrete k (suc n)) (λ (s : k ≤ n). first_false h moves k n s e)
  where
    go : Dec (k ≡ suc n) → (k ≤ n → first_fit h moves n ≡ false) → first_fit h moves (suc n) ≡ false
    go (yes same) rest = sym (ap (first_fit h moves) same) ∙ e
    go (no less) rest = rw (rest (omega arith)) refl

-- where the first n moves fit, each of them does
pub each_fits : (h : Holding) (moves : Moves) (n k : ℕ) → first_fit h moves n ≡ true → k < n → may_move h (item_at moves k) (team_of moves k) ≡ true
unfolding first_fit
each_fits h moves zero k e l = absurd (omega arith)
each_fits h moves (suc n) k e l = go (ℕ_discrete k n) (λ (s : k < n). each_fits h moves n k (and_left (first_fit h moves n) (may_move h (item_at moves n) (team_of moves n) && not (earlier moves n (item_at moves n))) e) s)
  where
    go : Dec (k ≡ n) → (k < n → may_move h (item_at moves k) (team_of moves k) ≡ true) → may_move h (item_at moves k) (team_of moves k) ≡ true
    go (yes same) rest = rw same (and_left (may_move h (item_at moves n) (team_of moves n)) (not (earlier moves n (item_at moves n)))
        (and_right (first_fit h moves n) (may_move h (item_at moves n) (team_of moves n) && not (earlier moves n (item_at moves n))) e))
    go (no less) rest = rest (omega arith)

-- what moves is an instrument
pub move_below : (h : Holding) (g t : ℕ) → may_move h g t ≡ true → g < 64
unfolding may_move
move_below h g t e = instrument_below h g (and_left (is_instrument h g) (is_team h t) e)

-- moves that fit are at most 64
pub fit_few : (h : Holding) (moves : Moves) → moves_fit h moves ≡ true → moves.count ≤ 64
unfolding moves_fit
fit_few h moves e = leb-true moves.count 64 (and_left (leb moves.count 64) (first_fit h moves moves.count) e)

-- each of them fits
pub fit_move : (h : Holding) (moves : Moves) (k : ℕ) → moves_fit h moves ≡ true → k < moves.count → may_move h (item_at moves k) (team_of moves k) ≡ true
unfolding moves_fit
fit_move h moves k e l = each_fits h moves moves.count k (and_right (leb moves.count 64) (first_fit h moves moves.count) e) l

-- and is of an instrument
pub fit_item : (h : Holding) (moves : Moves) (k : ℕ) → moves_fit h moves ≡ true → k < moves.count → item_at moves k < 64
fit_item h moves k e l = move_below h (item_at moves k) (team_of moves k) (fit_move h moves k e l)

-- at the start nothing is moved
pub fits_none : (h : Holding) (moves : Moves) → Fitting h moves 0 0
unfolding first_fit earlier
fits_none h moves = record { fit = refl; seen = bit_none }

-- more than 64 moves
pub fits_many : (h : Holding) (moves : Moves) → 64 < moves.count → false ≡ moves_fit h moves
unfolding moves_fit
fits_many h moves l = rw (lt-leb moves.count 64 l) refl

-- a step of a loop over the moves is of one of them
pub in_list : (moves : Moves) (k : ℕ) → k < length (take moves.count moves.list) → k < moves.count
in_list moves k l = omega (arith, length-take moves.count moves.list)

pub step_is : (moves : Moves) (k : ℕ) → k < length (take moves.count moves.list) → get_or (take moves.count moves.list) k no_move ≡ get_or moves.list k no_move
step_is moves k l = get_or-take moves.count moves.list k no_move (in_list moves k l)

-- the loop ends after the last
pub list_end : (moves : Moves) (k : ℕ) → length moves.list ≡ 64 → moves.count ≤ 64 → k ≤ length (take moves.count moves.list) → length (take moves.count moves.list) ≤ k → k ≡ moves.count
list_end moves k long few a b = omega (arith, length-take moves.count moves.list)

module _ (h : Holding) (moves : Moves) (k word : ℕ) (f : Fitting h moves k word) (step : Move) (is : step ≡ get_or moves.list k no_move) where
  -- one move more that fits, of an instrument not seen
  pub fits_more : (next : ℕ) (may : Bool) (again : Bool) → may ≡ may_move h step.item step.to → may ≡ true → again ≡ bit word step.item → again ≡ false
      → ((x : ℕ) → bit next x ≡ with (bit word) step.item x) → Fitting h moves (k + 1) next
  unfolding first_fit earlier
  fits_more next may again is-may yes-may is-again not-again joined =
      let is-may' : may ≡ may_move h (item_at moves k) (team_of moves k) = rw is at is-may in
      let is-again' : again ≡ bit word (item_at moves k) = rw is at is-again in
      rw (add-one k) (record {
        fit = rw (f.fit, sym is-may' ∙ yes-may, sym (f.seen (item_at moves k)) ∙ sym is-again' ∙ not-again) refl;
        seen = λ x. joined x ∙ ap (λ (s : Move). with (bit word) s.item x) is ∙ ap (λ (b : Bool). b || eqb x (item_at moves k)) (f.seen x);
      })

  -- a move that does not fit
  pub fits_stop : (may : Bool) → may ≡ may_move h step.item step.to → may ≡ false → k < moves.count → false ≡ moves_fit h moves
  unfolding moves_fit first_fit
  fits_stop may is-may not-may l =
      let is-may' : may ≡ may_move h (item_at moves k) (team_of moves k) = rw is at is-may in
      let stop : first_fit h moves (suc k) ≡ false = rw (sym is-may' ∙ not-may) (and-false (first_fit h moves k)) in
      rw (first_false h moves (suc k) moves.count (omega arith) stop) (sym (and-false (leb moves.count 64)))

  -- a move of an instrument seen
  pub fits_twice : (again : Bool) → again ≡ bit word step.item → again ≡ true → k < moves.count → false ≡ moves_fit h moves
  unfolding moves_fit first_fit
  fits_twice again is-again yes-again l =
      let is-again' : again ≡ bit word (item_at moves k) = rw is at is-again in
      let stop : first_fit h moves (suc k) ≡ false = rw (sym (f.seen (item_at moves k)) ∙ sym is-again' ∙ yes-again, and-false) (and-false (first_fit h moves k)) in
      rw (first_false h moves (suc k) moves.count (omega arith) stop) (sym (and-false (leb moves.count 64)))

-- every move fits
pub fits_all : (h : Holding) (moves : Moves) (k word : ℕ) → Fitting h moves k word → k ≡ moves.count → moves.count ≤ 64 → true ≡ moves_fit h moves
unfolding moves_fit
fits_all h moves k word f e l = rw (le-leb moves.count 64 l) (sym (sym (ap (first_fit h moves) e) ∙ f.fit))
