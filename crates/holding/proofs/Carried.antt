-- The loop of `carried_out`: the owners and the sizes after the first k moves.
use Prim.Native.Nat.{ℕ, zero, suc, ◌+◌, ◌-◌, ◌≤◌, ◌<◌, min}
use mathlib.Core.Path.{◌≡◌, refl, sym, ap, ◌∙◌}
use mathlib.Core.Bool.{true, cond}
use mathlib.Core.Logic.{◌⊎◌, inl, inr, ◌≢◌}
use mathlib.Core.List.{List}
use native.Mathlib.Omega.{arith}
use native.Mathlib.Numerals.{add-one}
use native.Mathlib.Decide.{ℕ_discrete, dec_lt}
use lib.Dec.{ltb}
use lib.ListN.{length, get_or, set, length-set}
use lib.Seq.{get_or-set_same, get_or-set_other, set_out}
use mir.Syntax.{w8}
use mir.Val.{Fits}
use borrow.Author.Tests.{lt-ltb, le-ltb}
use Rattle.std.proofs.lemmas.List.{get_or_default}
use Rattle.holding.specs.declared.Holding.{Holding}
use Rattle.holding.specs.declared.Move.{Move}
use Rattle.holding.specs.declared.Moves.{Moves}
use Rattle.holding.specs.declared.Tally.{Tally}
use Rattle.holding.specs.Count.{sizes_in, Right}
use Rattle.holding.specs.Give.{holder_of, is_instrument, is_team, with_owner}
use Rattle.holding.specs.Chain.{no_move, item_at, team_of, may_move, moves_fit, moved, carried_out}
use Rattle.holding.specs.Tally.{tally_of, raised_at, lowered_at, passed_on}
use Rattle.holding.proofs.Tests.{and_left, and_right, team_below}
use Rattle.holding.proofs.Fits.{fit_item, fit_move}
use Rattle.holding.proofs.Counting.{counted_right, size_small, holder_below}
use Rattle.holding.proofs.Rights.{pass_taken, pass_same}

-- moves keep the length of the list of owners
pub moved_long : (owner : List ℕ) (moves : Moves) (k : ℕ) → length (moved owner moves k) ≡ length owner
unfolding moved
moved_long owner moves zero = refl
moved_long owner moves (suc k) = length-set (moved owner moves k) (item_at moves k) (team_of moves k) ∙ moved_long owner moves k

-- and owners that are bytes
pub moved_byte : (owner : List ℕ) (moves : Moves) → ((i : ℕ) → Fits w8 (get_or owner i 0)) → ((j : ℕ) → Fits w8 (team_of moves j)) → (k i : ℕ) → Fits w8 (get_or (moved owner moves k) i 0)
unfolding moved
moved_byte owner moves old new zero i = old i
moved_byte owner moves old new (suc k) i = go (moved_byte owner moves old new k i) (ℕ_discrete i (item_at moves k)) (dec_lt (item_at moves k) (length (moved owner moves k)))
  where
    go : Fits w8 (get_or (moved owner moves k) i 0) → Dec (i ≡ item_at moves k) → Dec (item_at moves k < length (moved owner moves k)) → Fits w8 (get_or (set (moved owner moves k) (item_at moves k) (team_of moves k)) i 0)
    go rest (no d) low = rw (get_or-set_other (moved owner moves k) (item_at moves k) i (team_of moves k) 0 d) rest
    go rest (yes e) (yes low) = rw (e, get_or-set_same (moved owner moves k) (item_at moves k) (team_of moves k) 0 low) (new k)
    go rest (yes e) (no high) = rw (set_out (moved owner moves k) (item_at moves k) (team_of moves k) (omega arith)) rest

-- the owners after the first k moves, with a fresh count of the sizes
pub record Carrying (h : Holding) (moves : Moves) (k : ℕ) (owner row : List ℕ) : Type 0 where
  pub owners : owner ≡ moved h.owner moves k
  pub counts : row ≡ sizes_in h.m h.n owner

-- before the first move
pub carrying_none : (h : Holding) (moves : Moves) → Right h → Carrying h moves 0 h.owner h.sizes
unfolding moved
carrying_none h moves right = record { owners = refl; counts = right.sizes }

-- after the last
pub carrying_all : (h r : Holding) (moves : Moves) (k : ℕ) (owner row : List ℕ) → Carrying h moves k owner row → k ≡ moves.count → r ≡ with_owner h owner → r ≡ carried_out h moves
carrying_all h r moves k owner row c e is = is ∙ rw c.owners (ap (λ (n : ℕ). with_owner h (moved h.owner moves n)) e)

-- one fewer where an instrument comes from, one of the teams below last or the pool
abbrev pub Lowered : (row : List ℕ) (last from : ℕ) (less : List ℕ) → Type 0
Lowered row last from less = ((from < last) × (less ≡ set row from (get_or row from 0 - 1))) ⊎ ((last ≤ from) × (less ≡ row))

-- One move more.
module _ (h : Holding) (moves : Moves) (k : ℕ) (owner row : List ℕ) (c : Carrying h moves k owner row) (long : length h.owner ≡ 64) (fit : moves_fit h moves ≡ true) (l : k < moves.count)
    (step : Move) (is-step : step ≡ get_or moves.list k no_move) (from : ℕ) (is-from : from ≡ get_or owner step.item 0) where
  abbrev now : Holding
  now = with_owner h owner

  abbrev g : ℕ
  g = step.item

  abbrev t : ℕ
  t = step.to

  right : Right now
  right = counted_right h.m h.n owner h.shares

  wide : length owner ≡ 64
  wide = ap length c.owners ∙ moved_long h.owner moves k ∙ long

  instrument : is_instrument now g ≡ true
  unfolding may_move is_instrument
  instrument = rw is-step (and_left _ _ (fit_move h moves k fit l))

  team : is_team now t ≡ true
  unfolding may_move is_team
  team = rw is-step (and_right (is_instrument h (item_at moves k)) _ (fit_move h moves k fit l))

  -- it is of an instrument
  pub carrying_item : step.item < 64
  carrying_item = rw is-step (fit_item h moves k fit l)

  -- it comes from its holder
  comes : from ≡ holder_of now g
  unfolding holder_of
  comes = is-from ∙ get_or_default owner g 0 255 (let b = carrying_item in let w = wide in omega arith)

  -- a team that it comes from holds something
  pub carrying_some : from < min h.n 12 → 0 < get_or row from 0
  carrying_some b = rw (c.counts, comes) (holder_below now right wide g instrument (rw comes at b))

  next_owners : set owner g t ≡ moved h.owner moves (k + 1)
  unfolding moved
  next_owners = rw (add-one k, c.owners, is-step) refl

  -- it is counted where it comes from
  module _ (less : List ℕ) (lowered : Lowered row (min h.n 12) from less) where
    -- there is room for one more
    pub carrying_room : from ≢ t → (t < 12) × (get_or less t 0 < 255)
    carrying_room d = let small = size_small now right t team in let row_at = ap (λ (x : List ℕ). get_or x t 0) c.counts in (
      team_below now t team,
      elim lowered [
        | inl (_, e) ↦ let same = ap (λ (x : List ℕ). get_or x t 0) e ∙ get_or-set_other row from t (get_or row from 0 - 1) 0 (λ q. d (sym q)) in omega arith
        | inr (_, e) ↦ let same = ap (λ (x : List ℕ). get_or x t 0) e in omega arith
      ],
    )

    as_lowered : less ≡ (cond (ltb from (min h.n 12)) (lowered_at (tally_of now) from) (tally_of now)).sizes
    unfolding lowered_at
    as_lowered = elim lowered [
      | inl (b, e) ↦ rw (lt-ltb from (min h.n 12) b) (e ∙ ap (λ (x : List ℕ). set x from (get_or x from 0 - 1)) c.counts)
      | inr (b, e) ↦ rw (le-ltb from (min h.n 12) b) (e ∙ c.counts)
    ]

    -- and where it goes to
    pub carrying_pass : (next : List ℕ) → next ≡ set less t (get_or less t 0 + 1) → Carrying h moves (k + 1) (set owner g t) next
    unfolding passed_on raised_at
    carrying_pass next is = record {
      owners = next_owners;
      counts =
          is ∙ ap (λ (x : List ℕ). set x t (get_or x t 0 + 1)) as_lowered
          ∙ ap (λ (from : ℕ). (passed_on (tally_of now) (min h.n 12) from t).sizes) comes
          ∙ ap (λ (x : Tally). x.sizes) (pass_taken now right wide g instrument t team);
    }

  -- or nowhere, where it goes to the team that has it
  pub carrying_same : (next : List ℕ) → from ≡ t → next ≡ row → Carrying h moves (k + 1) (set owner g t) next
  carrying_same next e is = record { owners = next_owners; counts = is ∙ c.counts ∙ ap (λ (x : Tally). x.sizes) (pass_same now right wide g instrument t (sym comes ∙ e)) }
