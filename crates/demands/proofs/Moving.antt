-- Give, return and chain, from the definitions that their promises equate.
use Prim.Native.Nat.{ℕ, zero, suc, ◌+◌, ◌<◌}
use mathlib.Core.Path.{◌≡◌, refl, sym, ap, ◌∙◌}
use mathlib.Core.Bool.{Bool, true, false, ◌&&◌, ◌||◌, not, cond, and-false, or-true, false≢true}
use mathlib.Core.List.{List}
use mathlib.Core.Logic.{◌≢◌}
use native.Mathlib.Omega.{arith}
use native.Mathlib.Decide.{ℕ_discrete}
use lib.ListN.{length, get_or, set}
use lib.Seq.{get_or-set_same, get_or-set_other}
use borrow.Author.Tests.{le-leb, eq-eqb, not-true, not-false}
use lib.Dec.{eqb, leb}
use Rattle.matroid.specs.Set.{size}
use Rattle.holding.specs.declared.Holding.{Holding}
use Rattle.holding.specs.declared.Moves.{Moves}
use Rattle.holding.specs.Count.{Right}
use Rattle.holding.specs.Give.{holder_of, is_instrument, is_team, in_pool, with_owner, gave, returned}
use Rattle.holding.specs.Chain.{item_at, team_of, may_move, earlier, first_fit, moves_fit, moved, chained}
use Rattle.holding.proofs.Tests.{and_left, and_right, instrument_below, instrument_m}
use Rattle.holding.proofs.Fits.{fit_few, each_fits}
use Rattle.holding.proofs.Applies.{first_fits, stays, goes}
use Rattle.holding.proofs.Counting.{counted_right, size_at_lem}
use Rattle.holding.proofs.Laws.{falls_by_one, gave_one, gave_others, gave_short, gave_enough, returned_one, returned_others, returned_short, returned_enough, chain_size}
use Rattle.demands.specs.Holdings.{Alike, size_of, share_of, Gives, Returns, Fits, Chains}

-- ---- give and return

-- another owner for one instrument
other_kept : (h : Holding) (g t k : ℕ) → k ≢ g → holder_of (with_owner h (set h.owner g t)) k ≡ holder_of h k
unfolding holder_of
other_kept h g t k d = get_or-set_other h.owner g k t 255 d

owner_put : (h : Holding) (g t : ℕ) → length h.owner ≡ 64 → is_instrument h g ≡ true → holder_of (with_owner h (set h.owner g t)) g ≡ t
unfolding holder_of
owner_put h g t long i = get_or-set_same h.owner g t 255 (let l = instrument_below h g i in omega arith)

-- a holding with other owners, or the same, has the same instruments, teams and shares, and right counts
alike : (h : Holding) (owner : List ℕ) → Right h → (b : Bool) → Alike h (cond b (with_owner h owner) h)
alike h owner right true = record { m = refl; n = refl; shares = refl; right = counted_right h.m h.n owner h.shares }
alike h owner right false = record { m = refl; n = refl; shares = refl; right = right }

pub gives : (h : Holding) (g t : ℕ) → length h.owner ≡ 64 → Right h → Gives h g t (gave h g t)
unfolding gave in_pool
gives h g t long right = record {
  alike = alike h (set h.owner g t) right (is_instrument h g && (is_team h t && in_pool h g));
  put = λ i e p. rw (i, e, p) (owner_put h g t long i);
  gains = λ i e p.
      let loose = not-true (is_team h (holder_of h g)) p in
      rw (i, e, p) (record {
        one = gave_one h right long g i t e loose;
        others = gave_others h right long g i t e loose;
        short = gave_short h right long g i t e loose;
        enough = gave_enough h right long g i t e loose;
      });
  others = λ k d. go k d (is_instrument h g && (is_team h t && in_pool h g));
  no_instrument = λ i. rw i refl;
  no_team = λ e. rw (e, and-false (is_instrument h g)) refl;
  not_in_pool = λ p. rw (p, and-false (is_team h t), and-false (is_instrument h g)) refl;
}
  where
    go : (k : ℕ) → k ≢ g → (b : Bool) → holder_of (cond b (with_owner h (set h.owner g t)) h) k ≡ holder_of h k
    go k d true = other_kept h g t k d
    go k d false = refl

pub returns : (h : Holding) (g : ℕ) → length h.owner ≡ 64 → Right h → Returns h g (returned h g)
unfolding returned in_pool
returns h g long right = record {
  alike = alike h (set h.owner g 255) right (is_instrument h g && not (in_pool h g));
  put = λ i p. rw (i, p) (owner_put h g 255 long i);
  loses = λ i p.
      let team = not-false (is_team h (holder_of h g)) p in
      rw (i, p) (record {
        one = returned_one h right long g i (holder_of h g) team refl;
        others = returned_others h right long g i (holder_of h g) team refl;
        short = returned_short h right long g i (holder_of h g) team refl;
        enough = returned_enough h right long g i (holder_of h g) team refl;
      });
  others = λ k d. go k d (is_instrument h g && not (in_pool h g));
  no_instrument = λ i. rw i refl;
  in_pool_lem = λ p. rw (p, and-false (is_instrument h g)) refl;
}
  where
    go : (k : ℕ) → k ≢ g → (b : Bool) → holder_of (cond b (with_owner h (set h.owner g 255)) h) k ≡ holder_of h k
    go k d true = other_kept h g 255 k d
    go k d false = refl

-- ---- chain

-- moves that fit, by the tests
fits_true : (h : Holding) (moves : Moves) → Fits h moves → moves_fit h moves ≡ true
unfolding moves_fit may_move
fits_true h moves f = rw (le-leb moves.count 64 f.few, first_fits h moves (λ k l. rw (f.item k l, f.team k l) refl) f.once moves.count (omega arith)) refl

-- one of the first k moves is of x
earlier_some : (moves : Moves) (j k x : ℕ) → j < k → item_at moves j ≡ x → earlier moves k x ≡ true
unfolding earlier
earlier_some moves j zero x l e = absurd (omega arith)
earlier_some moves j (suc k) x l e = go (ℕ_discrete j k) (λ (s : j < k). earlier_some moves j k x s e)
  where
    go : Dec (j ≡ k) → (j < k → earlier moves k x ≡ true) → (earlier moves k x || eqb x (item_at moves k)) ≡ true
    go (yes same) rest = rw (eq-eqb x (item_at moves k) (sym e ∙ ap (item_at moves) same), or-true (earlier moves k x)) refl
    go (no less) rest = rw (rest (omega arith)) refl

-- where the first moves fit, none is of an instrument that moves before
each_once : (h : Holding) (moves : Moves) (n k : ℕ) → first_fit h moves n ≡ true → k < n → earlier moves k (item_at moves k) ≡ false
unfolding first_fit
each_once h moves zero k e l = absurd (omega arith)
each_once h moves (suc n) k e l = go (ℕ_discrete k n) (λ (s : k < n). each_once h moves n k (and_left (first_fit h moves n) (may_move h (item_at moves n) (team_of moves n) && not (earlier moves n (item_at moves n))) e) s)
  where
    go : Dec (k ≡ n) → (k < n → earlier moves k (item_at moves k) ≡ false) → earlier moves k (item_at moves k) ≡ false
    go (yes same) rest = rw same (not-true _ (and_right (may_move h (item_at moves n) (team_of moves n)) _ (and_right (first_fit h moves n) _ e)))
    go (no less) rest = rest (omega arith)

-- and so what the tests let pass fits
true_fits : (h : Holding) (moves : Moves) → moves_fit h moves ≡ true → Fits h moves
unfolding moves_fit may_move
true_fits h moves e =
    let all = and_right (leb moves.count 64) (first_fit h moves moves.count) e in
    record {
      few = fit_few h moves e;
      item = λ k l. and_left _ _ (each_fits h moves moves.count k all l);
      team = λ k l. and_right (is_instrument h (item_at moves k)) _ (each_fits h moves moves.count k all l);
      once = λ j k s l same. false≢true (sym (each_once h moves moves.count k all l) ∙ earlier_some moves j k (item_at moves k) s same);
    }

-- the sizes after a chain that fits
chain_sizes : (h : Holding) (moves : Moves) → length h.owner ≡ 64 → Right h → Fits h moves → (t : ℕ) → is_team h t ≡ true
    → size_of (with_owner h (moved h.owner moves moves.count)) t + size moves.count (λ k. eqb (holder_of h (item_at moves k)) t) ≡ size_of h t + size moves.count (λ k. eqb (team_of moves k) t)
unfolding holder_of is_team
chain_sizes h moves long right f t team =
    let before = size_at_lem h right t team in
    let after = size_at_lem (with_owner h (moved h.owner moves moves.count)) (counted_right h.m h.n (moved h.owner moves moves.count) h.shares) t team in
    let law = chain_size h.m h.owner long moves (λ k l. let a = instrument_m h (item_at moves k) (f.item k l) in let b = instrument_below h (item_at moves k) (f.item k l) in omega arith) f.once t moves.count (omega arith) in
    omega arith

-- and the shortfall, where a chain or nothing is carried out
chain_falls : (h : Holding) (owner : List ℕ) → Right h → (b : Bool) (i j : ℕ) → is_team h i ≡ true → is_team h j ≡ true
    → ((t : ℕ) → is_team h t ≡ true → t ≢ i → t ≢ j → size_of (cond b (with_owner h owner) h) t ≡ size_of h t) → size_of (cond b (with_owner h owner) h) i ≡ size_of h i + 1
    → size_of (cond b (with_owner h owner) h) j + 1 ≡ size_of h j → size_of h i < share_of h i → share_of h j < size_of h j → h.shortfall ≡ (cond b (with_owner h owner) h).shortfall + 1
chain_falls h owner right true i j team-i team-j same up down short above = falls_by_one h right owner i j team-i team-j same up down short above
chain_falls h owner right false i j team-i team-j same up down short above = absurd (omega arith)

pub chains : (h : Holding) (moves : Moves) → length h.owner ≡ 64 → Right h → Chains h moves (chained h moves)
unfolding chained holder_of
chains h moves long right = record {
  alike = alike h (moved h.owner moves moves.count) right (moves_fit h moves);
  counts = λ f t team. rw (fits_true h moves f) (chain_sizes h moves long right f t team);
  falls = chain_falls h (moved h.owner moves moves.count) right (moves_fit h moves);
  put = λ f k l. rw (fits_true h moves f) (goes h.owner moves (item_at moves k) (λ k l. let b = instrument_below h (item_at moves k) (f.item k l) in omega arith) f.once moves.count k (omega arith) l refl);
  others = λ x d. go x d (moves_fit h moves);
  refused = λ d. left (moves_fit h moves) refl d;
}
  where
    go : (x : ℕ) → ((k : ℕ) → k < moves.count → item_at moves k ≢ x) → (b : Bool) → get_or (cond b (with_owner h (moved h.owner moves moves.count)) h).owner x 255 ≡ get_or h.owner x 255
    go x d true = stays h.owner moves x moves.count d
    go x d false = refl

    left : (b : Bool) → moves_fit h moves ≡ b → (Fits h moves → ⊥) → cond b (with_owner h (moved h.owner moves moves.count)) h ≡ h
    left true e d = absurd (d (true_fits h moves e))
    left false e d = refl
