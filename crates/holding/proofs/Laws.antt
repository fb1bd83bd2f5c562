-- What a give, a return and a chain do to the sizes and the shortfall that a holding carries (document 02, note 7).
use Prim.Native.Nat.{ℕ, zero, suc, ◌+◌, ◌≤◌, ◌<◌, min}
use mathlib.Core.Path.{◌≡◌, refl, sym, ap, ◌∙◌}
use mathlib.Core.Bool.{true, false}
use mathlib.Core.Logic.{◌≢◌}
use mathlib.Core.List.{List}
use native.Mathlib.Omega.{arith}
use lib.Dec.{eqb}
use lib.ListN.{length, get_or, set}
use borrow.Author.Tests.{lt-ltb}
use Rattle.matroid.specs.Set.{one, size}
use Rattle.matroid.proofs.Carrying.{move_size}
use Rattle.matroid.proofs.Shortfalls.{shortfall_raise, shortfall_lower, shortfall_keep, shortfall_falls}
use Rattle.holding.specs.declared.Holding.{Holding}
use Rattle.holding.specs.declared.Moves.{Moves}
use Rattle.holding.specs.Count.{size_in, Right}
use Rattle.holding.specs.Give.{holder_of, is_instrument, is_team, with_owner}
use Rattle.holding.specs.Chain.{item_at, team_of, moved}
use Rattle.holding.proofs.Tests.{team_below, team_n}
use Rattle.holding.proofs.Counting.{counted_right, moved_size, size_at_lem, give_size, give_others, return_size, return_others}
use Rattle.holding.proofs.Applies.{stays}
use Rattle.holding.proofs.Carried.{moved_long}

-- a team is below both bounds
team_low : (h : Holding) (t : ℕ) → is_team h t ≡ true → t < min h.n 12
team_low h t team = let a = team_n h t team in let b = team_below h t team in omega arith

-- a number below both bounds is a team
low_team : (h : Holding) (t : ℕ) → t < min h.n 12 → is_team h t ≡ true
unfolding is_team
low_team h t l = rw (lt-ltb t h.n (omega arith), lt-ltb t 12 (omega arith)) refl

module _ (h : Holding) (right : Right h) (owner : List ℕ) where
  abbrev r : Holding
  r = with_owner h owner

  -- the size of a team that a fresh count has
  counted_size : (t : ℕ) → is_team h t ≡ true → get_or r.sizes t 0 ≡ size_in h.m owner t
  unfolding is_team
  counted_size t team = size_at_lem r (counted_right h.m h.n owner h.shares) t team

  -- The shortfall falls by exactly one where a short team has one more, a team above its share one fewer, and no other another size.
  pub falls_by_one : (i j : ℕ) → is_team h i ≡ true → is_team h j ≡ true → ((t : ℕ) → is_team h t ≡ true → t ≢ i → t ≢ j → get_or r.sizes t 0 ≡ get_or h.sizes t 0)
      → get_or r.sizes i 0 ≡ get_or h.sizes i 0 + 1 → get_or r.sizes j 0 + 1 ≡ get_or h.sizes j 0 → get_or h.sizes i 0 < get_or h.shares i 0 → get_or h.shares j 0 < get_or h.sizes j 0
      → h.shortfall ≡ r.shortfall + 1
  falls_by_one i j team-i team-j same up down short above =
      let i-now = counted_size i team-i in
      let j-now = counted_size j team-j in
      let i-was = size_at_lem h right i team-i in
      let j-was = size_at_lem h right j team-j in
      right.shortfall ∙ shortfall_falls (min h.n 12) (λ t. get_or h.shares t 0) (size_in h.m h.owner) (size_in h.m owner) i j (team_low h i team-i) (team_low h j team-j)
      (λ t l a b. let team = low_team h t l in sym (size_at_lem h right t team) ∙ sym (same t team a b) ∙ counted_size t team)
      (omega arith) (omega arith) (omega arith) (omega arith)

-- A give that is carried out: team t has one more, no other team another size, and the shortfall falls by one where t was short.
module _ (h : Holding) (right : Right h) (long : length h.owner ≡ 64) (g : ℕ) (instrument : is_instrument h g ≡ true) (t : ℕ) (team : is_team h t ≡ true) (loose : is_team h (holder_of h g) ≡ false) where
  abbrev given : Holding
  given = with_owner h (set h.owner g t)

  pub gave_one : get_or given.sizes t 0 ≡ get_or h.sizes t 0 + 1
  gave_one = counted_size h right (set h.owner g t) t team ∙ give_size h right long g instrument t team loose ∙ ap (λ (x : ℕ). x + 1) (sym (size_at_lem h right t team))

  pub gave_others : (u : ℕ) → is_team h u ≡ true → u ≢ t → get_or given.sizes u 0 ≡ get_or h.sizes u 0
  gave_others u team-u d = counted_size h right (set h.owner g t) u team-u ∙ sym (give_others h right long g instrument t team loose u (team_low h u team-u) d) ∙ sym (size_at_lem h right u team-u)

  pub gave_short : get_or h.sizes t 0 < get_or h.shares t 0 → h.shortfall ≡ given.shortfall + 1
  gave_short l =
      let is = size_at_lem h right t team in
      right.shortfall ∙ shortfall_raise (min h.n 12) (λ u. get_or h.shares u 0) (size_in h.m h.owner) (size_in h.m (set h.owner g t)) t (team_low h t team) (give_others h right long g instrument t team loose)
      (give_size h right long g instrument t team loose) (omega arith)

  pub gave_enough : get_or h.shares t 0 ≤ get_or h.sizes t 0 → given.shortfall ≡ h.shortfall
  gave_enough l =
      let is = size_at_lem h right t team in
      let more = give_size h right long g instrument t team loose in
      sym (right.shortfall ∙ shortfall_keep (min h.n 12) (λ u. get_or h.shares u 0) (size_in h.m h.owner) (size_in h.m (set h.owner g t)) t (team_low h t team) (give_others h right long g instrument t team loose)
      (omega arith) (omega arith))

-- A return that is carried out: team j has one fewer, no other team another size, and the shortfall rises by one where j is short then.
module _ (h : Holding) (right : Right h) (long : length h.owner ≡ 64) (g : ℕ) (instrument : is_instrument h g ≡ true) (j : ℕ) (team : is_team h j ≡ true) (holds : holder_of h g ≡ j) where
  abbrev pooled : Holding
  pooled = with_owner h (set h.owner g 255)

  pub returned_one : get_or pooled.sizes j 0 + 1 ≡ get_or h.sizes j 0
  returned_one = ap (λ (x : ℕ). x + 1) (counted_size h right (set h.owner g 255) j team) ∙ return_size h right long g instrument j team holds ∙ sym (size_at_lem h right j team)

  pub returned_others : (u : ℕ) → is_team h u ≡ true → u ≢ j → get_or pooled.sizes u 0 ≡ get_or h.sizes u 0
  returned_others u team-u d = counted_size h right (set h.owner g 255) u team-u ∙ sym (return_others h right long g instrument j team holds u (team_low h u team-u) d) ∙ sym (size_at_lem h right u team-u)

  pub returned_short : get_or h.sizes j 0 ≤ get_or h.shares j 0 → pooled.shortfall ≡ h.shortfall + 1
  returned_short l =
      let is = size_at_lem h right j team in
      let rises = shortfall_lower (min h.n 12) (λ u. get_or h.shares u 0) (size_in h.m h.owner) (size_in h.m (set h.owner g 255)) j (team_low h j team) (return_others h right long g instrument j team holds)
      (return_size h right long g instrument j team holds) (omega arith) in
      rises ∙ ap (λ (x : ℕ). x + 1) (sym right.shortfall)

  pub returned_enough : get_or h.shares j 0 < get_or h.sizes j 0 → pooled.shortfall ≡ h.shortfall
  returned_enough l =
      let is = size_at_lem h right j team in
      let less = return_size h right long g instrument j team holds in
      sym (right.shortfall ∙ shortfall_keep (min h.n 12) (λ u. get_or h.shares u 0) (size_in h.m h.owner) (size_in h.m (set h.owner g 255)) j (team_low h j team) (return_others h right long g instrument j team holds)
      (omega arith) (omega arith))

-- The moves of a chain, of instruments that are moved once.
module _ (m : ℕ) (owner : List ℕ) (long : length owner ≡ 64) (moves : Moves) (low : (k : ℕ) → k < moves.count → item_at moves k < min m 64)
    (once : (j k : ℕ) → j < k → k < moves.count → item_at moves j ≢ item_at moves k) (t : ℕ) where
  -- the instrument of a move is with its first holder until then
  kept : (k : ℕ) → k < moves.count → get_or (moved owner moves k) (item_at moves k) 255 ≡ get_or owner (item_at moves k) 255
  kept k l = stays owner moves (item_at moves k) k (λ j s. once j k s l)

  -- one move: who gets the instrument has one more, and who held it one fewer
  pub hop_size : (k : ℕ) → k < moves.count → size_in m (moved owner moves (suc k)) t + one (eqb (get_or owner (item_at moves k) 255) t) ≡ size_in m (moved owner moves k) t + one (eqb (team_of moves k) t)
  unfolding moved size_in
  hop_size k l =
      let here = low k l in
      let wide = moved_long owner moves k in
      let is = moved_size m (moved owner moves k) (item_at moves k) (team_of moves k) t (omega arith) in
      let was = ap (λ (x : ℕ). one (eqb x t)) (kept k l) in
      let hop = move_size (min m 64) (λ g. get_or (moved owner moves k) g 255) (item_at moves k) (team_of moves k) t here in
      omega arith

  -- all of them
  pub chain_size : (k : ℕ) → k ≤ moves.count → size_in m (moved owner moves k) t + size k (λ j. eqb (get_or owner (item_at moves j) 255) t) ≡ size_in m owner t + size k (λ j. eqb (team_of moves j) t)
  unfolding moved
  chain_size zero l = refl
  chain_size (suc k) l =
      let rest = chain_size k (omega arith) in
      let hop = hop_size k (omega arith) in
      omega arith
