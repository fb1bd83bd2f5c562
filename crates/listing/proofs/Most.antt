-- How long the texts are at most: the listing of an accepted sheet has 512 bytes, and the line of a refusal 50.
use Prim.Native.Nat.{ℕ, zero, suc, ◌+◌, ◌*◌, ◌/◌, ◌%◌, ◌≤◌, ◌<◌}
use mathlib.Core.Path.{◌≡◌, refl, sym}
use mathlib.Core.Bool.{Bool, true, false, ◌||◌, cond}
use mathlib.Core.List.{List, [], ◌∷◌, ◌++◌}
use native.Mathlib.Omega.{arith}
use lib.Dec.{ltb, ltb→lt}
use lib.ListN.{length, length-append}
use borrow.Author.Tests.{lt-ltb}
use Rattle.matroid.specs.Set.{Set, complement, one, size, Within}
use Rattle.matroid.specs.SetLaws.{ne→eqb, size_union}
use Rattle.matroid.specs.Sum.{sum}
use Rattle.matroid.specs.Division.{bundle, held}
use Rattle.matroid.specs.Cuts.{each}
use Rattle.matroid.proofs.Sets.{size_le}
use Rattle.plan.specs.declared.Reading.{Reading}
use Rattle.plan.specs.Read.{read_plan}
use Rattle.plan.proofs.Bounds.{bounded}
use Rattle.sheet.specs.Fields.{total_at, holder_at, share_at}
use Rattle.checker.specs.Verdict.{Accepted}
use Rattle.checker.specs.Check.{check_sheet}
use Rattle.checker.specs.Stated.{Stated}
use Rattle.checker.proofs.Acceptance.{stated, given_sum}
use Rattle.listing.specs.Text.{digits, decimal, space, line_feed, field, total_word, team_word, share_word, holds_word, pool_word, refused_word}
use Rattle.listing.specs.Listing.{instrument, instruments, holdings, team_line, listing, listing_by, refusal_line}
use Rattle.listing.proofs.Spelling.{digits_length}

-- ---- numbers

-- a number below 10 has one digit
one_digit : (k n : ℕ) → n < 10 → length (digits (suc k) n) ≡ 1
unfolding digits
one_digit k n h = rw (lt-ltb n 10 h) refl

-- and one below 100 at most two
two_digits : (k n : ℕ) → n < 100 → length (digits (suc (suc k)) n) ≤ 2
unfolding digits
two_digits k n h = go (ltb n 10) (one_digit k (n / 10) (omega arith))
  where
    go : (b : Bool) → length (digits (suc k) (n / 10)) ≡ 1 → length (cond b [] (digits (suc k) (n / 10)) ++ ((48 + n % 10) ∷ [])) ≤ 2
    go true e = omega arith
    go false e = let l = length-append (digits (suc k) (n / 10)) ((48 + n % 10) ∷ []) in omega arith

-- a word and a number
field_length : (word : List ℕ) (n : ℕ) → length (field word n) ≡ length word + length (decimal n)
unfolding field
field_length word n = length-append word (decimal n)

-- a word and a number below 100
field_short : (word : List ℕ) (n : ℕ) → n < 100 → length (field word n) ≤ length word + 2
field_short word n h = let e = field_length word n in let l = two_digits 18 n h in omega arith

-- a word and any number
field_most : (word : List ℕ) (n : ℕ) → length (field word n) ≤ length word + 20
field_most word n = let e = field_length word n in let l = digits_length 20 n in omega arith

-- ---- lines

-- texts of at most a + 3 × s t bytes each, one after the other
each_most : (a n : ℕ) (f : ℕ → List ℕ) (s : ℕ → ℕ) → ((t : ℕ) → t < n → length (f t) ≤ a + 3 * s t) → length (each n f) ≤ a * n + 3 * sum n s
each_most a zero f s h = omega arith
each_most a (suc n) f s h =
    let below = each_most a n f s (λ t l. h t (omega arith)) in
    let here = h n (omega arith) in
    let e = length-append (each n f) (f n) in
    omega arith

-- the members of a set, counted one by one
size_sum : (m : ℕ) (A : Set) → sum m (λ g. one (A g)) ≡ size m A
size_sum zero A = refl
size_sum (suc m) A = let below = size_sum m A in omega arith

-- an instrument of t has at most 3 bytes, and any other none
instrument_short : (D : ℕ → ℕ) (t g : ℕ) → g < 100 → length (instrument D t g) ≤ 3 * one (bundle D t g)
unfolding instrument
instrument_short D t g h = go (bundle D t g) (field_short space g h)
  where
    go : (b : Bool) → length (field space g) ≤ 3 → length (cond b (field space g) []) ≤ 3 * one b
    go true l = omega arith
    go false l = omega arith

-- the instruments of t
instruments_short : (m : ℕ) (D : ℕ → ℕ) (t : ℕ) → m ≤ 64 → length (instruments m D t) ≤ 3 * size m (bundle D t)
instruments_short m D t h =
    let l = each_most 0 m (instrument D t) (λ g. one (bundle D t g)) (λ g b. let i = instrument_short D t g (omega arith) in omega arith) in
    let e = size_sum m (bundle D t) in
    omega arith

-- the end of a line
holdings_short : (word : List ℕ) (m : ℕ) (D : ℕ → ℕ) (t : ℕ) → m ≤ 64 → length (holdings word m D t) ≤ length word + 3 * size m (bundle D t) + 1
unfolding holdings
holdings_short word m D t h =
    let l = instruments_short m D t h in
    let e = length-append word (instruments m D t ++ line_feed) in
    let f = length-append (instruments m D t) line_feed in
    omega arith

-- the line of a team
team_short : (m : ℕ) (sheet : List ℕ) (t : ℕ) → m ≤ 64 → t < 12 → share_at m sheet t < 100 → length (team_line m sheet t) ≤ 23 + 3 * size m (bundle (holder_at sheet) t)
unfolding team_line
team_short m sheet t h few small =
    let team = field_short team_word t (omega arith) in
    let share = field_short share_word (share_at m sheet t) small in
    let holds = holdings_short holds_word m (holder_at sheet) t h in
    let e = length-append (field team_word t) (field share_word (share_at m sheet t) ++ holdings holds_word m (holder_at sheet) t) in
    let f = length-append (field share_word (share_at m sheet t)) (holdings holds_word m (holder_at sheet) t) in
    omega arith

-- ---- the whole text

-- what teams hold is not in the pool
pool_apart : {m : ℕ} (n : ℕ) (D : ℕ → ℕ) → n ≤ 255 → Within m (held n D) (complement (bundle D 255))
pool_apart n D few = record { at = λ k l h. omega (arith, ltb→lt, ne→eqb) }

-- so that there are at most m of both
pool_fits : (m n : ℕ) (D : ℕ → ℕ) → n ≤ 255 → size m (held n D) + size m (bundle D 255) ≤ m
pool_fits m n D few =
    let e = size_union m (held n D) (bundle D 255) (pool_apart n D few) in
    let l = size_le m (λ g. held n D g || bundle D 255 g) in
    omega arith

-- the lines of the teams
teams_short : (r : Reading) (sheet : List ℕ) → Stated r sheet → r.m ≤ 64 → r.n ≤ 12 → length (each r.n (team_line r.m sheet)) ≤ 23 * r.n + 3 * size r.m (held r.n (holder_at sheet))
teams_short r sheet s small few =
    let l = each_most 23 r.n (team_line r.m sheet) (λ t. size r.m (bundle (holder_at sheet) t)) line in
    let e = given_sum r sheet s in
    omega arith
  where
    line : (t : ℕ) → t < r.n → length (team_line r.m sheet t) ≤ 23 + 3 * size r.m (bundle (holder_at sheet) t)
    line t b =
        let share = s.enough t b in
        let size = size_le r.m (bundle (holder_at sheet) t) in
        team_short r.m sheet t small (omega arith) (omega arith)

-- the listing of a sheet of which the facts hold
listing_short : (r : Reading) (sheet : List ℕ) → Stated r sheet → r.m ≤ 64 → r.n ≤ 12 → length (listing r.m r.n sheet) ≤ 512
unfolding listing
listing_short r sheet s small few =
    let D = holder_at sheet in
    let both = pool_fits r.m r.n D (omega arith) in
    let given = s.given in
    let total = field_short total_word (total_at sheet) (omega arith) in
    let teams = teams_short r sheet s small few in
    let pool = holdings_short pool_word r.m D 255 small in
    let e = length-append (field total_word (total_at sheet)) (line_feed ++ (each r.n (team_line r.m sheet) ++ holdings pool_word r.m D 255)) in
    let f = length-append (each r.n (team_line r.m sheet)) (holdings pool_word r.m D 255) in
    omega arith

-- the listing of a sheet that Check accepts
pub listing_most : (plan sheet : List ℕ) → check_sheet plan sheet ≡ Accepted → length (listing_by (read_plan plan) sheet) ≤ 512
listing_most plan sheet e =
    let s = stated (read_plan plan) sheet (sym e) in
    let valid = (bounded plan).valid s.read in
    listing_short (read_plan plan) sheet s valid.small valid.few

-- the line of a refusal
pub line_most : (number place : ℕ) → length (refusal_line number place) ≤ 50
unfolding refusal_line
line_most number place =
    let n = field_most refused_word number in
    let p = field_most space place in
    let e = length-append (field refused_word number) (field space place ++ line_feed) in
    let f = length-append (field space place) line_feed in
    omega arith
