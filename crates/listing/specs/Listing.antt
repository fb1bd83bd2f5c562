-- The weekly listing (document 01): "Fields: total; team number, its share, its instruments rising; the instruments in the pool. Each line ends
-- with a line feed; an empty list ends after its word."
use Rattle.std.specs.Prelude.{ℕ, cond, List, [], ◌++◌}
use Rattle.matroid.specs.Division.{bundle}
use Rattle.matroid.specs.Cuts.{each}
use Rattle.plan.specs.declared.Reading.{Reading}
use Rattle.sheet.specs.Fields.{total_at, holder_at, share_at}
use Rattle.listing.specs.Text.{space, line_feed, field, total_word, team_word, share_word, holds_word, pool_word, refused_word}

-- an instrument that a division gives to t, after a space; nothing of any other
unfoldable pub instrument : (ℕ → ℕ) → (t g : ℕ) → List ℕ
instrument D t g = cond (bundle D t g) (field space g) []

-- the instruments below m that a division gives to t, rising
abbrev pub instruments : (m : ℕ) → (ℕ → ℕ) → (t : ℕ) → List ℕ
instruments m D t = each m (instrument D t)

-- the end of a line: a word, the instruments of t, and a line feed
unfoldable pub holdings : (word : List ℕ) → (m : ℕ) → (ℕ → ℕ) → (t : ℕ) → List ℕ
holdings word m D t = word ++ (instruments m D t ++ line_feed)

-- `TEAM 0 SHARE 1 HOLDS 0`
unfoldable pub team_line : (m : ℕ) → (sheet : List ℕ) → (t : ℕ) → List ℕ
team_line m sheet t = field team_word t ++ (field share_word (share_at m sheet t) ++ holdings holds_word m (holder_at sheet) t)

-- the listing of a sheet of m instruments and n teams: `TOTAL 2`, the lines of the teams, `POOL`; a GIVE to FF leaves an instrument in the pool
unfoldable pub listing : (m n : ℕ) → (sheet : List ℕ) → List ℕ
listing m n sheet = field total_word (total_at sheet) ++ (line_feed ++ (each n (team_line m sheet) ++ holdings pool_word m (holder_at sheet) 255))

-- the listing of a sheet, by the reading of its plan
abbrev pub listing_by : Reading → (sheet : List ℕ) → List ℕ
listing_by r sheet = listing r.m r.n sheet

-- "A refused plan prints `REFUSED`, number and place, on one line, with single spaces."
unfoldable pub refusal_line : (number place : ℕ) → List ℕ
refusal_line number place = field refused_word number ++ (field space place ++ line_feed)
