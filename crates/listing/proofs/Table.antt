-- The listing of plan A in document 01, from the definition, and a refusal's line.
use Prim.Native.Nat.{ℕ}
use mathlib.Core.Path.{◌≡◌, refl}
use mathlib.Core.List.{List, [], ◌∷◌}
use Rattle.sheet.specs.Layout.{share_start}
use Rattle.listing.specs.Text.{digits, field}
use Rattle.listing.specs.Listing.{instrument, holdings, team_line, listing, refusal_line}

-- a sheet of plan A that Check accepts
abbrev pub sheet : List ℕ
sheet = 17 ∷ 2 ∷ 2 ∷ 2 ∷ 18 ∷ 0 ∷ 0 ∷ 18 ∷ 1 ∷ 1 ∷ 19 ∷ 3 ∷ 0 ∷ 0 ∷ 0 ∷ 0 ∷ 0 ∷ 0 ∷ 0 ∷ 20 ∷ 0 ∷ 1 ∷ 3 ∷ 0 ∷ 0 ∷ 0 ∷ 0 ∷ 0 ∷ 0 ∷ 0 ∷ 21 ∷ 0 ∷ 0 ∷ 21 ∷ 1 ∷ 1 ∷ 20 ∷ 1 ∷ 0 ∷ 1 ∷ 0 ∷ 0 ∷ 0 ∷ 0 ∷ 0 ∷ 0 ∷ 0 ∷ 21 ∷ 0 ∷ 0 ∷ 21 ∷ 1 ∷ 0 ∷ 22 ∷ []

-- `TOTAL 2`, `TEAM 0 SHARE 1 HOLDS 0`, `TEAM 1 SHARE 0 HOLDS 1` and `POOL`, each with a line feed
abbrev pub text : List ℕ
text = 84 ∷ 79 ∷ 84 ∷ 65 ∷ 76 ∷ 32 ∷ 50 ∷ 10 ∷ 84 ∷ 69 ∷ 65 ∷ 77 ∷ 32 ∷ 48 ∷ 32 ∷ 83 ∷ 72 ∷ 65 ∷ 82 ∷ 69 ∷ 32 ∷ 49 ∷ 32 ∷ 72 ∷ 79 ∷ 76 ∷ 68 ∷ 83 ∷ 32 ∷ 48 ∷ 10 ∷ 84 ∷ 69 ∷ 65 ∷ 77 ∷ 32 ∷ 49 ∷ 32 ∷ 83 ∷ 72 ∷ 65 ∷ 82 ∷ 69 ∷ 32 ∷ 48 ∷ 32 ∷ 72 ∷ 79 ∷ 76 ∷ 68 ∷ 83 ∷ 32 ∷ 49 ∷ 10 ∷ 80 ∷ 79 ∷ 79 ∷ 76 ∷ 10 ∷ []

pub plan_A_listing : listing 2 2 sheet ≡ text
unfolding digits field instrument holdings team_line listing share_start
plan_A_listing = refl

-- `REFUSED 9 22`: plan A with a 00 added
pub plan_A_refused : refusal_line 9 22 ≡ 82 ∷ 69 ∷ 70 ∷ 85 ∷ 83 ∷ 69 ∷ 68 ∷ 32 ∷ 57 ∷ 32 ∷ 50 ∷ 50 ∷ 10 ∷ []
unfolding digits field refusal_line
plan_A_refused = refl
