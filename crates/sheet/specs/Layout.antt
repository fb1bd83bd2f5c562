-- Where the commands of a sheet stand (document 01, "The sheet"), for m instruments and n teams.
-- "Order: HEAD; m GIVEs by instrument; BOUND; then for each team by number its SHARE and m PARTs by instrument; END."
use Rattle.std.specs.Prelude.{ℕ, ◌+◌, ◌*◌}

-- "Length L = 14 + 11 × n + 3 × m × (n + 1)"
unfoldable pub length_of : (m n : ℕ) → ℕ
length_of m n = 14 + 11 * n + 3 * m * (n + 1)

-- HEAD has 4 bytes, a GIVE 3, BOUND 9, a SHARE 11, a PART 3 and END 1

-- the GIVE of instrument g, after HEAD
abbrev pub give_start : (g : ℕ) → ℕ
give_start g = 4 + 3 * g

-- BOUND, after the GIVEs
abbrev pub bound_start : (m : ℕ) → ℕ
bound_start m = 4 + 3 * m

-- the bytes of a team: its SHARE and its PARTs
abbrev pub page_length : (m : ℕ) → ℕ
page_length m = 11 + 3 * m

-- the SHARE of team t, after BOUND and the bytes of the teams before it
unfoldable pub share_start : (m t : ℕ) → ℕ
share_start m t = 4 + 3 * m + 9 + t * page_length m

-- the PART of instrument g, after the SHARE of team t and the PARTs before it
abbrev pub part_start : (m t g : ℕ) → ℕ
part_start m t g = share_start m t + 11 + 3 * g
