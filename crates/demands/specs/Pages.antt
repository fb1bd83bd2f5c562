-- Page (document 01): "For a team below n and a sheet that Check accepts, the stretch of the sheet from its SHARE to its last PART is handed
-- back; for m = 0 that is the SHARE alone. In every other case it is the empty stretch."
use Rattle.std.specs.Prelude.{ℕ, ◌+◌, ◌*◌, ◌≤◌, ◌<◌, ◌≡◌, List, [], take, drop}
use Rattle.plan.specs.Read.{read_plan}
use Rattle.sheet.specs.Layout.{share_start}
use Rattle.checker.specs.Stated.{Stated}

-- acceptance is that the rules hold: `Stated`
pub record Pages (plan sheet : List ℕ) (t : ℕ) (page : List ℕ) : Type 0 where
  pub given : t < (read_plan plan).n → Stated (read_plan plan) sheet → page ≡ take (11 + 3 * (read_plan plan).m) (drop (share_start (read_plan plan).m t) sheet)
  pub absent : (read_plan plan).n ≤ t → page ≡ []
  pub refused : (Stated (read_plan plan) sheet → ⊥) → page ≡ []
