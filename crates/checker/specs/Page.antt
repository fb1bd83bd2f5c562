-- Page (document 01): "For a team below n and a sheet that Check accepts, the stretch of the sheet from its SHARE to its last PART is handed
-- back ... In every other case it is the empty stretch."
use Rattle.std.specs.Prelude.{ℕ, ◌+◌, ◌-◌, Bool, ◌&&◌, cond, is_ok, List, ltb, take, drop}
use Rattle.plan.specs.declared.Reading.{Reading}
use Rattle.plan.specs.Read.{read_plan}
use Rattle.sheet.specs.Layout.{share_start, page_length}
use Rattle.checker.specs.declared.Stretch.{Stretch}
use Rattle.checker.specs.Verdict.{Verdict}
use Rattle.checker.specs.Check.{verdict_of}

abbrev pub accepts : Verdict → Bool
accepts v = is_ok v

-- "from its SHARE to its last PART"
abbrev pub from_share : (m t : ℕ) → Stretch
from_share m t = record { start = share_start m t; end = share_start m t + page_length m }

abbrev pub empty_stretch : Stretch
empty_stretch = record { start = 0; end = 0 }

-- where the page stands, by the reading of a plan
unfoldable pub stretch_by : Reading → List ℕ → ℕ → Stretch
stretch_by r sheet t = cond (ltb t r.n && accepts (verdict_of r sheet)) (from_share r.m t) empty_stretch

abbrev pub stretch_of : (plan sheet : List ℕ) → (team : ℕ) → Stretch
stretch_of plan sheet team = stretch_by (read_plan plan) sheet team

-- "the stretch of the sheet ... is handed back"
abbrev pub bytes_of : List ℕ → Stretch → List ℕ
bytes_of sheet s = take (s.end - s.start) (drop s.start sheet)

abbrev pub page_of : (plan sheet : List ℕ) → (team : ℕ) → List ℕ
page_of plan sheet team = bytes_of sheet (stretch_of plan sheet team)
