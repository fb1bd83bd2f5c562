-- The loop of `all_stand`: whether the glued instruments of a team stand, by the table of rows.
use Prim.Native.Nat.{ℕ, ◌+◌, ◌-◌, ◌≤◌, ◌<◌}
use mathlib.Core.Path.{◌≡◌, refl, sym, ap, ap₂, ◌∙◌}
use mathlib.Core.Bool.{Bool, true, false, cond}
use mathlib.Core.List.{List, []}
use native.Mathlib.Omega.{arith}
use lib.Dec.{ltb}
use lib.ListN.{length, get_or, take, drop}
use borrow.Author.Tests.{lt-ltb}
use Rattle.matroid.specs.Decide.{is_yes}
use Rattle.matroid.specs.Set.{size}
use Rattle.sets.specs.Bits.{bit, word}
use Rattle.team.specs.declared.Team.{Team}
use Rattle.team.specs.Team.{blank_team}
use Rattle.days.specs.declared.Days.{Days}
use Rattle.days.specs.Days.{always, usable_on}
use Rattle.row.specs.Days.{days_of}
use Rattle.plan.specs.declared.Reading.{Reading}
use Rattle.plan.specs.Read.{shelf_days, accepted}
use Rattle.judge.specs.Fault.{named}
use Rattle.plan.specs.Teams.{usable, entries, glued_to, before_glue, team_before, all_stand}
use Rattle.plan.specs.Progress.{row_at, rows_in}
use Rattle.sets.proofs.Each.{each_at}
use Rattle.plan.proofs.Run.{row_first, row_last, team_row, days_row}
use Rattle.plan.proofs.Rows.{marks_lent}
use Rattle.plan.proofs.Gluing.{yes_word, none_fall}

-- the answer of accepting n teams and m instruments, which does not depend on the classes that are capped
abbrev pub reading_of : (m n : ℕ) → List ℕ → Reading
reading_of m n rows = accepted (record { m = m; n = n; capped = [] }) (rows_in rows n)

module _ (rows : List ℕ) (m n t : ℕ) (few : n ≤ 12) (l : t < n) where
  abbrev r : Reading
  r = reading_of m n rows

  is_team_lem : get_or r.teams t blank_team ≡ row_at rows (t + 1)
  is_team_lem = each_at (λ t. get_or (rows_in rows n) (t + 1) blank_team) blank_team 12 t (omega arith) ∙ team_row rows n t (omega arith) ∙ ap (λ (b : Bool). cond b (row_at rows (t + 1)) blank_team) (lt-ltb t n l)

  is_days : get_or r.days t always ≡ days_of (row_at rows (t + 1))
  is_days = each_at (λ t. days_of (get_or (rows_in rows n) (t + 1) blank_team)) always 12 t (omega arith) ∙ days_row rows n t (omega arith) ∙ ap (λ (b : Bool). cond b (days_of (row_at rows (t + 1))) always) (lt-ltb t n l)

  is_shelf : r.shelf ≡ shelf_days m (row_at rows 0)
  is_shelf = ap (shelf_days m) (row_first rows n 0 (omega arith) (omega arith))

  is_glue : r.glue ≡ (row_at rows 13).named
  is_glue = ap (λ (x : Team). x.named) (row_last rows n 13 few refl)

  -- as the code has it, by the team, its days, the shelf, the teams of the glued instruments and the words
  pub stands_row : (team : Team) (own : Days) (shelf : List Days) (glue : List ℕ) (usable glued : ℕ) (b : Bool) → team ≡ row_at rows (t + 1) → own ≡ days_of (row_at rows (t + 1)) → shelf ≡ shelf_days m (row_at rows 0)
      → glue ≡ (row_at rows 13).named → usable ≡ word m (usable_on shelf own) → glued ≡ word m (entries glue (t + 1)) → b ≡ is_yes ((before_glue m team usable).decide (bit glued)) → b ≡ is_yes ((team_before r t).decide (glued_to r t))
  stands_row team own shelf glue usable glued b e-team e-own e-shelf e-glue e-usable e-glued is =
      let f = e-team ∙ sym is_team_lem in
      let u = e-usable ∙ ap₂ (λ (x : List Days) (y : Days). word m (usable_on x y)) (e-shelf ∙ sym is_shelf) (e-own ∙ sym is_days) in
      let g = e-glued ∙ ap (λ (x : List ℕ). word m (entries x (t + 1))) (e-glue ∙ sym is_glue) in
      (rw (f, u, g) at is) ∙ yes_word (team_before r t) (glued_to r t)

-- where no instrument is glued, by the part of the table that is lent, those of every team stand
pub free_stands : (rows : List ℕ) (m n : ℕ) → length rows ≡ 4802 → n ≤ 12 → m ≤ 64 → (b : Bool) → b ≡ ltb 0 (size 64 (named (take (4541 - 4477) (drop 4477 rows)))) → b ≡ false → all_stand (reading_of m n rows) ≡ true
free_stands rows m n long few small b is free =
    none_fall (reading_of m n rows) small few (ap (λ (x : List ℕ). ltb 0 (size 64 (named x))) (ap (λ (x : Team). x.named) (row_last rows n 13 few refl) ∙ sym (marks_lent rows long)) ∙ sym is ∙ free)
