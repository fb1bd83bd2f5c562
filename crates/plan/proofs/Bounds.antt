-- The theorems about readings: how long an accepted file is, where refusals stand, what an accepted reading holds, and that the first 8,192
-- bytes of a file decide its reading.
use Prim.Native.Nat.{ℕ, zero, suc, ◌+◌, ◌≤◌, ◌<◌}
use mathlib.Core.Path.{◌≡◌, refl, sym, ap, ◌∙◌, subst}
use mathlib.Core.Bool.{Bool, true, false, cond, false≢true}
use mathlib.Core.Logic.{◌≢◌}
use mathlib.Core.List.{List}
use native.Mathlib.Omega.{arith}
use native.Mathlib.Decide.{dec_le, ℕ_discrete}
use lib.Dec.{eqb, ltb}
use lib.ListN.{length, get_or, take, replicate, length-take}
use lib.Seq.{take_all, get_or-take}
use borrow.Author.Tests.{eqb-false, lt-leb, le-leb, lt-ltb}
use Rattle.command.specs.declared.Command.{Command}
use Rattle.command.specs.declared.Command.TheVariants.{Missing, Unknown, Short, Start, Caps, Loops, Mounts, Class, Put, Span, Fit, Shelf, Days, Glue, End}
use Rattle.plan.specs.declared.Reading.{Reading}
use Rattle.command.specs.declared.State.{State}
use Rattle.team.specs.declared.Team.{Team}
use Rattle.command.specs.Command.{width_of, command_by, command_at, bytes_of}
use Rattle.judge.specs.Fault.{fault, is_end}
use Rattle.carry.specs.Carry.{start, changed_state}
use Rattle.row.specs.Days.{days_of, shelf_of}
use Rattle.team.specs.Team.{blank_team}
use Rattle.days.specs.Days.{always}
use Rattle.plan.specs.Read.{refused, accepted, finished, read_from, read_plan}
use Rattle.plan.specs.Valid.{Valid}
use Rattle.plan.proofs.Kept.{Kept, kept_at, kept_start, kept_next}
use Rattle.command.proofs.Standing.{Whole}
use Rattle.judge.proofs.Standing.{whole}
use Rattle.sets.proofs.Each.{each_length, each_at}
use Rattle.plan.proofs.Steps.{worked_on, rows_after, number, step_refused, step_end, step_next, plan_start, plan_none, finished_by}

-- What holds of every refusal and of every end holds of every reading.
module _ (file : List ℕ) (P : Reading → Type 0)
    (at_fault : (at : ℕ) (s : State) (rows : List Team) → Kept at s rows → at ≤ length file → number file at s rows ≢ 0 → P (refused (number file at s rows) at))
    (at_end : (at : ℕ) (s : State) (rows : List Team) → Kept at s rows → at + bytes_of (command_at file at) ≤ length file → number file at s rows ≡ 0 → is_end (command_at file at) ≡ true → P (finished file at s rows)) where
  from : (fuel at : ℕ) (s : State) (rows : List Team) → Kept at s rows → at ≤ length file → length file < at + fuel → P (read_from fuel file at s rows)
  from zero at s rows k inside enough = absurd (omega arith)
  from (suc fuel) at s rows k inside enough = go (λ z. whole file at s (worked_on s rows (command_at file at)) z) (ℕ_discrete (number file at s rows) 0) (is_end (command_at file at)) refl
      (λ (z : number file at s rows ≡ 0) (e : is_end (command_at file at) ≡ false) (w : Whole file at (command_at file at)).
      let command = command_at file at in
      let some = w.some in
      from fuel (at + bytes_of command) (changed_state s command) (rows_after s rows command)
      (kept_next at s rows command k z e) w.fits (omega arith))
    where
      go : (number file at s rows ≡ 0 → Whole file at (command_at file at)) → Dec (number file at s rows ≡ 0) → (b : Bool) → is_end (command_at file at) ≡ b
          → (number file at s rows ≡ 0 → is_end (command_at file at) ≡ false → Whole file at (command_at file at)
          → P (read_from fuel file (at + bytes_of (command_at file at)) (changed_state s (command_at file at)) (rows_after s rows (command_at file at))))
          → P (read_from (suc fuel) file at s rows)
      go stands (no d) b e rest = rw (step_refused fuel file at s rows d) (at_fault at s rows k inside d)
      go stands (yes z) true e rest = rw (step_end fuel file at s rows z e) (at_end at s rows k (stands z).fits z e)
      go stands (yes z) false e rest = rw (step_next fuel file at s rows z e) (rest z e (stands z))

  -- so of every file that starts with a START byte, and of the refusal of any other
  pub all_readings : P (refused 1 0) → P (read_plan file)
  all_readings none = go (ℕ_discrete (get_or file 0 0) 1)
    where
      go : Dec (get_or file 0 0 ≡ 1) → P (read_plan file)
      go (yes e) = rw (plan_start file e) (from (suc (length file)) 0 start (replicate 14 blank_team) kept_start (omega arith) (omega arith))
      go (no d) = rw (plan_none file d) none

-- ---- the bounds

-- only END is an END
is_end_lem : (command : Command) → is_end command ≡ true → command ≡ End
is_end_lem Missing e = absurd (false≢true e)
is_end_lem Unknown e = absurd (false≢true e)
is_end_lem Short e = absurd (false≢true e)
is_end_lem (Start version m) e = absurd (false≢true e)
is_end_lem (Caps channels) e = absurd (false≢true e)
is_end_lem (Loops channels) e = absurd (false≢true e)
is_end_lem (Mounts channels) e = absurd (false≢true e)
is_end_lem (Class class most) e = absurd (false≢true e)
is_end_lem (Put instrument class) e = absurd (false≢true e)
is_end_lem (Span instrument a b) e = absurd (false≢true e)
is_end_lem (Fit instrument a b c d) e = absurd (false≢true e)
is_end_lem (Shelf instrument a b c d) e = absurd (false≢true e)
is_end_lem (Days a b c d) e = absurd (false≢true e)
is_end_lem (Glue instrument) e = absurd (false≢true e)
is_end_lem End e = refl

-- an END that breaks no rule has a team before it
end_some : (at : ℕ) (s : State) (team : Team) (command : Command) → is_end command ≡ true → fault at s team command ≡ 0 → 1 ≤ s.n
unfolding fault
end_some at s team command e z = go (eqb s.n 0) refl (subst (λ (c : Command). fault at s team c ≡ 0) (is_end_lem command e) z)
  where
    go : (b : Bool) → eqb s.n 0 ≡ b → ◌≡◌ {A = ℕ} (cond b 4 0) 0 → 1 ≤ s.n
    go true t z = absurd (omega arith)
    go false t z = let d = eqb-false s.n 0 t in omega arith

-- what is known of a reading
pub record Bounded (file : List ℕ) (r : Reading) : Type 0 where
  -- every refusal's place is at most 5,208
  pub place : r.place ≤ 5208
  -- an accepted file has at most 5,208 bytes
  pub short : r.refusal ≡ 0 → length file ≤ 5208
  -- and its reading is in order
  pub valid : r.refusal ≡ 0 → Valid r

-- what is accepted is in order
accepted_valid : {at : ℕ} (s : State) (rows : List Team) → Kept at s rows → 1 ≤ s.n → Valid (accepted s rows)
accepted_valid s rows k some = record {
  teams_long = each_length (λ t. get_or rows (t + 1) blank_team) 12;
  shelf_long = each_length (λ i. cond (ltb i s.m) (shelf_of (get_or rows 0 blank_team) i) always) 64;
  days_long = each_length (λ t. days_of (get_or rows (t + 1) blank_team)) 12;
  some = some;
  few = k.few;
  small = k.small;
  team = λ t l. let few = k.few in rw (each_at (λ t. get_or rows (t + 1) blank_team) blank_team 12 t (omega arith)) (k.kept t l);
}

pub bounded : (file : List ℕ) → Bounded file (read_plan file)
bounded file = all_readings file (Bounded file) at_fault at_end (record { place = omega arith; short = λ e. absurd (omega arith); valid = λ e. absurd (omega arith) })
  where
    refuses : (number at : ℕ) → number ≢ 0 → at ≤ 5208 → Bounded file (refused number at)
    refuses number at d l = record { place = l; short = λ e. absurd (d e); valid = λ e. absurd (d e) }

    at_fault : (at : ℕ) (s : State) (rows : List Team) → Kept at s rows → at ≤ length file → number file at s rows ≢ 0 → Bounded file (refused (number file at s rows) at)
    at_fault at s rows k inside d = let l = kept_at k in refuses (number file at s rows) at d (omega arith)

    at_end : (at : ℕ) (s : State) (rows : List Team) → Kept at s rows → at + bytes_of (command_at file at) ≤ length file → number file at s rows ≡ 0 → is_end (command_at file at) ≡ true → Bounded file (finished file at s rows)
    at_end at s rows k fits z e =
        let l = kept_at k in
        finished_by (Bounded file) file at s rows (refuses 18 at (omega arith) (omega arith)) (refuses 9 (at + 1) (omega arith) (omega arith))
        (λ _ h. record { place = omega arith; short = λ _. omega arith; valid = λ _. accepted_valid s rows k (end_some at s (worked_on s rows (command_at file at)) (command_at file at) e z) })

-- ---- a file's first bytes decide its reading

-- no command has more than 6 bytes
width_le : (byte : ℕ) → width_of byte ≤ 6
width_le zero = omega arith
width_le (suc zero) = omega arith
width_le (suc (suc zero)) = omega arith
width_le (suc (suc (suc zero))) = omega arith
width_le (suc (suc (suc (suc zero)))) = omega arith
width_le (suc (suc (suc (suc (suc zero))))) = omega arith
width_le (suc (suc (suc (suc (suc (suc zero)))))) = omega arith
width_le (suc (suc (suc (suc (suc (suc (suc zero))))))) = omega arith
width_le (suc (suc (suc (suc (suc (suc (suc (suc zero)))))))) = omega arith
width_le (suc (suc (suc (suc (suc (suc (suc (suc (suc zero))))))))) = omega arith
width_le (suc (suc (suc (suc (suc (suc (suc (suc (suc (suc zero)))))))))) = omega arith
width_le (suc (suc (suc (suc (suc (suc (suc (suc (suc (suc (suc zero))))))))))) = omega arith
width_le (suc (suc (suc (suc (suc (suc (suc (suc (suc (suc (suc (suc zero)))))))))))) = omega arith
width_le (suc (suc (suc (suc (suc (suc (suc (suc (suc (suc (suc (suc (suc k))))))))))))) = omega arith

-- a command whose six bytes are in a file, whatever follows them
abbrev six : List ℕ → ℕ → Command
six file at = let byte = get_or file at 0 in cond (eqb (width_of byte) 0) Unknown (command_by file at byte)

inside_six : (file : List ℕ) (at : ℕ) → at + 6 ≤ length file → command_at file at ≡ six file at
unfolding command_at
inside_six file at l =
    let w = width_le (get_or file at 0) in
    rw (lt-leb (length file) at (omega arith), le-leb (at + width_of (get_or file at 0)) (length file) (omega arith), command_at) refl

module _ (file : List ℕ) (w : ℕ) (enough : 5213 ≤ w) (long : w ≤ length file) where
  window : List ℕ
  window = take w file

  window_length : length window ≡ w
  unfolding window
  window_length = length-take w file ∙ (omega arith)

  -- the same command
  same_command : (at : ℕ) → at ≤ 5207 → command_at window at ≡ command_at file at
  unfolding window
  same_command at l =
      let e = window_length in
      inside_six (take w file) at (omega arith)
      ∙ rw (get_or-take w file at 0 (omega arith), get_or-take w file (at + 1) 0 (omega arith), get_or-take w file (at + 2) 0 (omega arith), get_or-take w file (at + 3) 0 (omega arith), get_or-take w file (at + 4) 0 (omega arith), get_or-take w file (at + 5) 0 (omega arith))
      (sym (inside_six file at (omega arith)))

  -- END is followed by more in either
  same_end : (at : ℕ) (s : State) (rows : List Team) → at ≤ 5207 → finished window at s rows ≡ finished file at s rows
  same_end at s rows l =
      let e = window_length in
      rw (lt-ltb (at + 1) (length window) (omega arith), lt-ltb (at + 1) (length file) (omega arith)) refl

  same_number : (at : ℕ) (s : State) (rows : List Team) → at ≤ 5207 → number window at s rows ≡ number file at s rows
  same_number at s rows l = ap (λ (command : Command). fault at s (worked_on s rows command) command) (same_command at l)

  same_from : (fuel fuel' at : ℕ) (s : State) (rows : List Team) → Kept at s rows → at ≤ w → w < at + fuel → length file < at + fuel'
      → read_from fuel window at s rows ≡ read_from fuel' file at s rows
  same_from zero fuel' at s rows k inside a b = absurd (omega arith)
  same_from (suc fuel) zero at s rows k inside a b = absurd (omega arith)
  same_from (suc fuel) (suc fuel') at s rows k inside a b =
      go (ℕ_discrete (number file at s rows) 0) (is_end (command_at file at)) refl
      (λ (z : number file at s rows ≡ 0) (e : is_end (command_at file at) ≡ false) (some : 0 < bytes_of (command_at file at)) (fits : at + bytes_of (command_at file at) ≤ w).
      let command = command_at file at in
      same_from fuel fuel' (at + bytes_of command) (changed_state s command) (rows_after s rows command)
      (kept_next at s rows command k z e) fits (omega arith) (omega arith))
    where
      l : at ≤ 5207
      l = kept_at k

      go : Dec (number file at s rows ≡ 0) → (b : Bool) → is_end (command_at file at) ≡ b
          → (number file at s rows ≡ 0 → is_end (command_at file at) ≡ false → 0 < bytes_of (command_at file at) → at + bytes_of (command_at file at) ≤ w
          → read_from fuel window (at + bytes_of (command_at file at)) (changed_state s (command_at file at)) (rows_after s rows (command_at file at))
          ≡ read_from fuel' file (at + bytes_of (command_at file at)) (changed_state s (command_at file at)) (rows_after s rows (command_at file at)))
          → read_from (suc fuel) window at s rows ≡ read_from (suc fuel') file at s rows
      go (no d) b e rest =
          step_refused fuel window at s rows (λ z. d (sym (same_number at s rows l) ∙ z))
          ∙ ap (λ (x : ℕ). refused x at) (same_number at s rows l)
          ∙ sym (step_refused fuel' file at s rows d)
      go (yes z) true e rest =
          step_end fuel window at s rows (same_number at s rows l ∙ z) (ap is_end (same_command at l) ∙ e)
          ∙ same_end at s rows l
          ∙ sym (step_end fuel' file at s rows z e)
      go (yes z) false e rest =
          let there = whole window at s (worked_on s rows (command_at window at)) (same_number at s rows l ∙ z) in
          let len = window_length in
          let same = ap bytes_of (same_command at l) in
          let fits = there.fits in
          let some = there.some in
          step_next fuel window at s rows (same_number at s rows l ∙ z) (ap is_end (same_command at l) ∙ e)
          ∙ rw (same_command at l) (rest z e (omega arith) (omega arith))
          ∙ sym (step_next fuel' file at s rows z e)

  -- the window is read as the file is
  same_reading : read_plan window ≡ read_plan file
  unfolding window
  same_reading = go (ℕ_discrete (get_or file 0 0) 1)
    where
      first : get_or window 0 0 ≡ get_or file 0 0
      first = get_or-take w file 0 0 (omega arith)

      go : Dec (get_or file 0 0 ≡ 1) → read_plan window ≡ read_plan file
      go (yes e) =
          let len = window_length in
          plan_start window (first ∙ e)
          ∙ same_from (suc (length window)) (suc (length file)) 0 start (replicate 14 blank_team) kept_start (omega arith) (omega arith) (omega arith)
          ∙ sym (plan_start file e)
      go (no d) = plan_none window (λ e. d (sym first ∙ e)) ∙ sym (plan_none file d)

-- reading the first 8,192 bytes of a file gives the same answer as reading all of it
pub first_bytes : (file : List ℕ) → read_plan (take 8192 file) ≡ read_plan file
unfolding window
first_bytes file = elim (dec_le 8192 (length file)) [ yes l ↦ same_reading file 8192 (omega arith) l | no d ↦ ap read_plan (take_all 8192 file (omega arith)) ]

-- the same of an answer of `read`
pub valid_reading : (file : List ℕ) (r : Reading) → r ≡ read_plan file → r.refusal ≡ 0 → Valid r
valid_reading file r e z = rw e ((bounded file).valid (rw e at z))
