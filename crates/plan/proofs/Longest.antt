-- The longest accepted plan: the bound of 5,208 bytes is met.
use Prim.Native.Nat.{ℕ, zero, suc, ◌+◌, ◌-◌, ◌*◌, ◌≤◌, ◌<◌}
use mathlib.Core.Path.{◌≡◌, refl, sym, ap, ◌∙◌, subst⁻¹}
use mathlib.Core.Bool.{true, false, not, cond}
use mathlib.Core.Logic.{◌⊎◌, inl, inr, ⊎_elim, ◌≢◌}
use mathlib.Core.List.{List, [], ◌∷◌, ◌++◌}
use native.Mathlib.Omega.{arith}
use native.Mathlib.Decide.{dec_lt}
use lib.Dec.{T, eqb, ltb}
use lib.ListN.{length, get_or, drop, set, replicate, length-set, length-drop, get_or-replicate, get_or-append}
use lib.Seq.{get_or-set_same, get_or-drop, drop-drop, get_or-set_other, set-set, get_or-append-add}
use borrow.Author.Tests.{le-ltb, lt-ltb, lt-leb, le-leb, ne_eqb, eqb-true}
use Rattle.matroid.specs.Taut.{T→true}
use Rattle.matroid.proofs.Sets.{size_le}
use Rattle.sets.specs.Bits.{bit, word}
use Rattle.sets.proofs.Gathering.{bit_word}
use Rattle.kinds.proofs.Full.{Fitted, full_indep}
use Rattle.days.specs.Days.{always}
use Rattle.row.specs.Days.{days_of, shelf_of}
use Rattle.command.specs.declared.Command.{Command}
use Rattle.command.specs.declared.Command.TheVariants.{Start, Mounts, Fit, Shelf, Days, Glue}
use Rattle.plan.specs.declared.Reading.{Reading}
use Rattle.command.specs.declared.State.{State}
use Rattle.team.specs.declared.Team.{Team}
use Rattle.team.specs.Team.{mounts_kind, opened_team, blank_team}
use Rattle.command.specs.Command.{width_of, command_of, command_at, bytes_of}
use Rattle.judge.specs.Fault.{named, fault, is_end}
use Rattle.carry.specs.Carry.{named_team, start, open_team, changed_team, changed_state}
use Rattle.plan.specs.Read.{accepted, read_from, read_plan}
use Rattle.plan.specs.Teams.{usable, glued_to, team_before, all_stand}
use Rattle.sets.proofs.Each.{each_at}
use Rattle.plan.proofs.Gluing.{Stands, indep_yes, all_stand_lem}
use Rattle.plan.proofs.Tables.{named_none}
use Rattle.plan.proofs.Steps.{worked_on, rows_after, step_end, step_next, plan_start}

-- SHELFs of the instruments below k for all days, and then the rest of a plan
abbrev shelves : ℕ → List ℕ → List ℕ
shelves zero rest = rest
shelves (suc k) rest = 10 ∷ k ∷ 0 ∷ 0 ∷ 255 ∷ 255 ∷ shelves k rest

-- FITs of the instruments below k for every mount, and then the rest of a plan
abbrev fits : ℕ → List ℕ → List ℕ
fits zero rest = rest
fits (suc k) rest = 9 ∷ k ∷ 255 ∷ 255 ∷ 255 ∷ 255 ∷ fits k rest

-- DAYS for all days, and then the rest of a plan
abbrev dated : List ℕ → List ℕ
dated rest = 11 ∷ 0 ∷ 0 ∷ 255 ∷ 255 ∷ rest

-- GLUEs of k instruments from b on, and then the rest of a plan
abbrev glues : (b k : ℕ) → List ℕ → List ℕ
glues b zero rest = rest
glues b (suc k) rest = 12 ∷ (b + k) ∷ glues b k rest

-- a MOUNTS team with a FIT for each of 64 instruments and DAYS, and then the rest of a plan
abbrev mounts : List ℕ → List ℕ
mounts rest = 8 ∷ 64 ∷ fits 64 (dated rest)

-- so many of them
abbrev many_mounts : ℕ → List ℕ → List ℕ
many_mounts zero rest = rest
many_mounts (suc k) rest = mounts (many_mounts k rest)

-- 64 instruments that have a SHELF each, and twelve MOUNTS teams with DAYS in which each has a FIT; half of them are glued to the first team, and the
-- other half to the second
pub longest : List ℕ
longest = 1 ∷ 1 ∷ 64 ∷ shelves 64 (mounts (glues 0 32 (mounts (glues 32 32 (many_mounts 10 (7 ∷ []))))))

pub longest_length : length longest ≡ 5208
unfolding longest
longest_length = refl

-- ---- one command

-- what is left of a file from an offset on
module _ (file : List ℕ) (at : ℕ) (left : List ℕ) (is : drop at file ≡ left) where
  byte_left : (i : ℕ) → get_or file (at + i) 0 ≡ get_or left i 0
  byte_left i = sym (get_or-drop at file i 0) ∙ ap (λ (l : List ℕ). get_or l i 0) is

  length_left : length left ≡ length file - at
  length_left = sym (ap length is) ∙ length-drop at file

  -- the command there, where it stands whole
  command_left : (byte width : ℕ) → get_or left 0 0 ≡ byte → width_of byte ≡ width → 0 < width → width ≤ length left → command_at file at ≡ command_of byte (get_or left 1 0) (get_or left 2 0) (get_or left 3 0) (get_or left 4 0) (get_or left 5 0)
  unfolding command_at
  command_left byte width e w some room =
      let long = length_left in
      let here : get_or file at 0 ≡ byte = ap (λ (k : ℕ). get_or file k 0) (omega arith) ∙ byte_left 0 ∙ e in
      rw (here, w, lt-leb (length file) at (omega arith), ne_eqb width 0 (omega arith), le-leb (at + width) (length file) (omega arith), byte_left 1, byte_left 2, byte_left 3, byte_left 4, byte_left 5, command_at) refl

-- reading from an offset on refuses nothing
abbrev Accepts : ℕ → List ℕ → ℕ → State → List Team → Type 0
Accepts fuel file at s rows = (read_from fuel file at s rows).refusal ≡ 0

-- a command that breaks no rule and is not END is passed
passes : (fuel : ℕ) (file : List ℕ) (at : ℕ) (s : State) (rows : List Team) (command : Command) → command_at file at ≡ command → fault at s (worked_on s rows command) command ≡ 0 → is_end command ≡ false
    → Accepts fuel file (at + bytes_of command) (changed_state s command) (rows_after s rows command) → Accepts (suc fuel) file at s rows
passes fuel file at s rows command is z e rest =
    ap (λ (r : Reading). r.refusal) (step_next fuel file at s rows (rw is z) (rw is e)) ∙ rw is rest

-- what is left after it
left_next : (file : List ℕ) (at k : ℕ) {left : List ℕ} → drop at file ≡ left → drop (at + k) file ≡ drop k left
left_next file at k is = sym (drop-drop k at file) ∙ ap (drop k) is

-- k commands and then so many
abbrev more : ℕ → ℕ → ℕ
more zero fuel = fuel
more (suc k) fuel = suc (more k fuel)

-- the state after START and n teams, none of which caps a class
abbrev opened : ℕ → State
opened n = record { m = 64; n = n; capped = replicate 16 false }

-- a row in which no instrument below k is named
abbrev Unnamed : ℕ → Team → Type 0
Unnamed k row = (i : ℕ) → i < k → named row.named i ≡ false

-- an instrument that is named leaves the others as they were
named_other : (row : Team) (k command a b c d i : ℕ) → i ≢ k → named row.named i ≡ false → named (named_team row k command a b c d).named i ≡ false
named_other row k command a b c d i o e = ap (λ (x : ℕ). not (eqb x 255)) (get_or-set_other row.named k i command 255 o) ∙ e

-- ---- commands that name the instruments of a row

-- a row after SHELFs, FITs and GLUEs
abbrev shelved : ℕ → Team → Team
shelved zero row = row
shelved (suc k) row = shelved k (named_team row k 10 0 0 255 255)

abbrev fitted : ℕ → Team → Team
fitted zero row = row
fitted (suc k) row = fitted k (named_team row k 9 255 255 255 255)

abbrev stuck : (n b k : ℕ) → Team → Team
stuck n b zero row = row
stuck n b (suc k) row = stuck n b k (named_team row (b + k) n 255 255 255 255)

-- the row that is stored is the one that is read
stored : (rows : List Team) (n : ℕ) (row : Team) → length rows ≡ 14 → n ≤ 13 → open_team (set rows n row) n ≡ row
stored rows n row long few = get_or-set_same rows n row blank_team (omega arith)

-- the SHELFs are read, and then the rest
shelves_read : (file rest : List ℕ) (fuel : ℕ) (rows : List Team) (row : Team) → length rows ≡ 14 → (k at : ℕ) → k ≤ 64 → Unnamed k row
    → ((at : ℕ) → drop at file ≡ rest → Accepts fuel file at (opened 0) (set rows 0 (shelved k row))) → drop at file ≡ shelves k rest → Accepts (more k fuel) file at (opened 0) (set rows 0 row)
unfolding fault changed_state changed_team
shelves_read file rest fuel rows row long zero at l h after is = after at is
shelves_read file rest fuel rows row long (suc k) at l h after is =
    let row' = named_team row k 10 0 0 255 255 in
    let here = stored rows 0 row long (omega arith) in
    passes (more k fuel) file at (opened 0) (set rows 0 row) (Shelf k 0 0 255 255)
    (command_left file at (shelves (suc k) rest) is 10 6 refl refl (omega arith) (omega arith))
    (rw (here, lt-leb 64 k (omega arith), h k (omega arith)) refl)
    refl
    (rw (here, set-set rows 0 row row') (shelves_read file rest fuel rows row' long k (at + 6) (omega arith) (λ i b. named_other row k 10 0 0 255 255 i (omega arith) (h i (omega arith))) after (left_next file at 6 is)))

-- the FITs of a team are read, and then the rest
fits_read : (file rest : List ℕ) (fuel n : ℕ) (rows : List Team) (row : Team) → length rows ≡ 14 → n ≤ 12 → row.kind ≡ mounts_kind → (k at : ℕ) → k ≤ 64 → Unnamed k row
    → ((at : ℕ) → drop at file ≡ rest → Accepts fuel file at (opened n) (set rows n (fitted k row))) → drop at file ≡ fits k rest → Accepts (more k fuel) file at (opened n) (set rows n row)
unfolding fault changed_state changed_team
fits_read file rest fuel n rows row long few kind zero at l h after is = after at is
fits_read file rest fuel n rows row long few kind (suc k) at l h after is =
    let row' = named_team row k 9 255 255 255 255 in
    let here = stored rows n row long (omega arith) in
    passes (more k fuel) file at (opened n) (set rows n row) (Fit k 255 255 255 255)
    (command_left file at (fits (suc k) rest) is 9 6 refl refl (omega arith) (omega arith))
    (rw (here, kind, lt-leb 64 k (omega arith), h k (omega arith)) refl)
    refl
    (rw (here, set-set rows n row row') (fits_read file rest fuel n rows row' long few kind k (at + 6) (omega arith) (λ i b. named_other row k 9 255 255 255 255 i (omega arith) (h i (omega arith))) after (left_next file at 6 is)))

-- the GLUEs of a team are read, and then the rest
glues_read : (file rest : List ℕ) (fuel n : ℕ) (rows : List Team) (row : Team) (b : ℕ) → length rows ≡ 14 → 0 < n → (k at : ℕ) → b + k ≤ 64 → ((i : ℕ) → b ≤ i → i < b + k → named row.named i ≡ false)
    → ((at : ℕ) → drop at file ≡ rest → Accepts fuel file at (opened n) (set rows 13 (stuck n b k row))) → drop at file ≡ glues b k rest → Accepts (more k fuel) file at (opened n) (set rows 13 row)
unfolding fault changed_state changed_team
glues_read file rest fuel n rows row b long some zero at l h after is = after at is
glues_read file rest fuel n rows row b long some (suc k) at l h after is =
    let row' = named_team row (b + k) n 255 255 255 255 in
    let here = stored rows 13 row long (omega arith) in
    passes (more k fuel) file at (opened n) (set rows 13 row) (Glue (b + k))
    (command_left file at (glues b (suc k) rest) is 12 2 refl refl (omega arith) (omega arith))
    (rw (here, ne_eqb n 0 (omega arith), lt-leb 64 (b + k) (omega arith), h (b + k) (omega arith) (omega arith)) refl)
    refl
    (rw (here, set-set rows 13 row row') (glues_read file rest fuel n rows row' b long some k (at + 2) (omega arith) (λ i low high. named_other row (b + k) n 255 255 255 255 i (omega arith) (h i low (omega arith))) after (left_next file at 2 is)))

-- ---- the rows at the end

-- the pool's row, that of a team, and that of the glued instruments after the first team and after the second
pool : Team
pool = shelved 64 blank_team

full : Team
full = changed_team 0 (fitted 64 (opened_team mounts_kind 64 255)) (Days 0 0 255 255)

half : Team
half = stuck 1 0 32 blank_team

whole : Team
whole = stuck 2 32 32 half

-- a team is read, and then the rest
mounts_read : (file rest : List ℕ) (fuel n : ℕ) (rows : List Team) → length rows ≡ 14 → n < 12 → (at : ℕ)
    → ((at : ℕ) → drop at file ≡ rest → Accepts fuel file at (opened (n + 1)) (set rows (n + 1) full)) → drop at file ≡ mounts rest → Accepts (suc (more 64 (suc fuel))) file at (opened n) rows
unfolding fault changed_state changed_team full
mounts_read file rest fuel n rows long few at after is =
    let row = opened_team mounts_kind 64 255 in
    let filled = fitted 64 row in
    let here = stored rows (n + 1) filled long (omega arith) in
    passes (more 64 (suc fuel)) file at (opened n) rows (Mounts 64)
    (command_left file at (mounts rest) is 8 2 refl refl (omega arith) (omega arith))
    (rw (lt-leb 12 n (omega arith)) refl)
    refl
    (fits_read file (dated rest) (suc fuel) (n + 1) rows row long (omega arith) refl 64 (at + 2) (omega arith) (λ i _. named_none i)
    (λ at' is'.
    passes fuel file at' (opened (n + 1)) (set rows (n + 1) filled) (Days 0 0 255 255)
    (command_left file at' (dated rest) is' 11 5 refl refl (omega arith) (omega arith))
    (rw (here, ne_eqb (n + 1) 0 (omega arith)) refl)
    refl
    (rw (here, set-set rows (n + 1) filled full) (after (at' + 5) (left_next file at' 5 is'))))
    (left_next file at 2 is))

-- so many teams are read, and then the rest
abbrev filled_rows : (n k : ℕ) → List Team → List Team
filled_rows n zero rows = rows
filled_rows n (suc k) rows = filled_rows (n + 1) k (set rows (n + 1) full)

abbrev more_teams : ℕ → ℕ → ℕ
more_teams zero fuel = fuel
more_teams (suc k) fuel = suc (more 64 (suc (more_teams k fuel)))

many_read : (file rest : List ℕ) (fuel : ℕ) (k n : ℕ) (rows : List Team) → length rows ≡ 14 → n + k ≤ 12 → (at : ℕ)
    → ((at : ℕ) (m : ℕ) → m ≡ n + k → drop at file ≡ rest → Accepts fuel file at (opened m) (filled_rows n k rows)) → drop at file ≡ many_mounts k rest → Accepts (more_teams k fuel) file at (opened n) rows
many_read file rest fuel zero n rows long few at after is = after at n (omega arith) is
many_read file rest fuel (suc k) n rows long few at after is =
    mounts_read file (many_mounts k rest) (more_teams k fuel) n rows long (omega arith) at
    (λ at' is'. many_read file rest fuel k (n + 1) (set rows (n + 1) full) (length-set rows (n + 1) full ∙ long) (omega arith) at' (λ at'' m e is''. after at'' m (omega arith) is'') is')
    is

-- END, with nothing after it, where the glued instruments of every team stand
end_read : (file : List ℕ) (fuel at n : ℕ) (rows : List Team) → n ≡ 12 → all_stand (accepted (opened n) rows) ≡ true → drop at file ≡ 7 ∷ [] → Accepts (suc fuel) file at (opened n) rows
unfolding fault
end_read file fuel at n rows few stand is =
    let command = command_left file at (7 ∷ []) is 7 1 refl refl (omega arith) (omega arith) in
    let long = length_left file at (7 ∷ []) is in
    ap (λ (r : Reading). r.refusal) (step_end fuel file at (opened n) rows (rw (command, few) refl) (rw command refl))
    ∙ rw (stand, le-ltb (at + 1) (length file) (omega arith)) refl

-- the rows at the end: the pool's, twelve teams, and the glued instruments
last : List Team
last = pool ∷ (replicate 12 full ++ whole ∷ [])

-- ---- they stand

-- the reading at the end
abbrev r : Reading
r = accepted (opened 12) last

last_team : (t : ℕ) → t < 12 → get_or last (t + 1) blank_team ≡ full
unfolding last
last_team t l =
    let e : t + 1 ≡ suc t = omega arith in
    let long : length (replicate 12 full) ≡ 12 = refl in
    ap (λ (k : ℕ). get_or last k blank_team) e ∙ get_or-append (replicate 12 full) (whole ∷ []) blank_team t (omega arith) ∙ get_or-replicate 12 t full blank_team l

is_team_lem : (t : ℕ) → t < 12 → get_or r.teams t blank_team ≡ full
is_team_lem t l = each_at (λ t. get_or last (t + 1) blank_team) blank_team 12 t l ∙ last_team t l

is_days : (t : ℕ) → t < 12 → get_or r.days t always ≡ always
unfolding full changed_team
is_days t l = each_at (λ t. days_of (get_or last (t + 1) blank_team)) always 12 t l ∙ ap days_of (last_team t l)

is_shelf : (i : ℕ) → i < 64 → get_or r.shelf i always ≡ always
unfolding last pool
is_shelf i l =
    each_at (λ i. cond (ltb i 64) (shelf_of pool i) always) always 64 i l
    ∙ rw (lt-ltb i 64 l, get_or-replicate {A = ℕ} 64 i 10 255 l, get_or-replicate {A = ℕ} 64 i 0 255 l, get_or-replicate {A = ℕ} 64 i 255 255 l) refl

-- every instrument fits every mount of each team
is_fitted : (i : ℕ) → i < 64 → Fitted full i
unfolding full changed_team
is_fitted i l = record {
  named = get_or-replicate 64 i 9 255 l;
  first = get_or-replicate 64 i 255 0 l;
  second = get_or-replicate 64 i 255 0 l;
  third = get_or-replicate 64 i 255 0 l;
  fourth = get_or-replicate 64 i 255 0 l;
}

-- the first half is glued to the first team and the other half to the second
is_glued : (i : ℕ) → i < 64 → Dec (i < 32) → (((i < 32) × (get_or r.glue i 255 ≡ 1)) ⊎ ((32 ≤ i) × (get_or r.glue i 255 ≡ 2)))
unfolding last whole half
is_glued i l (yes b) = let long : length {A = ℕ} (replicate 32 1) ≡ 32 = refl in inl (b, get_or-append {A = ℕ} (replicate 32 1) (replicate 32 2) 255 i (omega arith) ∙ get_or-replicate 32 i 1 255 b)
is_glued i l (no c) =
    let e : i ≡ 32 + (i - 32) = omega arith in
    inr (omega arith, ap (λ (k : ℕ). get_or r.glue k 255) e ∙ get_or-append-add {A = ℕ} (replicate 32 1) (replicate 32 2) (i - 32) 255 ∙ get_or-replicate 32 (i - 32) 2 255 (omega arith))

full_kind : full.kind ≡ mounts_kind
unfolding full changed_team
full_kind = refl

full_channels : full.channels ≡ 64
unfolding full changed_team
full_channels = refl

-- so those of a team stand
longest_stands : (t : ℕ) → t < 12 → Stands r t
longest_stands t l =
    indep_yes (team_before r t) (glued_to r t)
    (full_indep 64 (32 * t) (get_or r.teams t blank_team) (word 64 (usable r t)) (glued_to r t) (rw (is_team_lem t l) full_kind) (λ i b _. rw (is_team_lem t l) (is_fitted i b)) stretch (rw (is_team_lem t l, full_channels) (size_le 64 (glued_to r t))) (record { at = λ i b _. usable_there i b }))
  where
    stretch : (i : ℕ) → i < 64 → T (glued_to r t i) → (32 * t ≤ i) × (i < 32 * t + 32)
    stretch i b g =
        let e = eqb-true (get_or r.glue i 255) (t + 1) (T→true (glued_to r t i) g) in
        ⊎_elim (λ (h : (i < 32) × (get_or r.glue i 255 ≡ 1)). let low = h.0 in let is = h.1 in (omega arith, omega arith)) (λ (h : (32 ≤ i) × (get_or r.glue i 255 ≡ 2)). let low = h.0 in let is = h.1 in (omega arith, omega arith)) (is_glued i b (dec_lt i 32))

    usable_there : (i : ℕ) → i < 64 → T (bit (word 64 (usable r t)) i)
    usable_there i b = subst⁻¹ T (bit_word 64 (usable r t) i) (rw (lt-ltb i 64 b, is_days t l, is_shelf i b) tt)

-- no instrument of the other half is named after the first team
half_free : (i : ℕ) → 32 ≤ i → i < 64 → named half.named i ≡ false
unfolding half
half_free i low high =
    let e : i ≡ 32 + (i - 32) = omega arith in
    ap (λ (x : ℕ). not (eqb x 255)) (ap (λ (k : ℕ). get_or half.named k 255) e ∙ get_or-append-add {A = ℕ} (replicate 32 1) (replicate 32 255) (i - 32) 255 ∙ get_or-replicate 32 (i - 32) 255 255 (omega arith))

-- the plan is read to its end
pub longest_accepted : (read_plan longest).refusal ≡ 0
unfolding longest last pool half whole fault changed_state changed_team
longest_accepted =
    let none = replicate 14 blank_team in
    let rows₀ = set none 0 pool in
    let rows₁ = set rows₀ 1 full in
    let rows₂ = set (set rows₁ 13 half) 2 full in
    ap (λ (x : Reading). x.refusal) (plan_start longest refl)
    ∙ passes (more 64 (suc (more 64 (suc (more 32 (suc (more 64 (suc (more 32 (more_teams 10 (suc 4287)))))))))))
    longest 0 start none (Start 1 64) (command_left longest 0 longest refl 1 3 refl refl (omega arith) (omega arith)) refl refl
    (shelves_read longest _ _ none blank_team refl 64 3 (omega arith) (λ i _. named_none i)
    (λ at₁ is₁. mounts_read longest _ _ 0 rows₀ refl (omega arith) at₁
    (λ at₂ is₂. glues_read longest _ _ 1 rows₁ blank_team 0 refl (omega arith) 32 at₂ (omega arith) (λ i _ _. named_none i)
    (λ at₃ is₃. mounts_read longest _ _ 1 (set rows₁ 13 half) refl (omega arith) at₃
    (λ at₄ is₄. glues_read longest _ _ 2 rows₂ half 32 refl (omega arith) 32 at₄ (omega arith) half_free
    (λ at₅ is₅. many_read longest (7 ∷ []) (suc 4287) 10 2 (set rows₂ 13 whole) refl (omega arith) at₅
    (λ at₆ n e is₆. end_read longest 4287 at₆ n _ (omega arith) (rw e (sym (all_stand_lem r longest_stands))) is₆)
    is₅) is₄) is₃) is₂) is₁) refl)
