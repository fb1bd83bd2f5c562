-- What holds all through the reading of a plan, and how far a file can be read.
use Prim.Native.Nat.{ℕ, ◌+◌, ◌-◌, ◌*◌, ◌≤◌, ◌<◌}
use mathlib.Core.Path.{◌≡◌, refl, sym, ap, ◌∙◌, subst}
use mathlib.Core.Bool.{Bool, true, false, not, cond, true≢false}
use mathlib.Core.Logic.{◌⊎◌, inl, inr, ◌≢◌}
use mathlib.Core.List.{List}
use native.Mathlib.Omega.{arith}
use native.Mathlib.Decide.{dec_lt, ℕ_discrete}
use lib.Dec.{eqb, leb, ltb}
use lib.ListN.{length, get_or, set, replicate, length-set}
use lib.Seq.{get_or-set_same, get_or-set_other, set-get_or}
use borrow.Author.Tests.{eq-eqb, ne_eqb, ltb-false, leb-false, eqb-true, eqb-false, not-false}
use Rattle.matroid.specs.Set.{one}
use Rattle.command.specs.declared.Command.{Command}
use Rattle.command.specs.declared.Command.TheVariants.{Missing, Unknown, Short, Start, Caps, Loops, Mounts, Class, Put, Span, Fit, Shelf, Days, Glue, End}
use Rattle.command.specs.declared.State.{State}
use Rattle.team.specs.declared.Team.{Team}
use Rattle.command.specs.Command.{bytes_of}
use Rattle.team.specs.Team.{caps_kind, loops_kind, mounts_kind, joints, opened_team}
use Rattle.judge.specs.Fault.{named, fault, is_end}
use Rattle.carry.specs.Carry.{named_team, start, open_team, changed_team, changed_state}
use Rattle.team.specs.Team.{blank_team}
use Rattle.days.specs.Days.{day_of}
use Rattle.plan.specs.Valid.{Naming, by_put, by_span, by_fit, ValidTeam}
use Rattle.plan.proofs.Steps.{worked_on, rows_after}
use Rattle.plan.proofs.Tables.{first_holds, named_count, capped_count, named_count_le, named_count_none, named_count_more, capped_count_le, capped_count_none, capped_count_more, opened_kept, class_kept, days_kept, named_kept}

-- how many bytes the commands of the open team have, at most: CLASS and PUT have 3, SPAN and FIT no more than 6, and DAYS 5
pub used : State → Team → ℕ
used s team =
    5 * one (named team.days 0) + cond (eqb team.kind caps_kind) (2 + 3 * capped_count s.capped + 3 * named_count team.named) (2 + 6 * named_count team.named)

-- of any kind, no more than 391
used_le : (s : State) (team : Team) → used s team ≤ 391
unfolding used
used_le s team = go (named team.days 0) (eqb team.kind caps_kind)
  where
    go : (d b : Bool) → 5 * one d + cond b (2 + 3 * capped_count s.capped + 3 * named_count team.named) (2 + 6 * named_count team.named) ≤ 391
    go true true = let c = capped_count_le s.capped in let n = named_count_le team.named in omega arith
    go false true = let c = capped_count_le s.capped in let n = named_count_le team.named in omega arith
    go true false = let n = named_count_le team.named in omega arith
    go false false = let n = named_count_le team.named in omega arith

-- the pool's row: it is of no kind of team
pub record Pool (pool : Team) : Type 0 where
  pub kind : pool.kind ≡ 255
  pub named_long : length pool.named ≡ 64

-- the team that each instrument is glued to, by the row of the glued ones
abbrev glue_in : List Team → List ℕ
glue_in rows = (get_or rows 13 blank_team).named

-- what holds of the reading at an offset, by the rows that have been read: before the first team SHELFs have 6 bytes each, and GLUEs 2 after it
pub record Kept (at : ℕ) (s : State) (rows : List Team) : Type 0 where
  pub rows_long : length rows ≡ 14
  pub capped_long : length s.capped ≡ 16
  pub few : s.n ≤ 12
  pub small : s.m ≤ 64
  pub pool : Pool (get_or rows 0 blank_team)
  pub glue_long : length (glue_in rows) ≡ 64
  pub kept : (t : ℕ) → t < s.n → ValidTeam s.m (get_or rows (t + 1) blank_team)
  pub started : 0 < s.n → 0 < at
  pub none : s.n ≡ 0 → at ≤ 3 + 6 * named_count (get_or rows 0 blank_team).named
  pub some : 0 < s.n → at ≤ 387 + 391 * (s.n - 1) + used s (get_or rows s.n blank_team) + 2 * named_count (glue_in rows)

-- what a CAPS team takes, and a team of another kind
used_caps : (s : State) (team : Team) → team.kind ≡ caps_kind → used s team ≡ 5 * one (named team.days 0) + (2 + 3 * capped_count s.capped + 3 * named_count team.named)
unfolding used
used_caps s team e = rw (eq-eqb team.kind caps_kind e) refl

used_other : (s : State) (team : Team) → team.kind ≢ caps_kind → used s team ≡ 5 * one (named team.days 0) + (2 + 6 * named_count team.named)
unfolding used
used_other s team d = rw (ne_eqb team.kind caps_kind d) refl

-- a team that has just been opened takes two bytes
used_opened : (s : State) (kind channels cap : ℕ) → s.capped ≡ replicate 16 false → used s (opened_team kind channels cap) ≡ 2
unfolding used
used_opened s kind channels cap e = go (eqb kind caps_kind)
  where
    go : (b : Bool) → 5 * one (named (replicate 5 255) 0) + cond b (2 + 3 * capped_count s.capped + 3 * named_count (replicate 64 255)) (2 + 6 * named_count (replicate 64 255)) ≡ 2
    go true = let c = ap capped_count e ∙ capped_count_none in let n = named_count_none in omega arith
    go false = let n = named_count_none in omega arith

-- DAYS takes 5 bytes more
used_dated : (s : State) (team : Team) (a b c d : ℕ) → named team.days 0 ≡ false → used s team + 5 ≡ used s (changed_team 0 team (Days a b c d))
unfolding used changed_team
used_dated s team a b c d e = rw e (omega arith)

-- so a command stands at 5,207 at most
pub kept_at : {at : ℕ} {s : State} {rows : List Team} → Kept at s rows → at ≤ 5207
kept_at {at} {s} {rows} k = go (dec_lt 0 s.n)
  where
    go : Dec (0 < s.n) → at ≤ 5207
    go (yes l) =
        let most = k.some l in
        let u = used_le s (get_or rows s.n blank_team) in
        let g = named_count_le (glue_in rows) in
        let f = k.few in
        omega arith
    go (no d) = let most = k.none (omega arith) in let n = named_count_le (get_or rows 0 blank_team).named in omega arith

-- at the start
pub kept_start : Kept 0 start (replicate 14 blank_team)
kept_start = record {
  rows_long = refl;
  capped_long = refl;
  few = omega arith;
  small = omega arith;
  pool = record { kind = refl; named_long = refl };
  glue_long = refl;
  kept = λ t l. absurd (omega arith);
  started = λ l. absurd (omega arith);
  none = λ e. omega arith;
  some = λ l. absurd (omega arith);
}

-- a team is stored in the last row
kept_store : (at at' : ℕ) (s s' : State) (rows : List Team) (team : Team) → Kept at s rows → s'.m ≡ s.m → 0 < s'.n → s'.n ≤ s.n + 1 → s'.n ≤ 12 → length s'.capped ≡ 16
    → ValidTeam s.m team → 0 < at' → at' ≤ 387 + 391 * (s'.n - 1) + used s' team + 2 * named_count (glue_in rows) → Kept at' s' (set rows s'.n team)
kept_store at at' s s' rows team k em some next few long kept started bytes =
    let wide = k.rows_long in
    let small = k.small in
    let here = get_or-set_same rows s'.n team blank_team (omega arith) in
    let glue = get_or-set_other rows s'.n 13 team blank_team (omega arith) in
    record {
      rows_long = length-set rows s'.n team ∙ k.rows_long;
      capped_long = long;
      few = few;
      small = omega arith;
      pool = rw (get_or-set_other rows s'.n 0 team blank_team (omega arith)) k.pool;
      glue_long = ap (λ (t : Team). length t.named) glue ∙ k.glue_long;
      kept = λ t l. rw em (go t l here (ℕ_discrete (t + 1) s'.n));
      started = λ _. started;
      none = λ e. absurd (omega arith);
      some = λ _. let u = ap (used s') here in let g = ap (λ (t : Team). named_count t.named) glue in omega arith;
    }
  where
    go : (t : ℕ) → t < s'.n → get_or (set rows s'.n team) s'.n blank_team ≡ team → Dec (t + 1 ≡ s'.n) → ValidTeam s.m (get_or (set rows s'.n team) (t + 1) blank_team)
    go t l here (yes same) = rw (same, here) kept
    go t l here (no other) = rw (get_or-set_other rows s'.n (t + 1) team blank_team other) (k.kept t (omega arith))

-- ---- one command

module _ (at : ℕ) (s : State) (rows : List Team) (k : Kept at s rows) where
  -- before the first team the pool's row is open, which is of no kind
  open_some : (open_team rows s.n).kind ≢ 255 → 0 < s.n
  open_some d = go (dec_lt 0 s.n)
    where
      go : Dec (0 < s.n) → 0 < s.n
      go (yes l) = l
      go (no c) =
          let zero : s.n ≡ 0 = omega arith in
          absurd (d (ap (λ (n : ℕ). (open_team rows n).kind) zero ∙ k.pool.kind))

  -- START says m, once, at offset 0, where no team is open yet
  start_kept : (version m : ℕ) → fault at s (open_team rows s.n) (Start version m) ≡ 0 → Kept (at + 3) (changed_state s (Start version m)) (set rows s.n (open_team rows s.n))
  unfolding fault changed_state
  start_kept version m e =
      let (p, e₁) = first_holds (not (eqb at 0)) 4 _ (omega arith) e in
      let (q, e₂) = first_holds (not (eqb version 1)) 5 _ (omega arith) e₁ in
      let (r, _) = first_holds (ltb 64 m) 5 _ (omega arith) e₂ in
      let first : at ≡ 0 = eqb-true at 0 (not-false (eqb at 0) p) in
      let top = ltb-false 64 m r in
      let empty : s.n ≡ 0 = go first (dec_lt 0 s.n) in
      rw (set-get_or rows s.n blank_team) (record {
        rows_long = k.rows_long;
        capped_long = k.capped_long;
        few = k.few;
        small = top;
        pool = k.pool;
        glue_long = k.glue_long;
        kept = λ t l. absurd (omega arith);
        started = λ l. omega arith;
        none = λ _. omega arith;
        some = λ l. absurd (omega arith);
      })
    where
      go : at ≡ 0 → Dec (0 < s.n) → s.n ≡ 0
      go z (yes l) = let a = k.started l in absurd (omega arith)
      go z (no d) = omega arith

  -- SHELF names an instrument in the pool's row that none did
  shelf_kept_here : (i a b c d : ℕ) → fault at s (open_team rows s.n) (Shelf i a b c d) ≡ 0 → Kept (at + 6) s (set rows s.n (named_team (open_team rows s.n) i 10 a b c d))
  unfolding fault
  shelf_kept_here i a b c d e =
      let pool = open_team rows s.n in
      let (p, e₁) = first_holds (not (eqb s.n 0)) 4 _ (omega arith) e in
      let (q, e₂) = first_holds (leb s.m i) 5 _ (omega arith) e₁ in
      let (_, e₃) = first_holds (leb (day_of c d) (day_of a b)) 17 _ (omega arith) e₂ in
      let (t, _) = first_holds (named pool.named i) 6 _ (omega arith) e₃ in
      let empty : s.n ≡ 0 = eqb-true s.n 0 (not-false (eqb s.n 0) p) in
      let below = leb-false s.m i q in
      let small = k.small in
      let wide = k.rows_long in
      stored empty (omega arith) (subst (λ (n : ℕ). named (open_team rows n).named i ≡ false) empty t)
    where
      stored : s.n ≡ 0 → i < 64 → named (open_team rows 0).named i ≡ false → Kept (at + 6) s (set rows s.n (named_team (open_team rows s.n) i 10 a b c d))
      stored empty low fresh =
          let wide = k.rows_long in
          let bytes = k.none empty in
          let pool' = named_team (open_team rows 0) i 10 a b c d in
          let here = get_or-set_same rows 0 pool' blank_team (omega arith) in
          let more = named_count_more (open_team rows 0).named i 10 k.pool.named_long low (omega arith) fresh in
          let long = length-set (open_team rows 0).named i 10 ∙ k.pool.named_long in
          let most : at + 6 ≤ 3 + 6 * named_count pool'.named = omega arith in
          subst (λ (n : ℕ). Kept (at + 6) s (set rows n (named_team (open_team rows n) i 10 a b c d))) (sym empty) (record {
            rows_long = length-set rows 0 pool' ∙ k.rows_long;
            capped_long = k.capped_long;
            few = k.few;
            small = k.small;
            pool = rw here (record { kind = k.pool.kind; named_long = long });
            glue_long = ap (λ (t : Team). length t.named) (get_or-set_other rows 0 13 pool' blank_team (omega arith)) ∙ k.glue_long;
            kept = λ t l. absurd (omega arith);
            started = λ l. absurd (omega arith);
            none = λ _. rw here most;
            some = λ l. absurd (omega arith);
          })

  -- all that stands before a new team
  before : at ≤ 387 + 391 * s.n + 2 * named_count (glue_in rows)
  before = go (dec_lt 0 s.n)
    where
      go : Dec (0 < s.n) → at ≤ 387 + 391 * s.n + 2 * named_count (glue_in rows)
      go (yes l) = let most = k.some l in let u = used_le s (get_or rows s.n blank_team) in omega arith
      go (no d) = let most = k.none (omega arith) in let n = named_count_le (get_or rows 0 blank_team).named in omega arith

  -- CAPS, LOOPS and MOUNTS open a team
  team_kept : (kind channels cap : ℕ) → (kind ≡ caps_kind) ⊎ (kind ≡ loops_kind) ⊎ (kind ≡ mounts_kind) → fault at s (open_team rows s.n) (Caps channels) ≡ 0
      → Kept (at + 2) (changed_state s (Caps channels)) (set rows (s.n + 1) (opened_team kind channels cap))
  unfolding fault changed_state
  team_kept kind channels cap is e =
      let (p, _) = first_holds (leb 12 s.n) 7 _ (omega arith) e in
      let fewer = leb-false 12 s.n p in
      let b = before in
      let u = used_opened (changed_state s (Caps channels)) kind channels cap refl in
      kept_store at (at + 2) s (changed_state s (Caps channels)) rows (opened_team kind channels cap) k refl (omega arith) (omega arith) (omega arith) refl (opened_kept s.m kind channels cap is) (omega arith) (omega arith)

  -- a command of the open team, which stays kept and takes at least the command's bytes more
  open_kept : (s' : State) (team : Team) (w : ℕ) → 0 < s.n → s'.m ≡ s.m → s'.n ≡ s.n → length s'.capped ≡ 16
      → (ValidTeam s.m (open_team rows s.n) → ValidTeam s.m team) → (ValidTeam s.m (open_team rows s.n) → used s (open_team rows s.n) + w ≤ used s' team)
      → Kept (at + w) s' (set rows s'.n team)
  open_kept s' team w some em en long kept more =
      let few = k.few in
      let started = k.started some in
      let last : s.n - 1 + 1 ≡ s.n = omega arith in
      let was : ValidTeam s.m (open_team rows s.n) = subst (λ (n : ℕ). ValidTeam s.m (open_team rows n)) last (k.kept (s.n - 1) (omega arith)) in
      let grows = more was in
      let bytes = k.some some in
      kept_store at (at + w) s s' rows team k em (omega arith) (omega arith) (omega arith) long (kept was) (omega arith) (omega arith)

  -- the open team is of the kind that a command asks
  of_kind : {kind k : ℕ} → not (eqb kind k) ≡ false → kind ≡ k
  of_kind {kind} {k} e = eqb-true kind k (not-false (eqb kind k) e)

  -- CLASS caps a class that was not
  class_kept_here : (class most : ℕ) → fault at s (open_team rows s.n) (Class class most) ≡ 0
      → Kept (at + 3) (changed_state s (Class class most)) (set rows s.n (changed_team s.n (open_team rows s.n) (Class class most)))
  unfolding fault changed_state changed_team
  class_kept_here class most e =
      let team = open_team rows s.n in
      let (p, e₁) = first_holds (not (eqb team.kind caps_kind)) 4 _ (omega arith) e in
      let (q, e₂) = first_holds (leb 16 class) 5 _ (omega arith) e₁ in
      let (r, _) = first_holds (get_or s.capped class false) 6 _ (omega arith) e₂ in
      let caps = of_kind p in
      let more = capped_count_more s.capped class k.capped_long (leb-false 16 class q) r in
      let s' = changed_state s (Class class most) in
      let team' = changed_team s.n team (Class class most) in
      open_kept s' team' 3 (open_some (omega arith)) refl refl (length-set s.capped class true ∙ k.capped_long)
      (λ kept. class_kept s.m team kept class most)
      (λ kept. let u = used_caps s team caps in let u' = used_caps s' team' caps in omega arith)

  -- a command names an instrument that none did, and has 3 bytes in a CAPS team and at most 6 in another
  naming_kept : (i command a b c d w : ℕ) → Naming s.m (open_team rows s.n).kind i command a b c d → command < 255 → i < s.m → (open_team rows s.n).kind ≢ 255
      → (((open_team rows s.n).kind ≡ caps_kind) × (w ≤ 3)) ⊎ (((open_team rows s.n).kind ≢ caps_kind) × (w ≤ 6)) → named (open_team rows s.n).named i ≡ false
      → Kept (at + w) s (set rows s.n (named_team (open_team rows s.n) i command a b c d))
  naming_kept i command a b c d w naming low below opened width fresh =
      let few = k.small in
      open_kept s team' w (open_some opened) refl refl k.capped_long (λ kept. named_kept s.m team kept i command a b c d (omega arith) naming)
      (λ kept. grows width (named_count_more team.named i command kept.named_long (omega arith) low fresh))
    where
      team : Team
      team = open_team rows s.n

      team' : Team
      team' = named_team team i command a b c d

      grows : ((team.kind ≡ caps_kind) × (w ≤ 3)) ⊎ ((team.kind ≢ caps_kind) × (w ≤ 6)) → named_count team'.named ≡ named_count team.named + 1 → used s team + w ≤ used s team'
      grows (inl (caps, l)) more = let u = used_caps s team caps in let u' = used_caps s team' caps in omega arith
      grows (inr (other, l)) more = let u = used_other s team other in let u' = used_other s team' other in omega arith

  -- PUT puts an instrument in a class that was in none
  put_kept_here : (i class : ℕ) → fault at s (open_team rows s.n) (Put i class) ≡ 0 → Kept (at + 3) s (set rows s.n (changed_team s.n (open_team rows s.n) (Put i class)))
  unfolding fault changed_team
  put_kept_here i class e =
      let team = open_team rows s.n in
      let (p, e₁) = first_holds (not (eqb team.kind caps_kind)) 4 _ (omega arith) e in
      let (q, e₂) = first_holds (leb s.m i) 5 _ (omega arith) e₁ in
      let (r, e₃) = first_holds (leb 16 class) 5 _ (omega arith) e₂ in
      let (t, _) = first_holds (named team.named i) 6 _ (omega arith) e₃ in
      let caps = of_kind p in
      let below = leb-false s.m i q in
      naming_kept i 5 class 255 255 255 3 (by_put class caps below (leb-false 16 class r)) (omega arith) below (omega arith) (inl (caps, omega arith)) t

  -- SPAN gives an instrument a span that had none
  span_kept_here : (i a b : ℕ) → fault at s (open_team rows s.n) (Span i a b) ≡ 0 → Kept (at + 4) s (set rows s.n (changed_team s.n (open_team rows s.n) (Span i a b)))
  unfolding fault changed_team
  span_kept_here i a b e =
      let team = open_team rows s.n in
      let (p, e₁) = first_holds (not (eqb team.kind loops_kind)) 4 _ (omega arith) e in
      let (q, e₂) = first_holds (leb s.m i) 5 _ (omega arith) e₁ in
      let (ra, e₃) = first_holds (leb joints a) 5 _ (omega arith) e₂ in
      let (rb, e₄) = first_holds (leb joints b) 5 _ (omega arith) e₃ in
      let (d, e₅) = first_holds (eqb a b) 8 _ (omega arith) e₄ in
      let (t, _) = first_holds (named team.named i) 6 _ (omega arith) e₅ in
      let loops = of_kind p in
      let below = leb-false s.m i q in
      naming_kept i 6 a b 255 255 4 (by_span a b loops below (leb-false joints a ra) (leb-false joints b rb) (eqb-false a b d)) (omega arith) below (omega arith) (inr (omega arith, omega arith)) t

  -- FIT fits an instrument for mounts that had none
  fit_kept_here : (i a b c d : ℕ) → fault at s (open_team rows s.n) (Fit i a b c d) ≡ 0 → Kept (at + 6) s (set rows s.n (changed_team s.n (open_team rows s.n) (Fit i a b c d)))
  unfolding fault changed_team
  fit_kept_here i a b c d e =
      let team = open_team rows s.n in
      let (p, e₁) = first_holds (not (eqb team.kind mounts_kind)) 4 _ (omega arith) e in
      let (q, e₂) = first_holds (leb s.m i) 5 _ (omega arith) e₁ in
      let (t, _) = first_holds (named team.named i) 6 _ (omega arith) e₂ in
      let mounts = of_kind p in
      let below = leb-false s.m i q in
      naming_kept i 9 a b c d 6 (by_fit a b c d mounts below) (omega arith) below (omega arith) (inr (omega arith, omega arith)) t

  -- DAYS says the days of a team that had none
  days_kept_here : (a b c d : ℕ) → fault at s (open_team rows s.n) (Days a b c d) ≡ 0 → Kept (at + 5) s (set rows s.n (changed_team s.n (open_team rows s.n) (Days a b c d)))
  unfolding fault changed_team
  days_kept_here a b c d e =
      let team = open_team rows s.n in
      let (p, e₁) = first_holds (eqb s.n 0) 4 _ (omega arith) e in
      let (_, e₂) = first_holds (leb (day_of c d) (day_of a b)) 17 _ (omega arith) e₁ in
      let (t, _) = first_holds (named team.days 0) 6 _ (omega arith) e₂ in
      let some = eqb-false s.n 0 p in
      open_kept s (changed_team s.n team (Days a b c d)) 5 (omega arith) refl refl k.capped_long (λ kept. days_kept s.m team kept a b c d) (λ kept. let u = used_dated s team a b c d t in omega arith)

  -- GLUE names an instrument in the row of the glued ones that none did
  glue_kept_here : (i : ℕ) → fault at s (open_team rows 13) (Glue i) ≡ 0 → Kept (at + 2) s (set rows 13 (named_team (open_team rows 13) i s.n 255 255 255 255))
  unfolding fault
  glue_kept_here i e =
      let (p, e₁) = first_holds (eqb s.n 0) 4 _ (omega arith) e in
      let (q, e₂) = first_holds (leb s.m i) 5 _ (omega arith) e₁ in
      let (t, _) = first_holds (named (glue_in rows) i) 6 _ (omega arith) e₂ in
      let some = eqb-false s.n 0 p in
      let below = leb-false s.m i q in
      let small = k.small in
      stored (omega arith) (omega arith) t
    where
      stored : 0 < s.n → i < 64 → named (glue_in rows) i ≡ false → Kept (at + 2) s (set rows 13 (named_team (open_team rows 13) i s.n 255 255 255 255))
      stored some low fresh =
          let wide = k.rows_long in
          let few = k.few in
          let glue' = named_team (open_team rows 13) i s.n 255 255 255 255 in
          let here = get_or-set_same rows 13 glue' blank_team (omega arith) in
          let more = named_count_more (glue_in rows) i s.n k.glue_long low (omega arith) fresh in
          let bytes = k.some some in
          let most : at + 2 ≤ 387 + 391 * (s.n - 1) + used s (get_or rows s.n blank_team) + 2 * named_count glue'.named = omega arith in
          record {
            rows_long = length-set rows 13 glue' ∙ k.rows_long;
            capped_long = k.capped_long;
            few = few;
            small = k.small;
            pool = rw (get_or-set_other rows 13 0 glue' blank_team (omega arith)) k.pool;
            glue_long = ap (λ (t : Team). length t.named) here ∙ length-set (glue_in rows) i s.n ∙ k.glue_long;
            kept = λ t l. rw (get_or-set_other rows 13 (t + 1) glue' blank_team (omega arith)) (k.kept t l);
            started = λ _. omega arith;
            none = λ e. absurd (omega arith);
            some = λ _. let u = ap (used s) (get_or-set_other rows 13 s.n glue' blank_team (omega arith)) in let g = ap (λ (t : Team). named_count t.named) here in omega arith;
          }

-- what holds at a command that breaks no rule and is not END holds at the next
pub kept_next : (at : ℕ) (s : State) (rows : List Team) (command : Command) → Kept at s rows → fault at s (worked_on s rows command) command ≡ 0 → is_end command ≡ false
    → Kept (at + bytes_of command) (changed_state s command) (rows_after s rows command)
unfolding fault changed_state changed_team
kept_next at s rows Missing k e f = absurd (omega arith)
kept_next at s rows Unknown k e f = absurd (omega arith)
kept_next at s rows Short k e f = absurd (omega arith)
kept_next at s rows (Start version m) k e f = start_kept at s rows k version m e
kept_next at s rows (Caps channels) k e f = team_kept at s rows k caps_kind channels 0 (inl refl) e
kept_next at s rows (Loops channels) k e f = team_kept at s rows k loops_kind channels 255 (inr (inl refl)) e
kept_next at s rows (Mounts channels) k e f = team_kept at s rows k mounts_kind channels 255 (inr (inr refl)) e
kept_next at s rows (Class class most) k e f = class_kept_here at s rows k class most e
kept_next at s rows (Put i class) k e f = put_kept_here at s rows k i class e
kept_next at s rows (Span i a b) k e f = span_kept_here at s rows k i a b e
kept_next at s rows (Fit i a b c d) k e f = fit_kept_here at s rows k i a b c d e
kept_next at s rows (Shelf i a b c d) k e f = shelf_kept_here at s rows k i a b c d e
kept_next at s rows (Days a b c d) k e f = days_kept_here at s rows k a b c d e
kept_next at s rows (Glue i) k e f = glue_kept_here at s rows k i e
kept_next at s rows End k e f = absurd (true≢false f)
