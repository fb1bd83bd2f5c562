-- One command followed: the ways out of `follow`.
use Prim.Native.Nat.{ℕ, ◌+◌, ◌-◌, ◌*◌, ◌≤◌}
use Rattle.std.specs.Prelude.{Option, Some, None, Result, Ok, Err}
use mathlib.Core.Path.{◌≡◌, refl, sym, ap, ◌∙◌, subst, subst⁻¹}
use mathlib.Core.Bool.{Bool, true, false, not, cond}
use mathlib.Core.Logic.{◌≢◌}
use mathlib.Core.List.{List, ◌++◌}
use native.Mathlib.Omega.{arith}
use lib.Dec.{eqb, leb, ltb}
use lib.ListN.{length, take, drop}
use borrow.Author.Tests.{eq-eqb, ne_eqb, leb-false, ltb-false}
use Rattle.team.specs.declared.Team.{Team}
use Rattle.command.specs.declared.Command.{Command}
use Rattle.command.specs.declared.Command.TheVariants.{Missing, Unknown, Short, Start, Caps, Loops, Mounts, Class, Put, Span, Fit, Shelf, Days, Glue, End}
use Rattle.command.specs.declared.State.{State}
use Rattle.command.specs.declared.refusal.Refusal.{Refusal}
use Rattle.command.specs.Refusal.{refuse}
use Rattle.judge.specs.Fault.{fault, is_end}
use Rattle.carry.specs.Carry.{row_of, changed_team, changed_state}
use Rattle.row.specs.Row.{row_team}
use Rattle.plan.specs.Progress.{row_at, Followed}
use Rattle.plan.proofs.Tables.{first_holds}
use Rattle.plan.proofs.Steps.{row_le}
use Rattle.plan.proofs.Rows.{lent, lent_length, row_lent, put_row, put_other}

-- a thirteenth team is refused
room : (n : ℕ) (b : Bool) → leb 12 n ≡ b → ◌≡◌ {A = ℕ} (cond b 7 0) 0 → n + 1 ≤ 12
room n true t e = absurd (omega arith)
room n false t e = let h = leb-false 12 n t in omega arith

pub few_teams : (at : ℕ) (s : State) (team : Team) (command : Command) → s.n ≤ 12 → fault at s team command ≡ 0 → (changed_state s command).n ≤ 12
unfolding fault changed_state
few_teams at s team Missing l e = l
few_teams at s team Unknown l e = l
few_teams at s team Short l e = l
few_teams at s team (Start version m) l e = l
few_teams at s team (Caps channels) l e = room s.n (leb 12 s.n) refl e
few_teams at s team (Loops channels) l e = room s.n (leb 12 s.n) refl e
few_teams at s team (Mounts channels) l e = room s.n (leb 12 s.n) refl e
few_teams at s team (Class class most) l e = l
few_teams at s team (Put instrument class) l e = l
few_teams at s team (Span instrument a b) l e = l
few_teams at s team (Fit instrument a b c d) l e = l
few_teams at s team (Shelf instrument a b c d) l e = l
few_teams at s team (Days a b c d) l e = l
few_teams at s team (Glue instrument) l e = l
few_teams at s team End l e = l

-- and so are more than 64 instruments
pub small_pool : (at : ℕ) (s : State) (team : Team) (command : Command) → s.m ≤ 64 → fault at s team command ≡ 0 → (changed_state s command).m ≤ 64
unfolding fault changed_state
small_pool at s team Missing l e = l
small_pool at s team Unknown l e = l
small_pool at s team Short l e = l
small_pool at s team (Start version m) l e =
    let (_, e₁) = first_holds (not (eqb at 0)) 4 _ (omega arith) e in
    let (_, e₂) = first_holds (not (eqb version 1)) 5 _ (omega arith) e₁ in
    let (r, _) = first_holds (ltb 64 m) 5 _ (omega arith) e₂ in
    ltb-false 64 m r
small_pool at s team (Caps channels) l e = l
small_pool at s team (Loops channels) l e = l
small_pool at s team (Mounts channels) l e = l
small_pool at s team (Class class most) l e = l
small_pool at s team (Put instrument class) l e = l
small_pool at s team (Span instrument a b) l e = l
small_pool at s team (Fit instrument a b c d) l e = l
small_pool at s team (Shelf instrument a b c d) l e = l
small_pool at s team (Days a b c d) l e = l
small_pool at s team (Glue instrument) l e = l
small_pool at s team End l e = l

-- what following a command comes to, by a number for each of the three ways, and its state where there is one
abbrev pub way_of : Result (Option State) Refusal → ℕ
way_of (Err e) = 0
way_of (Ok None) = 1
way_of (Ok (Some s)) = 2

abbrev pub state_of : State → Result (Option State) Refusal → State
state_of s (Err e) = s
state_of s (Ok None) = s
state_of s (Ok (Some next)) = next

module _ (rows : List ℕ) (at : ℕ) (s : State) (command : Command) (k : ℕ) (is-k : k ≡ row_of s.n command) (number : ℕ) (is : number ≡ fault at s (row_team (take (343 * k + 343 - 343 * k) (drop (343 * k) rows))) command) where
  abbrev row : Team
  row = row_at rows (row_of s.n command)

  -- the rule that is broken, given the row that the command works on
  number_is : number ≡ fault at s row command
  number_is = is ∙ ap (λ (team : Team). fault at s team command) (row_lent rows k ∙ ap (row_at rows) is-k)

  pub follow_refused : number ≢ 0 → Followed rows at s command (refuse number at) rows
  follow_refused d =
      let e = number_is in
      let d' : fault at s row command ≢ 0 = λ z. d (e ∙ z) in
      record {
        is = rw (ne_eqb (fault at s row command) 0 d') (ap (λ (k : ℕ). refuse k at) e);
        row = λ next e. let w : ◌≡◌ {A = ℕ} 0 2 = ap way_of e in absurd (omega arith);
        other = λ k l o. refl;
      }

  module _ (z : number ≡ 0) where
    none : fault at s row command ≡ 0
    none = sym number_is ∙ z

    pub follow_few : s.n ≤ 12 → (next : State) → next ≡ changed_state s command → next.n ≤ 12
    follow_few l next same = subst⁻¹ (λ (x : State). x.n ≤ 12) same (few_teams at s row command l none)

    pub follow_end : is_end command ≡ true → Followed rows at s command (Ok None) rows
    follow_end e = record {
      is = rw (eq-eqb (fault at s row command) 0 none, e) refl;
      row = λ next e. let w : ◌≡◌ {A = ℕ} 1 2 = ap way_of e in absurd (omega arith);
      other = λ k l o. refl;
    }

    -- the row that the command then works on was lent, changed and put back
    module _ (next : State) (same : next ≡ changed_state s command) (k' : ℕ) (is-k' : k' ≡ row_of next.n command) where
      pub follow_row : s.n ≤ 12 → k' ≤ 13
      follow_row few = let l = row_le next.n command (follow_few few next same) in omega arith

      pub follow_on : is_end command ≡ false → length rows ≡ 4802 → s.n ≤ 12 → (ys : List ℕ)
          → length ys ≡ length (take (343 * k' + 343 - 343 * k') (drop (343 * k') rows)) → row_team ys ≡ changed_team next.n (row_team (take (343 * k' + 343 - 343 * k') (drop (343 * k') rows))) command
          → Followed rows at s command (Ok (Some next)) (take (343 * k') rows ++ (ys ++ drop (343 * k' + 343 - 343 * k') (drop (343 * k') rows)))
      follow_on e long few ys wide changed =
          let within = follow_row few in
          let rows' = take (343 * k') rows ++ (ys ++ drop (343 * k' + 343 - 343 * k') (drop (343 * k') rows)) in
          let full = wide ∙ ap length (lent rows k') ∙ lent_length rows k' long within in
          record {
            is = rw (eq-eqb (fault at s row command) 0 none, e) (ap (λ (x : State). Ok (Some x)) same);
            row = λ later e. subst (λ (x : State). row_at rows' (row_of x.n command) ≡ changed_team x.n (row_at rows (row_of x.n command)) command) (ap (state_of next) e) (rw (sym is-k') (put_row rows k' long within ys full ∙ changed ∙ ap (λ (team : Team). changed_team next.n team command) (row_lent rows k')));
            other = λ k l o. put_other rows k' long within ys full k l (λ e. o next refl (e ∙ is-k'));
          }
