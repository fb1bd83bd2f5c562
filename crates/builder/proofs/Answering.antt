-- The answers of `build`.
use Prim.Native.Nat.{ℕ, ◌≤◌, ◌<◌}
use mathlib.Core.Path.{◌≡◌, refl, sym, ap, ◌∙◌, subst}
use mathlib.Core.Logic.{◌≢◌}
use mathlib.Core.List.{List}
use lib.ListN.{length, take}
use borrow.Author.Tests.{eq-eqb, ne_eqb, lt-ltb, le-ltb}
use Rattle.matroid.specs.Set.{Set}
use Rattle.plan.specs.declared.Reading.{Reading}
use Rattle.plan.specs.Read.{read_plan}
use Rattle.plan.specs.Valid.{Valid}
use Rattle.engine.specs.declared.divide.Division.{Division}
use Rattle.kinds.specs.declared.Valuation.{Valuation}
use Rattle.plan.specs.Teams.{valuations_of, present}
use Rattle.plan.proofs.Valuing.{valued_long}
use Rattle.plan.proofs.Present.{away_row}
use Rattle.engine.specs.Fill.{ValidAgents, given}
use Rattle.engine.specs.Level.{Away}
use Rattle.engine.specs.Divide.{Divided}
use Rattle.command.proofs.Mapped.{first_mapped}
use Rattle.sheet.specs.Layout.{length_of}
use Rattle.checker.specs.Check.{verdict_of}
use Rattle.checker.proofs.Acceptance.{accepts}
use Rattle.std.proofs.Common.{Ok}
use Rattle.command.specs.Refusal.{refuse}
use Rattle.builder.specs.Rows.{Written}
use Rattle.builder.specs.Build.{Built, build_rules, answer_by, build_answer, built_number, built_place, built_length, BuildTold, Answered, sheet}
use Rattle.builder.proofs.Stating.{states, rest_same}

-- the agents of an accepted reading
pub valid_agents : (r : Reading) (row : List Valuation) → Valid r → row ≡ valuations_of r → ValidAgents (record { m = r.m; n = r.n; valuations = row })
valid_agents r row v e = record { small = v.small; some = v.some; few = v.few; valuations_long = valued_long r row e }

-- those of its teams that are not present are away
pub away_agents : (r : Reading) (row : List Valuation) → Valid r → row ≡ valuations_of r → (here : Set) → here ≡ present r → Away (record { m = r.m; n = r.n; valuations = row }) here
away_agents r row v e here is-here = record { idle = away_row r row v.few e here is-here }

-- an answer in the paper's numbers
pub build_told : (plan before : List ℕ) (a : Built) → a ≡ build_answer plan before → BuildTold plan before a
unfolding answer_by
build_told plan before a e = record {
  number = ap built_number e ∙ first_mapped built_number (Ok (length_of r.m r.n)) (build_rules refuse r (length before));
  place = ap built_place e ∙ first_mapped built_place (Ok (length_of r.m r.n)) (build_rules refuse r (length before));
  long = ap built_length e ∙ first_mapped built_length (Ok (length_of r.m r.n)) (build_rules refuse r (length before));
}
  where
    r : Reading
    r = read_plan plan

module _ (plan before : List ℕ) (r : Reading) (is : r ≡ read_plan plan) where
  pub answer_read : r.refusal ≢ 0 → refuse r.refusal r.place ≡ build_answer plan before
  unfolding answer_by
  answer_read d =
      let here : answer_by r (length before) ≡ refuse r.refusal r.place = rw (ne_eqb r.refusal 0 d, answer_by) refl in
      sym here ∙ ap (λ (x : Reading). answer_by x (length before)) is

  pub answer_short : r.refusal ≡ 0 → (long : ℕ) → long ≡ length_of r.m r.n → length before < long → refuse 10 long ≡ build_answer plan before
  unfolding answer_by
  answer_short z long e l =
      let here : answer_by r (length before) ≡ refuse 10 long = rw (e, eq-eqb r.refusal 0 z, lt-ltb (length before) (length_of r.m r.n) (rw e at l), answer_by) refl in
      sym here ∙ ap (λ (x : Reading). answer_by x (length before)) is

  pub answer_wrote : r.refusal ≡ 0 → (long : ℕ) → long ≡ length_of r.m r.n → long ≤ length before → Ok long ≡ build_answer plan before
  unfolding answer_by
  answer_wrote z long e l =
      let here : answer_by r (length before) ≡ Ok long = rw (e, eq-eqb r.refusal 0 z, le-ltb (length before) (length_of r.m r.n) (rw e at l), answer_by) refl in
      sym here ∙ ap (λ (x : Reading). answer_by x (length before)) is

  -- what is written is accepted
  pub sheet_wrote : (valid : Valid r) → r.refusal ≡ 0 → (long : ℕ) → long ≡ length_of r.m r.n → long ≤ length before → (row : List Valuation) → row ≡ valuations_of r → (here : Set) → here ≡ present r
      → (after : List ℕ) (total : ℕ) (d : Division) → Written before after r.m r.n total d → Divided (record { m = r.m; n = r.n; valuations = row }) here d
      → total ≡ given (record { m = r.m; n = r.n; valuations = row }) d.holding.owner
      → Answered plan before after (Ok long)
  sheet_wrote valid z long e l row same here is-here after total d w by-here count =
      let room = rw e at l in
      let div = subst (λ (A : Set). Divided (record { m = r.m; n = r.n; valuations = row }) A d) is-here by-here in
      rw e (sheet (length_of r.m r.n) w.long room
      (ap (λ (x : Reading). verdict_of x (take (length_of r.m r.n) after)) (sym is) ∙ accepts r (take (length_of r.m r.n) after) (states r valid row same z before after total d w room div count))
      (rest_same r valid row same z before after total d w room div count))
