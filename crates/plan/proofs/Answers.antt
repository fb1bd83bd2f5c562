-- The operation Worth, from the answers of what it calls.
use Rattle.std.specs.Prelude.{Ok, Err, Result}
use Prim.Native.Nat.{ℕ, ◌+◌, ◌≤◌}
use mathlib.Core.Path.{◌≡◌, refl, sym, ap, ◌∙◌, subst}
use mathlib.Core.Logic.{◌≢◌}
use mathlib.Core.List.{List}
use native.Mathlib.Omega.{arith}
use native.Mathlib.Decide.{ℕ_discrete}
use borrow.Author.Tests.{eq-eqb, ne_eqb, le-ltb}
use Rattle.matroid.specs.Set.{Set}
use Rattle.matroid.specs.Matroid.{worth}
use Rattle.sets.specs.Bits.{bit}
use Rattle.command.specs.declared.refusal.Refusal.{Refusal}
use Rattle.command.specs.Refusal.{refuse, number_of}
use Rattle.kinds.specs.declared.Valuation.{Valuation}
use Rattle.kinds.specs.Valuations.{matroid_of, blank_valuation}
use Rattle.kinds.proofs.Nothing.{blank_worth}
use Rattle.plan.specs.declared.Reading.{Reading}
use Rattle.plan.specs.Read.{refused, acceptance, read_plan}
use Rattle.plan.specs.Teams.{valuation_of, team_matroid}
use Rattle.plan.specs.Worth.{answer_of, worth_answer, worth_number, worth_place, worth_value, WorthTold}
use Rattle.plan.proofs.Steps.{number, finished_by}
use Rattle.plan.proofs.Bounds.{all_readings}

-- the number of a reading that is tested, which is 0 where it is accepted
acceptance_number : (r : Reading) → number_of (acceptance r) ≡ r.refusal
acceptance_number r = go (ℕ_discrete r.refusal 0)
  where
    go : Dec (r.refusal ≡ 0) → number_of (acceptance r) ≡ r.refusal
    go (yes z) = rw (eq-eqb r.refusal 0 z) (sym z)
    go (no d) = rw (ne_eqb r.refusal 0 d) refl

pub accepted_zero : (r : Reading) (x : Result Unit Refusal) → x ≡ acceptance r → x ≡ Ok tt → r.refusal ≡ 0
accepted_zero r x is e = sym (acceptance_number r) ∙ sym (ap number_of is) ∙ ap number_of e

-- what no accepted reading answers
abbrev Stops : Result Unit Refusal → Type 0
Stops (Ok x) = ⊥
Stops (Err e) = Unit {0}

-- the refusal that an answer carries
abbrev refusal_in : Refusal → Result Unit Refusal → Refusal
refusal_in e (Ok x) = e
refusal_in e (Err d) = d

module _ (file : List ℕ) (team set : ℕ) (r : Reading) (is : r ≡ read_plan file) where
  pub answer_refused : r.refusal ≢ 0 → refuse r.refusal r.place ≡ worth_answer file team set
  unfolding answer_of
  answer_refused d =
      let here : answer_of r team set ≡ refuse r.refusal r.place = rw (ne_eqb r.refusal 0 d, answer_of) refl in
      sym here ∙ ap (λ (x : Reading). answer_of x team set) is

  -- the refusal of a reading that is tested
  pub answer_stopped : (x : Result Unit Refusal) (e : Refusal) → x ≡ acceptance r → x ≡ Err e → Err e ≡ worth_answer file team set
  answer_stopped x e tested stopped = go (ℕ_discrete r.refusal 0)
    where
      go : Dec (r.refusal ≡ 0) → Err e ≡ worth_answer file team set
      go (yes z) = let here : acceptance r ≡ Ok tt = rw (eq-eqb r.refusal 0 z) refl in absurd (subst Stops (sym stopped ∙ tested ∙ here) tt)
      go (no d) =
          let here : acceptance r ≡ refuse r.refusal r.place = rw (ne_eqb r.refusal 0 d) refl in
          let same : e ≡ record { number = r.refusal; place = r.place } = ap (refusal_in e) (sym stopped ∙ tested ∙ here) in
          rw same (answer_refused d)

  pub answer_worth : (v : Valuation) (w : ℕ) → r.refusal ≡ 0 → v ≡ valuation_of r team → w ≡ worth (matroid_of r.m v) (bit set) → Ok w ≡ worth_answer file team set
  unfolding answer_of
  answer_worth v w z ev ew =
      let here : answer_of r team set ≡ Ok w = rw (ew, ev, eq-eqb r.refusal 0 z, answer_of) refl in
      sym here ∙ ap (λ (x : Reading). answer_of x team set) is

  -- a team that is not in the plan values every set at 0
  pub answer_absent : r.refusal ≡ 0 → r.n ≤ team → Ok 0 ≡ worth_answer file team set
  answer_absent z l = answer_worth blank_valuation 0 z (rw (le-ltb team r.n l)) (sym (blank_worth r.m (bit set)))

-- ---- the answer's numbers

-- "to a team not in the plan every set is worth 0"
pub absent_any : (r : Reading) (team : ℕ) (S : Set) → r.n ≤ team → worth (team_matroid r team) S ≡ 0
absent_any r team S l = rw (le-ltb team r.n l) (blank_worth r.m S)

pub absent_worth : (r : Reading) (team set : ℕ) → r.n ≤ team → worth (team_matroid r team) (bit set) ≡ 0
absent_worth r team set = absent_any r team (bit set)

-- an accepted reading has place 0, and a refused one no team
pub rest_zero : (file : List ℕ) → ((read_plan file).refusal ≡ 0 → (read_plan file).place ≡ 0) × ((read_plan file).refusal ≢ 0 → (read_plan file).n ≡ 0)
rest_zero file = all_readings file Rest (λ at s rows _ _ d. refuses (number file at s rows) at d) (λ at s rows _ _ _ _. finished_by Rest file at s rows (refuses 18 at (omega arith)) (refuses 9 (at + 1) (omega arith)) (λ _ _. (λ _. refl, λ d. absurd (d refl)))) (refuses 1 0 (omega arith))
  where
    Rest : Reading → Type 0
    Rest r = (r.refusal ≡ 0 → r.place ≡ 0) × (r.refusal ≢ 0 → r.n ≡ 0)

    refuses : (number place : ℕ) → number ≢ 0 → Rest (refused number place)
    refuses number place d = (λ z. absurd (d z), λ _. refl)

-- Worth answers Read's number and place, and what the set is worth, for any bytes
worth_told : (file : List ℕ) (team set : ℕ) → WorthTold file team set (worth_answer file team set)
unfolding answer_of
worth_told file team set = go (ℕ_discrete r.refusal 0) (rest_zero file)
  where
    r : Reading
    r = read_plan file

    go : Dec (r.refusal ≡ 0) → (r.refusal ≡ 0 → r.place ≡ 0) × (r.refusal ≢ 0 → r.n ≡ 0) → WorthTold file team set (answer_of r team set)
    go (yes z) (place, _) =
        let here : answer_of r team set ≡ Ok (worth (team_matroid r team) (bit set)) = rw (eq-eqb r.refusal 0 z, answer_of) refl in
        record { number = ap worth_number here ∙ sym z; place = ap worth_place here ∙ sym (place z); value = ap worth_value here }
    go (no d) (_, none) =
        let here : answer_of r team set ≡ refuse r.refusal r.place = rw (ne_eqb r.refusal 0 d, answer_of) refl in
        let e = none d in
        record { number = ap worth_number here; place = ap worth_place here; value = ap worth_value here ∙ sym (absent_worth r team set (omega arith)) }

-- an answer, and its numbers
pub answer_told : (file : List ℕ) (team set : ℕ) (a : Result ℕ Refusal) → a ≡ worth_answer file team set → (a ≡ worth_answer file team set) × WorthTold file team set a
answer_told file team set a e = (e, rw e (worth_told file team set))
