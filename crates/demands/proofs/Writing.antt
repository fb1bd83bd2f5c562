-- Demand 3, from what Build and Check promise.
use Prim.Native.Nat.{ℕ, ◌+◌, ◌-◌, ◌≤◌}
use mathlib.Core.Path.{◌≡◌, refl, sym, ap, ◌∙◌, subst}
use mathlib.Core.Bool.{false≢true}
use mathlib.Core.List.{List}
use native.Mathlib.Omega.{arith}
use native.Mathlib.Decide.{ℕ_discrete, dec_le}
use lib.ListN.{length, take, drop, get_or}
use lib.Seq.{get_or-drop}
use borrow.Author.Tests.{eq-eqb, le-ltb}
use Rattle.matroid.specs.Best.{best}
use Rattle.matroid.proofs.Optimum.{best_most, best_attained}
use Rattle.plan.specs.declared.Reading.{Reading}
use Rattle.plan.specs.Read.{read_plan}
use Rattle.plan.specs.Teams.{team_matroid}
use Rattle.sheet.specs.Layout.{length_of}
use Rattle.sheet.specs.Fields.{total_at, holder_at}
use Rattle.std.proofs.Common.{Ok, Err, is_ok}
use Rattle.command.specs.declared.refusal.Refusal.{Refusal}
use Rattle.checker.specs.Check.{check_sheet}
use Rattle.checker.specs.Verdict.{Verdict, Accepted, verdict_number}
use Rattle.checker.specs.Fair.{FairBy, Fair}
use Rattle.checker.proofs.Acceptance.{stated, fair}
use Rattle.builder.specs.Build.{Built, answer_by, build_answer, built_number, built_place, built_length, BuildTold, Answered}
use Rattle.builder.specs.Build as build
use Rattle.demands.specs.One.{L, Builds}
use Rattle.demands.specs.Three.{GoodBy, Good, Writes, Agrees}
use Rattle.demands.proofs.Refusing.{builds}
use Rattle.demands.proofs.Ranking.{zero_accepts}

-- from Fair alone: the total stated is the best one
pub fair_best : (r : Reading) (sheet : List ℕ) → FairBy r sheet → total_at sheet ≡ best r.n (team_matroid r)
fair_best r sheet f =
    let a = best_attained r.n (team_matroid r) in
    let e = a.full in
    let u = f.total_best a.holder in
    let l = best_most r.n (team_matroid r) (holder_at sheet) in
    let t = f.total_true in
    omega arith

-- and all that demand 3 says of the sheet
pub fair_good : (r : Reading) (sheet : List ℕ) → FairBy r sheet → GoodBy r sheet
fair_good r sheet f = record { total_true = f.total_true; total_best = f.total_best; total_greatest = fair_best r sheet f; shares_true = f.shares_true; cut_matched = f.cut_matched }

-- any bytes that Check accepts
pub check_good : (plan sheet : List ℕ) (v : Verdict) → v ≡ check_sheet plan sheet → (v ≡ Accepted → Fair plan sheet) → verdict_number v ≡ 0 → Good plan sheet
check_good plan sheet v is fair z = fair_good (read_plan plan) sheet (fair (is ∙ sym (zero_accepts plan sheet v is z)))

-- from Answered alone: the first bytes are accepted and fair, and every byte beyond them stays
pub record Written (plan before after : List ℕ) (long : ℕ) : Type 0 where
  pub same : length after ≡ length before
  pub inside : long ≤ length before
  pub accepted : check_sheet plan (take long after) ≡ Accepted
  pub fair : Fair plan (take long after)
  pub rest : (k : ℕ) → long ≤ k → get_or after k 0 ≡ get_or before k 0

-- a byte beyond the first ones, by what is left without them
beyond : (long : ℕ) (a b : List ℕ) → drop long a ≡ drop long b → (k : ℕ) → long ≤ k → get_or a k 0 ≡ get_or b k 0
beyond long a b e k l = at a ∙ ap (λ (x : List ℕ). get_or x (k - long) 0) e ∙ sym (at b)
  where
    at : (x : List ℕ) → get_or x k 0 ≡ get_or (drop long x) (k - long) 0
    at x = ap (λ (i : ℕ). get_or x i 0) (let s : k ≡ long + (k - long) = omega arith in s) ∙ sym (get_or-drop long x (k - long) 0)

pub answered_written : (plan before after : List ℕ) (a : Built) (long : ℕ) → Answered plan before after a → a ≡ Ok long → Written plan before after long
answered_written plan before after a long (build.untouched number place same) e = absurd (false≢true (ap is_ok e))
answered_written plan before after a long (build.sheet long' same inside ok rest) e =
    subst (Written plan before after) (ap built_length e) (record { same = same; inside = inside; accepted = ok; fair = fair plan (take long' after) ok; rest = beyond long' after before rest })

-- Build, lent a buffer that is long enough
build_long : (plan before : List ℕ) → (read_plan plan).refusal ≡ 0 → L (read_plan plan) ≤ length before → build_answer plan before ≡ Ok (L (read_plan plan))
unfolding answer_by
build_long plan before z l = rw (eq-eqb (read_plan plan).refusal 0 z, le-ltb (length before) (length_of (read_plan plan).m (read_plan plan).n) l) refl

pub writes : (plan before after : List ℕ) (a : Built) → a ≡ build_answer plan before → Answered plan before after a → Writes plan before after
writes plan before after a is answered z l =
    let w = answered_written plan before after a (L (read_plan plan)) answered (is ∙ build_long plan before z l) in
    record { same = w.same; stated = stated (read_plan plan) (take (L (read_plan plan)) after) (sym w.accepted); good = fair_good (read_plan plan) (take (L (read_plan plan)) after) w.fair; rest = w.rest }

-- an answer of number 0 is a length
pub build_case : (plan before after : List ℕ) (a : Built) → a ≡ build_answer plan before → BuildTold plan before a → Answered plan before after a → built_number a ≡ 0 → a ≡ Ok (built_length a)
build_case plan before after a is told answered z = go (ℕ_discrete r.refusal 0) (dec_le (L r) (length before))
  where
    r : Reading
    r = read_plan plan

    b : Builds plan before after (built_number a) (built_place a) (built_length a)
    b = builds plan before after a told answered

    go : Dec (r.refusal ≡ 0) → Dec (L r ≤ length before) → a ≡ Ok (built_length a)
    go (yes y) (yes l) = let e = is ∙ build_long plan before y l in e ∙ ap (λ (k : ℕ). Ok k) (sym (ap built_length e))
    go (yes y) (no d) = absurd (let n = (b.short y (omega arith)).0 in omega arith)
    go (no d) l = absurd (d (sym (b.read d).0 ∙ z))

-- Build, and then Check of what it wrote
pub agrees_refused : (plan before after : List ℕ) (a : Built) (x : Refusal) → BuildTold plan before a → Answered plan before after a → a ≡ Err x → Agrees plan before x.number
agrees_refused plan before after a x told answered e =
    let b = builds plan before after a told answered in
    let same : x.number ≡ built_number a = sym (ap built_number e) in
    record { accepted = λ z l. same ∙ (b.wrote z l).0; refused = λ d. same ∙ (b.read d).0; short = λ z l. same ∙ (b.short z l).0 }

pub agrees_wrote : (plan before after : List ℕ) (a : Built) (long : ℕ) (v : Verdict) (k : ℕ) → BuildTold plan before a → Answered plan before after a → a ≡ Ok long → v ≡ check_sheet plan (take long after) → k ≡ verdict_number v → Agrees plan before k
agrees_wrote plan before after a long v k told answered e is-v is-k =
    let b = builds plan before after a told answered in
    let zero : 0 ≡ built_number a = sym (ap built_number e) in
    record {
      accepted = λ z l. is-k ∙ ap verdict_number (is-v ∙ (answered_written plan before after a long answered e).accepted);
      refused = λ d. absurd (d (sym (zero ∙ (b.read d).0)));
      short = λ z l. absurd (let n = zero ∙ (b.short z l).0 in omega arith);
    }
