-- Demand 2, from what Worth and Check promise.
use Prim.Native.Nat.{ℕ, ◌<◌}
use mathlib.Core.Path.{◌≡◌, refl, sym, ap, ◌∙◌}
use mathlib.Core.Bool.{Bool, true, false, not, cond, false≢true}
use mathlib.Core.Logic.{◌≢◌}
use mathlib.Core.List.{List, [], ◌∷◌}
use native.Mathlib.Omega.{arith}
use native.Mathlib.Decide.{ℕ_discrete}
use borrow.Author.Tests.{eq-eqb, ne_eqb}
use Rattle.matroid.specs.Search.{All}
use Rattle.matroid.specs.Set.{Set}
use Rattle.matroid.specs.Matroid.{Matroid, worth}
use Rattle.matroid.specs.Share.{share}
use Rattle.matroid.proofs.Rank.{worth_attained, worth_most}
use Rattle.matroid.proofs.Shares.{share_attained, share_most}
use Rattle.matroid.proofs.Present.{present_some}
use Rattle.sets.specs.Bits.{bit}
use Rattle.plan.specs.declared.Reading.{Reading}
use Rattle.std.proofs.Common.{Ok, Err, Result}
use Rattle.command.specs.declared.refusal.Refusal.{Refusal}
use Rattle.command.specs.Refusal.{refuse}
use Rattle.plan.specs.Read.{read_plan}
use Rattle.plan.specs.Teams.{team_matroid, present, present_count}
use Rattle.plan.proofs.Answers.{absent_worth}
use Rattle.plan.specs.Worth.{answer_of, worth_answer, worth_number, worth_place, worth_value, WorthTold}
use Rattle.sheet.specs.Fields.{share_at}
use Rattle.checker.specs.Verdict.{Verdict, Accepted, verdict_number}
use Rattle.command.specs.Rule.{Rule, first_broken}
use Rattle.checker.specs.Check.{sheet_rules, verdict_of, check_sheet}
use Rattle.checker.specs.Fair.{FairBy, Fair}
use Rattle.checker.proofs.Acceptance.{stated, accepts}
use Rattle.demands.specs.Two.{Rank, Maximin, Values, SharesBy, Accepts}

-- worth is matroid rank
pub worth_rank : {m : ℕ} (M : Matroid m) (S : Set) (w : ℕ) → w ≡ worth M S → Rank M S w
worth_rank M S w e =
    let b = worth_attained M S in
    record { part = b.set; within = b.within; indep = b.indep; full = b.full ∙ sym e; most = λ A within i. let l = worth_most M within i in omega arith }

-- and share the maximin share
pub share_maximin : {m : ℕ} (M : Matroid m) (n s : ℕ) → 0 < n → s ≡ share M n → Maximin M n s
share_maximin M n s pos e =
    let c = share_attained M n pos in
    record {
      cut = c.part;
      cuts = c.below;
      reached = λ p l. let f = c.fair p l in omega arith;
      most = λ C k below fair. let l = share_most M n pos k (record { part = C; below = below; fair = fair }) in omega arith;
    }

-- Worth
pub values : (plan : List ℕ) (team set : ℕ) (a : Result ℕ Refusal) → WorthTold plan team set a → Values plan team set (worth_number a) (worth_place a) (worth_value a)
values plan team set a told = record {
  refusal = (told.number, told.place);
  rank = worth_rank (team_matroid r team) (bit set) (worth_value a) told.value;
  absent = λ l. told.value ∙ absent_worth r team set l;
}
  where
    r : Reading
    r = read_plan plan

-- an answer of number 0 is a worth
pub worth_case : (plan : List ℕ) (team set : ℕ) (a : Result ℕ Refusal) → a ≡ worth_answer plan team set → worth_number a ≡ 0 → a ≡ Ok (worth_value a)
unfolding answer_of
worth_case plan team set a e z = e ∙ go (ℕ_discrete r.refusal 0) ∙ ap (λ (x : Result ℕ Refusal). Ok (worth_value x)) (sym e)
  where
    r : Reading
    r = read_plan plan

    go : Dec (r.refusal ≡ 0) → answer_of r team set ≡ Ok (worth_value (answer_of r team set))
    go (yes y) = rw (eq-eqb r.refusal 0 y, answer_of) refl
    go (no d) = absurd (d (let here : answer_of r team set ≡ refuse r.refusal r.place = rw (ne_eqb r.refusal 0 d, answer_of) refl in sym (ap worth_number here) ∙ sym (ap worth_number e) ∙ z))

-- from Fair alone: the shares stated are maximin shares
pub fair_shares : (r : Reading) (sheet : List ℕ) → FairBy r sheet → SharesBy r sheet
fair_shares r sheet f t l here = share_maximin (team_matroid r t) (present_count r) (share_at r.m sheet t) (present_some r.n (present r) t l here) (f.shares_true t l here)

-- where no rule that is broken has the number 0, an answer of number 0 is the one of no broken rule
none_broken : (rs : List (Rule Verdict)) → All (λ r. r.broken ≡ true → verdict_number r.answer ≢ 0) rs → verdict_number (first_broken Accepted rs) ≡ 0 → Accepted ≡ first_broken Accepted rs
none_broken [] a z = refl
none_broken (r ∷ rs) a z = go r.broken refl (none_broken rs a.1) z
  where
    go : (b : Bool) → r.broken ≡ b → (verdict_number (first_broken Accepted rs) ≡ 0 → Accepted ≡ first_broken Accepted rs) → verdict_number (cond b r.answer (first_broken Accepted rs)) ≡ 0 → Accepted ≡ cond b r.answer (first_broken Accepted rs)
    go true e rest z = absurd (a.0 e z)
    go false e rest z = rest z

-- a refusal of Read has no number 0, and the other rules have 11 to 16
number_0 : (r : Reading) (sheet : List ℕ) → verdict_number (verdict_of r sheet) ≡ 0 → Accepted ≡ verdict_of r sheet
unfolding verdict_of
number_0 r sheet z = none_broken (sheet_rules refuse r sheet) (
  λ b e. false≢true (sym (ap not (eq-eqb r.refusal 0 e)) ∙ b),
  (λ b e. omega arith, (λ b e. omega arith, (λ b e. omega arith, (λ b e. omega arith, (λ b e. omega arith, (λ b e. omega arith, tt)))))),
) z

-- a verdict of number 0 accepts
pub zero_accepts : (plan sheet : List ℕ) (v : Verdict) → v ≡ check_sheet plan sheet → verdict_number v ≡ 0 → Accepted ≡ check_sheet plan sheet
zero_accepts plan sheet v is z = number_0 (read_plan plan) sheet (sym (ap verdict_number is) ∙ z)

-- Check, from what it promises
pub check_accepts : (plan sheet : List ℕ) (v : Verdict) → v ≡ check_sheet plan sheet → (v ≡ Accepted → Fair plan sheet) → Accepts plan sheet (verdict_number v)
check_accepts plan sheet v is fair = record {
  exactly = (λ z. stated (read_plan plan) sheet (zero_accepts plan sheet v is z), λ s. ap verdict_number (is ∙ accepts (read_plan plan) sheet s));
  shares = λ z. fair_shares (read_plan plan) sheet (fair (is ∙ sym (zero_accepts plan sheet v is z)));
}

-- and its case
pub check_case : (plan sheet : List ℕ) (v : Verdict) → v ≡ check_sheet plan sheet → verdict_number v ≡ 0 → v ≡ Accepted
check_case plan sheet v is z = is ∙ sym (zero_accepts plan sheet v is z)
