-- The functions for C callers, from what they promise.
use Prim.Native.Nat.{ℕ, ◌+◌, ◌*◌, ◌≤◌, ◌<◌}
use mathlib.Core.Path.{◌≡◌, refl, sym, ◌∙◌, subst}
use mathlib.Core.Bool.{Bool, true, false, not, cond}
use mathlib.Core.List.{List}
use native.Mathlib.Omega.{arith}
use lib.Dec.{eqb, ltb}
use lib.ListN.{length}
use borrow.Author.Tests.{eqb-true}
use Rattle.matroid.proofs.Sets.{size_le}
use Rattle.matroid.proofs.Rank.{worth_le_size}
use Rattle.sets.specs.Bits.{bit}
use Rattle.std.proofs.Common.{Ok, Err, Result}
use Rattle.command.specs.declared.refusal.Refusal.{Refusal}
use Rattle.command.specs.Refusal.{refuse}
use Rattle.plan.specs.declared.Reading.{Reading}
use Rattle.plan.specs.Read.{read_plan}
use Rattle.plan.specs.Teams.{team_matroid}
use Rattle.plan.specs.Worth.{worth_answer, worth_number, worth_place, worth_value, WorthTold}
use Rattle.plan.proofs.Answers.{answer_told}
use Rattle.plan.proofs.Bounds.{bounded}
use Rattle.plan.proofs.Numbers.{read_most}
use Rattle.sheet.specs.Layout.{length_of}
use Rattle.sheet.proofs.Sizes.{length_le}
use Rattle.checker.specs.Verdict.{Verdict, verdict_number, verdict_place}
use Rattle.checker.specs.Check.{check_sheet}
use Rattle.checker.proofs.Answers.{check_told}
use Rattle.checker.proofs.Acceptance.{fair}
use Rattle.builder.specs.Build.{Built, build_answer, built_number, built_place, built_length, Answered}
use Rattle.builder.proofs.Answering.{build_told}
use Rattle.listing.specs.Listing.{listing_by}
use Rattle.listing.specs.Lent.{text_answer}
use Rattle.listing.specs.List.{answer_by, list_answer, list_bytes}
use Rattle.listing.proofs.Most.{listing_most}
use Rattle.desk.specs.Desk.{desk_built, desk_verdict, desk_worth}
use Rattle.desk.proofs.Small.{built_small, verdict_small, list_small}
use Rattle.demands.specs.Desk.{DeskBuilds, DeskLists, DeskChecks, DeskValues}
use Rattle.demands.proofs.Refusing.{builds, checks}
use Rattle.demands.proofs.Ranking.{values, check_accepts}
use Rattle.demands.proofs.Listing.{lists}

-- one number of Build's answer
built_one : (a : Built) → desk_built a ≡ 65536 * built_number a + built_place a + built_length a
built_one (Ok long) = omega arith
built_one (Err x) = omega arith

-- the length answered is small
length_small : (plan before : List ℕ) → built_length (build_answer plan before) < 65536
length_small plan before = let e = (build_told plan before (build_answer plan before) refl).long in subst (λ (k : ℕ). k < 65536) (sym e) (go (eqb r.refusal 0) refl (ltb (length before) (length_of r.m r.n)))
  where
    r : Reading
    r = read_plan plan

    go : (b : Bool) → eqb r.refusal 0 ≡ b → (c : Bool) → cond (not b) 0 (cond c 0 (length_of r.m r.n)) < 65536
    go false e c = omega arith
    go true e true = omega arith
    go true e false = let v = (bounded plan).valid (eqb-true r.refusal 0 e) in let l = length_le r.m r.n v.small v.few in omega arith

pub desk_builds : (plan before after : List ℕ) (k : ℕ) → k ≡ desk_built (build_answer plan before) → Answered plan before after (build_answer plan before) → DeskBuilds plan before after k
desk_builds plan before after k is answered = record {
  number = built_number a;
  place = built_place a;
  long = built_length a;
  is = is ∙ built_one a;
  small = ((built_small plan before).0, (built_small plan before).1, length_small plan before);
  builds = builds plan before after a (build_told plan before a refl) answered;
}
  where
    a : Built
    a = build_answer plan before

-- one number of Check's
verdict_one : (v : Verdict) → desk_verdict v ≡ 65536 * verdict_number v + verdict_place v
verdict_one (Ok x) = omega arith
verdict_one (Err x) = refl

pub desk_checks : (plan sheet : List ℕ) (k : ℕ) → k ≡ desk_verdict (check_sheet plan sheet) → DeskChecks plan sheet k
desk_checks plan sheet k is = record {
  number = verdict_number v;
  place = verdict_place v;
  is = is ∙ verdict_one v;
  small = verdict_small plan sheet;
  checks = checks plan sheet v (check_told plan sheet (read_plan plan) refl v refl);
  accepts = check_accepts plan sheet v refl (fair plan sheet);
}
  where
    v : Verdict
    v = check_sheet plan sheet

-- the length of a listing is small too
listed_small : (plan sheet before : List ℕ) → built_length (list_answer plan sheet before) < 65536
unfolding text_answer
listed_small plan sheet before = go (check_sheet plan sheet) refl
  where
    text : List ℕ
    text = listing_by (read_plan plan) sheet

    fits : (b : Bool) → length text ≤ 512 → built_length (cond b (refuse 10 (length text)) (Ok (length text))) < 65536
    fits true l = omega arith
    fits false l = omega arith

    go : (v : Verdict) → v ≡ check_sheet plan sheet → built_length (answer_by v text before) < 65536
    go (Ok x) e = fits (ltb (length before) (length text)) (listing_most plan sheet (sym e))
    go (Err x) e = omega arith

pub desk_lists : (plan sheet before after : List ℕ) (k : ℕ) → k ≡ desk_built (list_answer plan sheet before) → after ≡ list_bytes plan sheet before → DeskLists plan sheet before after k
desk_lists plan sheet before after k is bytes = record {
  number = built_number a;
  place = built_place a;
  long = built_length a;
  is = is ∙ built_one a;
  small = ((list_small plan sheet before).0, (list_small plan sheet before).1, listed_small plan sheet before);
  lists = lists plan sheet before after a refl bytes;
}
  where
    a : Built
    a = list_answer plan sheet before

-- one number of Worth's
worth_one : (a : Result ℕ Refusal) → desk_worth a ≡ 65536 * worth_number a + worth_place a + worth_value a
worth_one (Ok worth) = omega arith
worth_one (Err x) = omega arith

-- no set is worth more than there are instruments
worth_small : (plan : List ℕ) (team set : ℕ) (a : Result ℕ Refusal) → WorthTold plan team set a → worth_value a ≤ 64
worth_small plan team set (Err x) told = omega arith
worth_small plan team set (Ok worth) told =
    let v = (bounded plan).valid (sym told.number) in
    let small = v.small in
    let most = worth_le_size (team_matroid (read_plan plan) team) (bit set) in
    let all = size_le (read_plan plan).m (bit set) in
    let value = told.value in
    omega arith

pub desk_values : (plan : List ℕ) (team set k : ℕ) → k ≡ desk_worth (worth_answer plan team set) → DeskValues plan team set k
desk_values plan team set k is = record {
  number = worth_number a;
  place = worth_place a;
  worth = worth_value a;
  is = is ∙ worth_one a;
  small = (
    let e = told.number in
        let l = read_most plan in
        omega arith,
    let e = told.place in
        let l = (bounded plan).place in
        omega arith,
    worth_small plan team set a told,
  );
  values = values plan team set a told;
}
  where
    a : Result ℕ Refusal
    a = worth_answer plan team set

    told : WorthTold plan team set a
    told = (answer_told plan team set a refl).1
