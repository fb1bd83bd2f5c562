-- Every refusal's number is at most 18 and its place below 65,536, so that the desk's one number tells both.
use Prim.Native.Nat.{ℕ, ◌≤◌, ◌<◌}
use mathlib.Core.Path.{◌≡◌, refl, sym, ap, ◌∙◌, subst}
use mathlib.Core.Bool.{Bool, true, false, not, cond}
use mathlib.Core.List.{List, [], ◌∷◌}
use native.Mathlib.Omega.{arith}
use native.Mathlib.Nat.{lt_of_lt_of_le}
use lib.Dec.{eqb, ltb}
use lib.ListN.{length}
use borrow.Author.Tests.{ltb-true, eqb-true}
use Rattle.matroid.specs.Search.{All}
use Rattle.plan.specs.declared.Reading.{Reading}
use Rattle.std.proofs.Common.{Ok, Err, Result}
use Rattle.std.specs.Result.{result_and}
use Rattle.command.specs.declared.refusal.Refusal.{Refusal}
use Rattle.command.specs.Refusal.{refuse, number_of, place_of}
use Rattle.command.specs.Rule.{Rule, first_broken}
use Rattle.plan.specs.Read.{read_plan}
use Rattle.plan.specs.Worth.{WorthTold}
use Rattle.plan.proofs.Bounds.{bounded}
use Rattle.plan.proofs.Numbers.{read_most}
use Rattle.sheet.specs.Layout.{length_of}
use Rattle.sheet.proofs.Sizes.{length_le}
use Rattle.builder.specs.Build.{Built, answer_by, build_answer, built_number, built_place}
use Rattle.checker.specs.Verdict.{Verdict, Accepted, verdict_number, verdict_place}
use Rattle.checker.specs.Check.{form_rules, verdict_of, check_sheet}
use Rattle.listing.specs.Listing.{listing_by}
use Rattle.listing.specs.Lent.{text_answer}
use Rattle.listing.specs.List.{answer_by as listAnswerBy, list_answer}
use Rattle.listing.proofs.Most.{listing_most}
use Rattle.desk.specs.Desk.{desk_built, desk_verdict}

-- number and place of an answer are small
abbrev pub SmallAnswer : Result ℕ Refusal → Type 0
SmallAnswer answer = (number_of answer ≤ 18) × (place_of answer < 65536)

-- ---- Worth's refusals: Read's

pub worth_small : (plan : List ℕ) (team set : ℕ) (a : Result ℕ Refusal) → WorthTold plan team set a → SmallAnswer a
worth_small plan team set a told =
    let most = read_most plan in
    let inside = (bounded plan).place in
    let number' = told.number in
    let place' = told.place in
    (omega arith, omega arith)

-- a refusal of Worth by its number and place
pub worth_told : (plan : List ℕ) (team set : ℕ) (a : Result ℕ Refusal) (n p : ℕ) → WorthTold plan team set a → a ≡ refuse n p → (n ≤ 18) × (p < 65536)
worth_told plan team set a n p w t = subst SmallAnswer t (worth_small plan team set a w)

-- ---- Build's refusals

pub built_small : (plan buffer : List ℕ) → (built_number (build_answer plan buffer) ≤ 18) × (built_place (build_answer plan buffer) < 65536)
unfolding answer_by
built_small plan buffer = go (eqb (read_plan plan).refusal 0) refl
  where
    r : Reading
    r = read_plan plan

    long : (b : Bool) → length_of r.m r.n ≤ 2642
        → (built_number (cond b (refuse 10 (length_of r.m r.n)) (Ok (length_of r.m r.n))) ≤ 18) × (built_place (cond b (refuse 10 (length_of r.m r.n)) (Ok (length_of r.m r.n))) < 65536)
    long true l = (omega arith, omega arith)
    long false l = (omega arith, omega arith)

    go : (b : Bool) → eqb r.refusal 0 ≡ b
        → (built_number (cond (not b) (refuse r.refusal r.place) (cond (ltb (length buffer) (length_of r.m r.n)) (refuse 10 (length_of r.m r.n)) (Ok (length_of r.m r.n)))) ≤ 18)
        × (built_place (cond (not b) (refuse r.refusal r.place) (cond (ltb (length buffer) (length_of r.m r.n)) (refuse 10 (length_of r.m r.n)) (Ok (length_of r.m r.n)))) < 65536)
    go true e = let v = (bounded plan).valid (eqb-true r.refusal 0 e) in long (ltb (length buffer) (length_of r.m r.n)) (length_le r.m r.n v.small v.few)
    go false e = (let l = read_most plan in omega arith, let l = (bounded plan).place in omega arith)

-- ---- Check's refusals

-- a broken rule has a small number and place
abbrev SmallRule : Rule Verdict → Type 0
SmallRule x = x.broken ≡ true → (verdict_number x.answer ≤ 18) × (verdict_place x.answer < 65536)

rules_small : (rs : List (Rule Verdict)) → All SmallRule rs → (verdict_number (first_broken Accepted rs) ≤ 18) × (verdict_place (first_broken Accepted rs) < 65536)
rules_small [] a = (omega arith, omega arith)
rules_small (x ∷ xs) a = go x.broken refl (rules_small xs a.1)
  where
    go : (b : Bool) → x.broken ≡ b → (verdict_number (first_broken Accepted xs) ≤ 18) × (verdict_place (first_broken Accepted xs) < 65536)
        → (verdict_number (cond b x.answer (first_broken Accepted xs)) ≤ 18) × (verdict_place (cond b x.answer (first_broken Accepted xs)) < 65536)
    go true e rest = a.0 e
    go false e rest = rest

pub verdict_small : (plan sheet : List ℕ) → (verdict_number (check_sheet plan sheet) ≤ 18) × (verdict_place (check_sheet plan sheet) < 65536)
unfolding verdict_of
verdict_small plan sheet = go (eqb (read_plan plan).refusal 0) refl
  where
    r : Reading
    r = read_plan plan

    go : (b : Bool) → eqb r.refusal 0 ≡ b
        → (verdict_number (cond (not b) (refuse r.refusal r.place) (first_broken Accepted (form_rules refuse r sheet))) ≤ 18)
        × (verdict_place (cond (not b) (refuse r.refusal r.place) (first_broken Accepted (form_rules refuse r sheet))) < 65536)
    go false e = (let l = read_most plan in omega arith, let l = (bounded plan).place in omega arith)
    go true e =
        let v = (bounded plan).valid (eqb-true r.refusal 0 e) in
        let l = length_le r.m r.n v.small v.few in
        let few = v.few in
        rules_small (form_rules refuse r sheet) (
          λ _. (omega arith, omega arith),
          (
            λ b. (omega arith, lt_of_lt_of_le (ltb-true _ _ b) (omega arith)),
            (
              λ b. (omega arith, lt_of_lt_of_le (ltb-true _ _ b) (omega arith)),
              (
                λ _. (omega arith, omega arith),
                (
                  λ b. (omega arith, lt_of_lt_of_le (ltb-true _ _ b) (omega arith)),
                  (λ b. (omega arith, lt_of_lt_of_le (ltb-true _ _ b) (omega arith)), tt),
                ),
              ),
            ),
          ),
        )

-- ---- the listing's refusals

-- a text of at most 512 bytes in a lent buffer
text_small : (text buffer : List ℕ) → length text ≤ 512 → (built_number (text_answer text buffer) ≤ 18) × (built_place (text_answer text buffer) < 65536)
unfolding text_answer
text_small text buffer l = go (ltb (length buffer) (length text))
  where
    go : (b : Bool) → (built_number (cond b (refuse 10 (length text)) (Ok (length text))) ≤ 18) × (built_place (cond b (refuse 10 (length text)) (Ok (length text))) < 65536)
    go true = (omega arith, omega arith)
    go false = (omega arith, omega arith)

-- Check's refusal, or 10 at the length of the listing
pub list_small : (plan sheet buffer : List ℕ) → (built_number (list_answer plan sheet buffer) ≤ 18) × (built_place (list_answer plan sheet buffer) < 65536)
list_small plan sheet buffer = go (check_sheet plan sheet) refl
  where
    text : List ℕ
    text = listing_by (read_plan plan) sheet

    go : (v : Verdict) → check_sheet plan sheet ≡ v → (built_number (listAnswerBy v text buffer) ≤ 18) × (built_place (listAnswerBy v text buffer) < 65536)
    go (Ok x) e = text_small text buffer (listing_most plan sheet e)
    go (Err x) e = rw e at (verdict_small plan sheet)

-- ---- one number of an answer

-- Check's, where what is accepted answers 0
pub verdict_and_small : (v : Verdict) → (verdict_number v ≤ 18) × (verdict_place v < 65536) → SmallAnswer (result_and v (Ok 0))
verdict_and_small (Ok x) s = (omega arith, omega arith)
verdict_and_small (Err e) s = s

pub verdict_and_told : (v : Verdict) → desk_built (result_and v (Ok 0)) ≡ desk_verdict v
verdict_and_told (Ok x) = refl
verdict_and_told (Err e) = refl
