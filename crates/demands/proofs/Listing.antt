-- The weekly listing, from what `list` and `week` promise.
use Prim.Native.Nat.{ℕ, ◌≤◌, ◌<◌}
use mathlib.Core.Path.{◌≡◌, refl, sym, ap, ◌∙◌, subst}
use mathlib.Core.Logic.{◌≢◌}
use mathlib.Core.List.{List}
use native.Mathlib.Omega.{arith}
use lib.ListN.{length}
use borrow.Author.Tests.{lt-ltb, le-ltb}
use Rattle.plan.specs.Read.{read_plan}
use Rattle.std.proofs.Common.{Ok, Err}
use Rattle.command.specs.Refusal.{refuse}
use Rattle.checker.specs.Verdict.{Verdict, Accepted}
use Rattle.checker.specs.Check.{check_sheet}
use Rattle.checker.specs.Stated.{Stated}
use Rattle.checker.proofs.Answers.{check_told}
use Rattle.checker.proofs.Acceptance.{stated, accepts, fair}
use Rattle.builder.specs.Build.{Built, built_number, built_place, built_length}
use Rattle.listing.specs.Listing.{listing_by, refusal_line}
use Rattle.listing.specs.Lent.{text_answer, text_in}
use Rattle.listing.specs.List.{answer_by, bytes_by, list_answer, list_bytes}
use Rattle.listing.specs.Week.{Week, WeekText}
use Rattle.listing.specs.Week as week
use Rattle.listing.proofs.Most.{listing_most, line_most}
use Rattle.demands.specs.One.{Checks}
use Rattle.demands.specs.Listings.{StartsWith, Lists, Lines, ListsGood, Prints}
use Rattle.demands.proofs.Refusing.{checks}
use Rattle.demands.proofs.Writing.{fair_good}

-- a text in a buffer that is long enough, and in one that is not
text_fits : (text before : List ℕ) → length text ≤ length before → (text_answer text before ≡ Ok (length text)) × StartsWith text before (text_in text before)
unfolding text_answer text_in
text_fits text before l = rw (le-ltb (length before) (length text) l) (refl, refl)

text_long : (text before : List ℕ) → length before < length text → (text_answer text before ≡ refuse 10 (length text)) × (text_in text before ≡ before)
unfolding text_answer text_in
text_long text before l = rw (lt-ltb (length before) (length text) l) (refl, refl)

pub lists : (plan sheet before after : List ℕ) (a : Built) → a ≡ list_answer plan sheet before → after ≡ list_bytes plan sheet before → Lists plan sheet before after (built_number a) (built_place a) (built_length a)
lists plan sheet before after a is bytes = record {
  refused = λ d. left (check_sheet plan sheet) refl d;
  short = λ s l.
      let t = text_long text before l in
      let e = is ∙ ap (λ (v : Verdict). answer_by v text before) (ok s) ∙ t.0 in
      (ap built_number e, ap built_place e, bytes ∙ ap (λ (v : Verdict). bytes_by v text before) (ok s) ∙ t.1);
  listed = λ s l.
      let t = text_fits text before l in
      let e = is ∙ ap (λ (v : Verdict). answer_by v text before) (ok s) ∙ t.0 in
      (ap built_number e, ap built_length e, bytes ∙ ap (λ (v : Verdict). bytes_by v text before) (ok s) ∙ t.1);
  most = λ s. listing_most plan sheet (ok s);
}
  where
    text : List ℕ
    text = listing_by (read_plan plan) sheet

    ok : Stated (read_plan plan) sheet → check_sheet plan sheet ≡ Accepted
    ok s = accepts (read_plan plan) sheet s

    left : (v : Verdict) → v ≡ check_sheet plan sheet → (Stated (read_plan plan) sheet → ⊥) → Checks plan sheet (built_number a) (built_place a) × (after ≡ before)
    left (Ok x) e d = absurd (d (stated (read_plan plan) sheet e))
    left (Err x) e d =
        let told = is ∙ ap (λ (v : Verdict). answer_by v text before) (sym e) in
        let c : Checks plan sheet x.number x.place = checks plan sheet (Err x) (check_told plan sheet (read_plan plan) refl (Err x) e) in
        (subst (λ (k : ℕ). Checks plan sheet k (built_place a)) (sym (ap built_number told)) (subst (Checks plan sheet x.number) (sym (ap built_place told)) c), bytes ∙ ap (λ (v : Verdict). bytes_by v text before) (sym e))

pub lines : (number place : ℕ) (before after : List ℕ) (a : Built) → a ≡ text_answer (refusal_line number place) before → after ≡ text_in (refusal_line number place) before
    → Lines number place before after (built_number a) (built_place a) (built_length a)
lines number place before after a is bytes = record {
  short = λ l. let t = text_long (refusal_line number place) before l in (ap built_number (is ∙ t.0), ap built_place (is ∙ t.0), bytes ∙ t.1);
  written = λ l. let t = text_fits (refusal_line number place) before l in (ap built_number (is ∙ t.0), ap built_length (is ∙ t.0), bytes ∙ t.1);
}

-- the text of a plan has at most 512 bytes
text_most : {plan text : List ℕ} → WeekText plan text → length text ≤ 512
text_most {plan} (week.refused d) = let l = line_most (read_plan plan).refusal (read_plan plan).place in omega arith
text_most {plan} (week.listed sheet ok) = listing_most plan sheet ok

-- where it is put into 512 bytes
module _ (plan before after : List ℕ) (a : Built) (room : 512 ≤ length before) where
  text_wrote : {text : List ℕ} → WeekText plan text → a ≡ text_answer text before → a ≡ Ok (length text)
  text_wrote {text} k is = is ∙ (text_fits text before (let l = text_most k in omega arith)).0

  text_starts : {text : List ℕ} → WeekText plan text → after ≡ text_in text before → StartsWith text before after
  text_starts {text} k bytes = bytes ∙ (text_fits text before (let l = text_most k in omega arith)).1

  week_refused : {text : List ℕ} → WeekText plan text → a ≡ text_answer text before → after ≡ text_in text before → (read_plan plan).refusal ≢ 0
      → (built_length a ≡ length (refusal_line (read_plan plan).refusal (read_plan plan).place)) × StartsWith (refusal_line (read_plan plan).refusal (read_plan plan).place) before after
  week_refused (week.refused e) is bytes d = (ap built_length (text_wrote (week.refused e) is), text_starts (week.refused e) bytes)
  week_refused (week.listed sheet ok) is bytes d = absurd (d (stated (read_plan plan) sheet (sym ok)).read)

  week_divided : {text : List ℕ} → WeekText plan text → a ≡ text_answer text before → after ≡ text_in text before → (read_plan plan).refusal ≡ 0 → ListsGood plan before after (built_length a)
  week_divided (week.refused e) is bytes z = absurd (e z)
  week_divided (week.listed sheet ok) is bytes z = record {
    sheet = sheet;
    stated = stated (read_plan plan) sheet (sym ok);
    good = fair_good (read_plan plan) sheet (fair plan sheet ok);
    long_is = ap built_length (text_wrote (week.listed sheet ok) is);
    bytes = text_starts (week.listed sheet ok) bytes;
  }

pub prints : (plan before after : List ℕ) (a : Built) → Week plan before after a → Prints plan before after (built_number a) (built_length a)
prints plan before after a w = record {
  fits = λ room. ap built_number (text_wrote plan before after a room w.is w.answer);
  refused = λ room d. week_refused plan before after a room w.is w.answer w.bytes d;
  divided = λ room z. week_divided plan before after a room w.is w.answer w.bytes z;
}
