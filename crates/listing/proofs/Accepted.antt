-- What Check's acceptance, and Build's answer, tell about a sheet that is listed.
use Prim.Native.Nat.{ℕ, ◌≤◌}
use mathlib.Core.Path.{◌≡◌, refl, sym, ap, ◌∙◌, subst}
use mathlib.Core.Bool.{Bool, true, false, not, cond, false≢true}
use mathlib.Core.List.{List}
use native.Mathlib.Omega.{arith}
use lib.Dec.{eqb, ltb}
use lib.ListN.{length, get_or, take}
use borrow.Author.Tests.{eqb-true, eqb-false, ltb-true}
use Rattle.plan.specs.declared.Reading.{Reading}
use Rattle.plan.specs.Read.{read_plan}
use Rattle.plan.proofs.Bounds.{bounded}
use Rattle.sheet.specs.Layout.{length_of}
use Rattle.sheet.proofs.Sizes.{length_le}
use Rattle.std.proofs.Common.{Ok, Err, is_ok}
use Rattle.command.specs.declared.refusal.Refusal.{Refusal}
use Rattle.command.specs.Refusal.{refuse}
use Rattle.checker.specs.Verdict.{Verdict, Accepted}
use Rattle.checker.specs.Check.{check_sheet}
use Rattle.checker.proofs.Acceptance.{stated}
use Rattle.builder.specs.Build.{Built, answer_by, build_answer, built_number, built_place, built_length, Answered}
use Rattle.builder.specs.Build as build
use Rattle.listing.specs.Listing.{listing, listing_by, refusal_line}
use Rattle.listing.specs.Lent.{text_answer, text_in}
use Rattle.listing.specs.List.{answer_by as listAnswerBy, bytes_by, list_answer, list_bytes}
use Rattle.listing.proofs.Lining.{head_before}
use Rattle.listing.specs.Week.{Week, refused, listed}

-- an accepted sheet, whose HEAD has the plan's m and n
pub record Shaped (r : Reading) (sheet : List ℕ) : Type 0 where
  pub m : get_or sheet 1 0 ≡ r.m
  pub n : get_or sheet 2 0 ≡ r.n
  pub small : r.m ≤ 64
  pub few : r.n ≤ 12
  pub long : length sheet ≡ length_of r.m r.n
  pub head : 4 ≤ length sheet

pub shaped : (plan sheet : List ℕ) (v : Verdict) → v ≡ check_sheet plan sheet → v ≡ Accepted → Shaped (read_plan plan) sheet
shaped plan sheet v is e =
    let s = stated (read_plan plan) sheet (sym e ∙ is) in
    let valid = (bounded plan).valid s.read in
    record { m = s.formed.head_m; n = s.formed.head_n; small = valid.small; few = valid.few; long = s.long; head = (head_before (read_plan plan).m (read_plan plan).n (length sheet) (let e = s.long in omega arith)).0 }

-- so that HEAD's m and n are small, and the sheet as long as they say
pub shape_fits : {r : Reading} {sheet : List ℕ} {m n : ℕ} → Shaped r sheet → m ≡ get_or sheet 1 0 → n ≡ get_or sheet 2 0 → (m ≤ 64) × (n ≤ 12) × (length_of m n ≤ length sheet)
shape_fits {r} {sheet} {m} {n} s m-is n-is =
    let em : m ≡ r.m = m-is ∙ s.m in
    let en : n ≡ r.n = n-is ∙ s.n in
    rw (em, en) (s.small, s.few, let e = s.long in omega arith)

-- the listing by HEAD's m and n is the one by the plan's
pub list_accepted : (plan sheet buffer after : List ℕ) (v : Verdict) (m n : ℕ) (r : Built) → v ≡ check_sheet plan sheet → v ≡ Accepted → m ≡ get_or sheet 1 0 → n ≡ get_or sheet 2 0
    → r ≡ text_answer (listing m n sheet) buffer → after ≡ text_in (listing m n sheet) buffer → (r ≡ list_answer plan sheet buffer) × (after ≡ list_bytes plan sheet buffer)
list_accepted plan sheet buffer after v m n r is e m-is n-is answer bytes =
    let s = shaped plan sheet v is e in
    let text : listing m n sheet ≡ listing_by (read_plan plan) sheet = ap (λ (k : ℕ). listing k n sheet) (m-is ∙ s.m) ∙ ap (λ (k : ℕ). listing (read_plan plan).m k sheet) (n-is ∙ s.n) in
    let told : check_sheet plan sheet ≡ Accepted = sym is ∙ e in
    rw told (answer ∙ ap (λ (x : List ℕ). text_answer x buffer) text, bytes ∙ ap (λ (x : List ℕ). text_in x buffer) text)

pub list_refused : (plan sheet buffer : List ℕ) (v : Verdict) (x : Refusal) → v ≡ check_sheet plan sheet → v ≡ Err x → (Err x ≡ list_answer plan sheet buffer) × (buffer ≡ list_bytes plan sheet buffer)
list_refused plan sheet buffer v x is e = let told : check_sheet plan sheet ≡ Err x = sym is ∙ e in rw told (refl, refl)

-- ---- what Build answers in 2,642 bytes

-- a sheet that it wrote
pub record Built-sheet (plan after : List ℕ) (long : ℕ) : Type 0 where
  pub inside : long ≤ length after
  pub accepted : check_sheet plan (take long after) ≡ Accepted

pub built_sheet : (plan before after : List ℕ) (b : Built) (long : ℕ) → Answered plan before after b → b ≡ Ok long → Built-sheet plan after long
built_sheet plan before after b long (build.untouched number place same) e = absurd (false≢true (ap is_ok e))
built_sheet plan before after b long (build.sheet long' same inside ok rest) e = subst (Built-sheet plan after) (ap built_length e) (record { inside = omega arith; accepted = ok })

-- where it refuses, it is the plan's refusal
pub built_refused : (plan before : List ℕ) (number place : ℕ) → 2642 ≤ length before → build_answer plan before ≡ refuse number place
    → ((read_plan plan).refusal ≡ 0 → ⊥) × ((read_plan plan).refusal ≡ number) × ((read_plan plan).place ≡ place)
unfolding answer_by
built_refused plan before number place room e = go (eqb r.refusal 0) refl e
  where
    r : Reading
    r = read_plan plan

    short : (b : Bool) → ltb (length before) (length_of r.m r.n) ≡ b → length_of r.m r.n ≤ 2642 → cond b (refuse 10 (length_of r.m r.n)) (Ok (length_of r.m r.n)) ≡ refuse number place → ⊥
    short true t l e = let z = ltb-true (length before) (length_of r.m r.n) t in omega arith
    short false t l e = false≢true (sym (ap is_ok e))

    go : (b : Bool) → eqb r.refusal 0 ≡ b
        → cond (not b) (refuse r.refusal r.place) (cond (ltb (length before) (length_of r.m r.n)) (refuse 10 (length_of r.m r.n)) (Ok (length_of r.m r.n))) ≡ refuse number place
        → (r.refusal ≡ 0 → ⊥) × (r.refusal ≡ number) × (r.place ≡ place)
    go true t e = let v = (bounded plan).valid (eqb-true r.refusal 0 t) in absurd (short (ltb (length before) (length_of r.m r.n)) refl (length_le r.m r.n v.small v.few) e)
    go false t e = (eqb-false r.refusal 0 t, ap built_number e, ap built_place e)

-- ---- the text of a plan

pub week_listed : (plan sheet buffer after : List ℕ) (r : Built) → check_sheet plan sheet ≡ Accepted → r ≡ list_answer plan sheet buffer → after ≡ list_bytes plan sheet buffer → Week plan buffer after r
week_listed plan sheet buffer after r ok answer bytes = record {
  text = listing_by (read_plan plan) sheet;
  is = listed sheet ok;
  answer = answer ∙ ap (λ (v : Verdict). listAnswerBy v (listing_by (read_plan plan) sheet) buffer) ok;
  bytes = bytes ∙ ap (λ (v : Verdict). bytes_by v (listing_by (read_plan plan) sheet) buffer) ok;
}

pub week_refused : (plan before buffer after : List ℕ) (b : Built) (number place : ℕ) (r : Built) → 2642 ≤ length before → b ≡ build_answer plan before → b ≡ refuse number place
    → r ≡ text_answer (refusal_line number place) buffer → after ≡ text_in (refusal_line number place) buffer → Week plan buffer after r
week_refused plan before buffer after b number place r room is e answer bytes =
    let (refuses, n, p) = built_refused plan before number place room (sym is ∙ e) in
    let line : refusal_line number place ≡ refusal_line (read_plan plan).refusal (read_plan plan).place = ap (λ (k : ℕ). refusal_line k place) (sym n) ∙ ap (λ (k : ℕ). refusal_line (read_plan plan).refusal k) (sym p) in
    record {
      text = refusal_line (read_plan plan).refusal (read_plan plan).place;
      is = refused refuses;
      answer = answer ∙ ap (λ (x : List ℕ). text_answer x buffer) line;
      bytes = bytes ∙ ap (λ (x : List ℕ). text_in x buffer) line;
    }
