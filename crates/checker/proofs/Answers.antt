-- The operations Check and Page, from the answers of what they call.
use Prim.Native.Nat.{ℕ, ◌+◌, ◌*◌, ◌≤◌, ◌<◌}
use mathlib.Core.Path.{◌≡◌, refl, sym, ap, ◌∙◌, subst}
use mathlib.Core.Bool.{Bool, true, false, ◌&&◌, cond, false≢true}
use mathlib.Core.List.{List}
use native.Mathlib.Omega.{arith}
use lib.Dec.{ltb}
use lib.ListN.{length}
use borrow.Author.Tests.{ltb-true, lt-ltb, le-ltb}
use Rattle.plan.specs.declared.Reading.{Reading}
use Rattle.plan.specs.Read.{read_plan}
use Rattle.plan.specs.Valid.{Valid}
use Rattle.plan.proofs.Bounds.{valid_reading}
use Rattle.command.proofs.Mapped.{first_mapped}
use Rattle.sheet.specs.Layout.{page_length, share_start}
use Rattle.sheet.proofs.Sizes.{length_le, share_inside}
use Rattle.checker.specs.declared.Stretch.{Stretch}
use Rattle.std.proofs.Common.{Ok, Err}
use Rattle.command.specs.Refusal.{refuse}
use Rattle.checker.specs.Verdict.{Verdict, Accepted, verdict_number, verdict_place}
use Rattle.checker.specs.Check.{sheet_rules, verdict_of, check_sheet}
use Rattle.checker.specs.Told.{CheckTold}
use Rattle.checker.specs.Fair.{Fair}
use Rattle.checker.specs.Page.{accepts, from_share, empty_stretch, stretch_by, stretch_of}
use Rattle.checker.proofs.Acceptance.{stated, fair}

-- only what is accepted accepts
accepts_is : (v : Verdict) → accepts v ≡ true → v ≡ Accepted
accepts_is (Ok x) e = refl
accepts_is (Err x) e = absurd (false≢true e)

module _ (plan sheet : List ℕ) (r : Reading) (is-r : r ≡ read_plan plan) where
  -- Check

  pub check_verdict : (v : Verdict) → v ≡ verdict_of r sheet → v ≡ check_sheet plan sheet
  check_verdict v e = e ∙ ap (λ (x : Reading). verdict_of x sheet) is-r

  pub check_fair : (v : Verdict) → v ≡ verdict_of r sheet → v ≡ Accepted → Fair plan sheet
  check_fair v e a = fair plan sheet (sym (check_verdict v e) ∙ a)

  pub check_told : (v : Verdict) → v ≡ verdict_of r sheet → CheckTold plan sheet v
  unfolding verdict_of
  check_told v e = record {
    number = ap verdict_number (check_verdict v e) ∙ first_mapped verdict_number Accepted (sheet_rules refuse (read_plan plan) sheet);
    place = ap verdict_place (check_verdict v e) ∙ first_mapped verdict_place Accepted (sheet_rules refuse (read_plan plan) sheet);
  }

  -- Page

  module _ (t : ℕ) where
    to_stretch : (s : Stretch) → s ≡ stretch_by r sheet t → s ≡ stretch_of plan sheet t
    to_stretch s e = e ∙ ap (λ (x : Reading). stretch_by x sheet t) is-r

    -- a team that is not in the plan
    pub stretch_none : r.n ≤ t → empty_stretch ≡ stretch_of plan sheet t
    unfolding stretch_by
    stretch_none l = to_stretch _ (rw (le-ltb t r.n l) refl)

    module _ (v : Verdict) (b : Bool) (is-v : v ≡ verdict_of r sheet) (is_b : b ≡ accepts v) (l : t < r.n) where
      -- a sheet that is refused
      pub stretch_refused : b ≡ false → empty_stretch ≡ stretch_of plan sheet t
      unfolding stretch_by
      stretch_refused e = to_stretch _ (rw (lt-ltb t r.n l, ← is-v, ← is_b, e) refl)

      -- a sheet that is accepted
      module _ (e : b ≡ true) where
        pub stretch_valid : Valid r
        stretch_valid = valid_reading plan r is-r (stated r sheet (sym (accepts_is v (sym is_b ∙ e)) ∙ is-v)).read

        pub stretch_ends : (start : ℕ) → start ≡ share_start r.m t → start + 11 + 3 * r.m ≤ 2642
        stretch_ends start is-start =
            let inside = share_inside r.m r.n t l in
            let most = length_le r.m r.n stretch_valid.small stretch_valid.few in
            omega arith

        pub stretch_given : (start end : ℕ) → start ≡ share_start r.m t → end ≡ start + 11 + 3 * r.m → record { start = start; end = end } ≡ stretch_of plan sheet t
        unfolding stretch_by
        stretch_given start end is-start is_end_lem =
            let ends : end ≡ share_start r.m t + page_length r.m = omega arith in
            to_stretch _ (ap (λ (x : ℕ). record { start = x; end = end }) is-start ∙ ap (λ (x : ℕ). record { start = share_start r.m t; end = x }) ends ∙ rw (lt-ltb t r.n l, ← is-v, ← is_b, e) refl)

-- the stretch lies in the sheet, and within the longest accepted one
abbrev Inside : List ℕ → Stretch → Type 0
Inside sheet s = (s.start ≤ s.end) × (s.end ≤ length sheet) × (s.end ≤ 2642)

pub stretch_inside : (plan sheet : List ℕ) (t : ℕ) (s : Stretch) → s ≡ stretch_of plan sheet t → Inside sheet s
unfolding stretch_by
stretch_inside plan sheet t s is = subst (Inside sheet) (sym is) (go (ltb t r.n) refl (verdict_of r sheet) refl)
  where
    r : Reading
    r = read_plan plan

    go : (c : Bool) → ltb t r.n ≡ c → (v : Verdict) → v ≡ verdict_of r sheet
        → Inside sheet (cond (c && accepts v) (from_share r.m t) empty_stretch)
    go false e v is-v = (omega arith, omega arith, omega arith)
    go true e (Err x) is-v = (omega arith, omega arith, omega arith)
    go true e (Ok x) is-v =
        let facts = stated r sheet is-v in
        let long = facts.long in
        let valid = valid_reading plan r refl facts.read in
        let most = length_le r.m r.n valid.small valid.few in
        let inside = share_inside r.m r.n t (ltb-true t r.n e) in
        (omega arith, omega arith, omega arith)
