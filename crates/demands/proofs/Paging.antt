-- Page, from what it promises.
use Prim.Native.Nat.{ℕ, ◌+◌, ◌-◌, ◌*◌, ◌≤◌, ◌<◌}
use mathlib.Core.Path.{◌≡◌, refl, ap, ◌∙◌}
use mathlib.Core.Bool.{false, and-false}
use mathlib.Core.List.{List}
use native.Mathlib.Omega.{arith}
use lib.Dec.{ltb}
use lib.ListN.{length, take, drop}
use borrow.Author.Tests.{lt-ltb, le-ltb}
use Rattle.plan.specs.declared.Reading.{Reading}
use Rattle.plan.specs.Read.{read_plan}
use Rattle.sheet.specs.Layout.{share_start}
use Rattle.checker.specs.declared.Stretch.{Stretch}
use Rattle.std.proofs.Common.{Ok, Err}
use Rattle.checker.specs.Verdict.{Verdict}
use Rattle.checker.specs.Check.{verdict_of}
use Rattle.checker.specs.Page.{accepts, from_share, empty_stretch, stretch_by, stretch_of, bytes_of, page_of}
use Rattle.checker.specs.Stated.{Stated}
use Rattle.checker.proofs.Acceptance as acceptance
use Rattle.checker.proofs.Answers.{stretch_inside}
use Rattle.desk.specs.Desk.{desk_page}
use Rattle.demands.specs.Desk.{DeskPages}
use Rattle.demands.specs.Pages.{Pages}

-- the length of a stretch
width : (start long : ℕ) → start + long - start ≡ long
width start long = omega arith

-- the stretch: a team's of a sheet of which the rules hold, and the empty one
module _ (plan sheet : List ℕ) (t : ℕ) where
  abbrev r : Reading
  r = read_plan plan

  stretch_given : t < r.n → Stated r sheet → stretch_of plan sheet t ≡ from_share r.m t
  unfolding stretch_by
  stretch_given l s = rw (lt-ltb t r.n l, acceptance.accepts r sheet s) refl

  stretch_absent : r.n ≤ t → stretch_of plan sheet t ≡ empty_stretch
  unfolding stretch_by
  stretch_absent l = rw (le-ltb t r.n l) refl

  not_accepted : (v : Verdict) → v ≡ verdict_of r sheet → (Stated r sheet → ⊥) → accepts v ≡ false
  not_accepted (Ok x) e d = absurd (d (acceptance.stated r sheet e))
  not_accepted (Err x) e d = refl

  stretch_refused : (Stated r sheet → ⊥) → stretch_of plan sheet t ≡ empty_stretch
  unfolding stretch_by
  stretch_refused d = rw (not_accepted (verdict_of r sheet) refl d, and-false (ltb t r.n)) refl

  pub pages : (page : List ℕ) → page ≡ page_of plan sheet t → Pages plan sheet t page
  pages page is = record {
    given = λ l s. is ∙ ap (bytes_of sheet) (stretch_given l s) ∙ ap (λ (k : ℕ). take k (drop (share_start r.m t) sheet)) (width (share_start r.m t) (11 + 3 * r.m));
    absent = λ l. is ∙ ap (bytes_of sheet) (stretch_absent l);
    refused = λ d. is ∙ ap (bytes_of sheet) (stretch_refused d);
  }

  -- one number of the stretch
  pub desk_pages : (k : ℕ) → k ≡ desk_page (stretch_of plan sheet t) → DeskPages plan sheet t k
  desk_pages k is = record {
    long = s.end - s.start;
    offset = s.start;
    is = is;
    small = (let l = inside in omega arith, let l = inside in omega arith);
    pages = pages (bytes_of sheet s) refl;
    given = λ l f. let e = stretch_given l f in (ap (λ (x : Stretch). x.end - x.start) e ∙ width (share_start r.m t) (11 + 3 * r.m), ap (λ (x : Stretch). x.start) e);
    absent = λ l. is ∙ ap desk_page (stretch_absent l);
    refused = λ d. is ∙ ap desk_page (stretch_refused d);
  }
    where
      s : Stretch
      s = stretch_of plan sheet t

      inside : (s.start ≤ s.end) × (s.end ≤ length sheet) × (s.end ≤ 2642)
      inside = stretch_inside plan sheet t s refl
