-- The proved table's case of Check (document 01, "Edges", appendix D): giving {4,5} and {0,1,2,3} has total 6 and meets 16, team 0. It follows
-- from the reading of the plan and from what the sets of the sheet are worth, which plan's table hands up.
use Prim.Native.Nat.{ℕ, zero, suc, ◌<◌}
use mathlib.Core.Path.{◌≡◌, refl, sym, ap, ◌∙◌, subst, subst⁻¹}
use mathlib.Core.Bool.{true}
use native.Mathlib.Omega.{arith}
use lib.Dec.{T}
use Rattle.matroid.specs.Set.{Set}
use Rattle.matroid.specs.Matroid.{worth}
use Rattle.matroid.specs.Division.{bundle}
use Rattle.sets.specs.Bits.{bit}
use Rattle.plan.specs.declared.Reading.{Reading}
use Rattle.plan.specs.Read.{read_plan}
use Rattle.plan.specs.Teams.{team_matroid, present}
use Rattle.plan.proofs.Table.{worth_in, alike, worth_alike, appendix_d, appendix_d_sheet, appendix_d_read as r, appendix_d_is as is-r, appendix_d_present, appendix_d_0_none, appendix_d_0_rest, appendix_d_0_bundle, appendix_d_0_part_0, appendix_d_0_part_1, appendix_d_1_none, appendix_d_1_bundle, appendix_d_1_part_0, appendix_d_1_part_1}
use Rattle.sheet.specs.Layout.{length_of, share_start}
use Rattle.sheet.specs.Fields.{number_at, holder_at, part_at}
use Rattle.sheet.specs.Form.{set, form, first_fault}
use Rattle.command.specs.Refusal.{refuse}
use Rattle.checker.specs.Tests.{every, lowest_failing}
use Rattle.checker.specs.Rules.{independent, dependent_at, bound_of, total_holds, parts_hold, share_holds, share_test, wrong_share_at, short_at}
use Rattle.checker.specs.Check.{verdict_of, check_sheet}
use Rattle.checker.proofs.Lowest.{lowest_none}
use Rattle.checker.proofs.Bundles.{independent_yes}
use Rattle.checker.proofs.Verdicts.{weigh_16, judge_rest}

-- what a word is worth, and a set with the same members below 6
worth_word : (t word w : ℕ) → worth_in appendix_d t word ≡ w → worth (team_matroid r t) (bit word) ≡ w
worth_word t word w = subst (λ (x : Reading). worth (team_matroid x t) (bit word) ≡ w) is-r

worth_set : (t word w : ℕ) (S : Set) → worth_in appendix_d t word ≡ w → T (alike 6 S (bit word)) → worth (team_matroid r t) S ≡ w
worth_set t word w S e h =
    subst (λ (x : Reading). worth (team_matroid x t) S ≡ w) is-r
    (worth_alike appendix_d t word w S e (subst⁻¹ (λ (m : ℕ). T (alike m S (bit word))) (ap (λ (x : Reading). x.m) is-r) h))

-- what holds of each of two teams
both : (P : ℕ → Type 0) → P 0 → P 1 → (t : ℕ) → t < 2 → P t
both P a b zero l = a
both P a b (suc zero) l = b
both P a b (suc (suc t)) l = absurd (omega arith)

-- both teams are present
is_present : (t : ℕ) → t < 2 → present r t ≡ true
is_present t l = subst (λ (x : Reading). present x t ≡ true) is-r (both (λ t. present (read_plan appendix_d) t ≡ true) appendix_d_present.0 appendix_d_present.1 t l)

-- 12: the sheet has its form
passes : 90 ≡ first_fault (form 6 2 (present r)) appendix_d_sheet 0
unfolding first_fault form set
passes = rw (is_present 0 (omega arith), is_present 1 (omega arith)) refl

-- 13: both bundles are independent
none_dependent : 2 ≡ dependent_at 2 (team_matroid r) (holder_at appendix_d_sheet)
unfolding dependent_at bit
none_dependent =
    let D = holder_at appendix_d_sheet in
    lowest_none 2 (λ t. independent (team_matroid r t) (bundle D t))
    (both (λ t. independent (team_matroid r t) (bundle D t) ≡ true)
    (independent_yes (team_matroid r 0) (bundle D 0) (worth_set 0 48 2 (bundle D 0) appendix_d_0_bundle tt))
    (independent_yes (team_matroid r 1) (bundle D 1) (worth_set 1 15 4 (bundle D 1) appendix_d_1_bundle tt)))

-- 14: the total is what is given, and the bound of no instruments
total_holds_lem : total_holds 2 (team_matroid r) appendix_d_sheet ≡ true
unfolding total_holds bound_of number_at bit
total_holds_lem = rw (worth_word 0 0 0 appendix_d_0_none, worth_word 1 0 0 appendix_d_1_none) refl

-- 15: both shares hold
none_wrong : 2 ≡ wrong_share_at 2 (present r) (team_matroid r) appendix_d_sheet
unfolding wrong_share_at share_holds parts_hold every number_at share_start bit
none_wrong =
    let C = part_at 6 appendix_d_sheet in
    lowest_none 2 (share_test 2 (present r) (team_matroid r) appendix_d_sheet)
    (both (λ t. share_test 2 (present r) (team_matroid r) appendix_d_sheet t ≡ true)
    (rw (
      is_present 0 (omega arith),
      is_present 1 (omega arith),
      worth_set 0 21 3 (bundle (C 0) 0) appendix_d_0_part_0 tt,
      worth_set 0 42 3 (bundle (C 0) 1) appendix_d_0_part_1 tt,
      worth_word 0 15 2 appendix_d_0_rest,
    )
    refl)
    (rw (
      is_present 0 (omega arith),
      is_present 1 (omega arith),
      worth_set 1 7 3 (bundle (C 1) 0) appendix_d_1_part_0 tt,
      worth_set 1 56 3 (bundle (C 1) 1) appendix_d_1_part_1 tt,
      worth_word 1 0 0 appendix_d_1_none,
    )
    refl))

-- 16: team 0 holds two instruments, fewer than its share 3
first_short : 0 ≡ short_at 6 2 appendix_d_sheet
unfolding short_at lowest_failing share_start
first_short = refl

pub appendix_d_check : check_sheet appendix_d appendix_d_sheet ≡ refuse 16 0
unfolding length_of
appendix_d_check =
    ap (λ (x : Reading). verdict_of x appendix_d_sheet) is-r
    ∙ sym
    (judge_rest r appendix_d_sheet refl 90 refl refl (present r) refl 90 passes (omega arith) (refuse 16 0)
    (weigh_16 r appendix_d_sheet (team_matroid r) refl 2 none_dependent (omega arith) total_holds_lem (present r) refl 2 none_wrong (omega arith) 0 first_short (omega arith)))
