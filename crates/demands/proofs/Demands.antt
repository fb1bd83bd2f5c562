-- The three demands, each from the promises of the operations that it speaks of.
use Prim.Native.Nat.{ℕ}
use mathlib.Core.Path.{◌≡◌}
use mathlib.Core.List.{List}
use Rattle.std.proofs.Common.{Result}
use Rattle.command.specs.declared.refusal.Refusal.{Refusal}
use Rattle.plan.specs.Worth.{worth_number, worth_place, worth_value, WorthTold}
use Rattle.checker.specs.Verdict.{Verdict, Accepted, verdict_number, verdict_place}
use Rattle.checker.specs.Check.{check_sheet}
use Rattle.checker.specs.Told.{CheckTold}
use Rattle.checker.specs.Fair.{Fair}
use Rattle.builder.specs.Build.{Built, build_answer, built_number, built_place, built_length, BuildTold, Answered}
use Rattle.demands.specs.One.{Builds, Checks}
use Rattle.demands.specs.Two.{Values, Accepts}
use Rattle.demands.specs.Three.{Good, Writes}
use Rattle.demands.proofs.Refusing.{builds, checks}
use Rattle.demands.proofs.Ranking.{values, check_accepts}
use Rattle.demands.proofs.Writing.{check_good, writes}

-- 1: "If a rule is broken, and only then, the call refuses, by the first rule in the papers' order, and then the buffer is untouched."
pub demand_1 : (plan sheet before after : List ℕ) (b : Built) (v : Verdict) → BuildTold plan before b → Answered plan before after b → CheckTold plan sheet v
    → Builds plan before after (built_number b) (built_place b) (built_length b) × Checks plan sheet (verdict_number v) (verdict_place v)
demand_1 plan sheet before after b v told answered checked = (builds plan before after b told answered, checks plan sheet v checked)

-- 2: "Worth is matroid rank, shares are maximin shares (arXiv 2012.12710). The checker accepts a sheet if it meets the rules, and only then."
pub demand_2 : (plan sheet : List ℕ) (team set : ℕ) (a : Result ℕ Refusal) (v : Verdict) → WorthTold plan team set a → v ≡ check_sheet plan sheet → (v ≡ Accepted → Fair plan sheet)
    → Values plan team set (worth_number a) (worth_place a) (worth_value a) × Accepts plan sheet (verdict_number v)
demand_2 plan sheet team set a v told is fair = (values plan team set a told, check_accepts plan sheet v is fair)

-- 3: "For every plan read without refusal and every buffer long enough, the builder writes a sheet that the checker accepts." And what acceptance
-- of any bytes means.
pub demand_3 : (plan sheet before after : List ℕ) (b : Built) (v : Verdict) → b ≡ build_answer plan before → Answered plan before after b → v ≡ check_sheet plan sheet → (v ≡ Accepted → Fair plan sheet)
    → Writes plan before after × (verdict_number v ≡ 0 → Good plan sheet)
demand_3 plan sheet before after b v built answered is fair = (writes plan before after b built answered, check_good plan sheet v is fair)
