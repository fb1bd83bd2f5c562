-- The desk's one number: "a refusal is 65,536 × its number + its place".
use Rattle.std.specs.Prelude.{ℕ, ◌+◌, ◌-◌, ◌*◌, Ok, Err, Result}
use Rattle.command.specs.declared.refusal.Refusal.{Refusal}
use Rattle.checker.specs.declared.Stretch.{Stretch}
use Rattle.checker.specs.Verdict.{Verdict}
use Rattle.builder.specs.Build.{Built}

-- the answer of Build and of the listing: the length, or the refusal
abbrev pub desk_built : Built → ℕ
desk_built (Ok long) = long
desk_built (Err refusal) = 65536 * refusal.number + refusal.place

-- Check's answer: 0, or the refusal
abbrev pub desk_verdict : Verdict → ℕ
desk_verdict (Ok accepted) = 0
desk_verdict (Err refusal) = 65536 * refusal.number + refusal.place

-- Worth's answer: the worth, or the refusal
abbrev pub desk_worth : Result ℕ Refusal → ℕ
desk_worth answer = desk_built answer

-- Page's answer: 65,536 × the length of the stretch + its offset in the sheet, which is 0 for the empty one
abbrev pub desk_page : Stretch → ℕ
desk_page s = 65536 * (s.end - s.start) + s.start
