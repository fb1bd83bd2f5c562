use Prim.Native.Nat.{ℕ, ◌≤◌}
use mathlib.Core.Path.{◌≡◌, refl, sym, ap, ◌∙◌, subst}
use mathlib.Core.Bool.{Bool, true, false, cond}
use mathlib.Core.List.{List, ◌++◌}
use native.Mathlib.Omega.{arith}
use lib.Dec.{ltb}
use lib.ListN.{length, drop, length-append}
use lib.Seq.{length-take-le}
use Rattle.std.specs.Prelude.{Ok, Result}
use Rattle.command.specs.declared.refusal.Refusal.{Refusal}
use Rattle.command.specs.Refusal.{refuse, number_of, value_of}
use Rattle.listing.specs.Lent.{text_answer, text_in}
use Rattle.listing.specs.Week.{Week}
use Rattle.divide.proofs.answer.Goals as goal

-- a text that was written is no longer than the buffer
inside : (text before : List ℕ) (long : ℕ) → text_answer text before ≡ Ok long → long ≤ length (text_in text before)
unfolding text_answer text_in
inside text before long e = go (ltb (length before) (length text)) e
  where
    go : (b : Bool) → cond b (refuse 10 (length text)) (Ok (length text)) ≡ Ok long → long ≤ length (cond b before (text ++ drop (length text) before))
    go true e = absurd (let z : ◌≡◌ {A = ℕ} 10 0 = ap number_of e in omega arith)
    go false e = let k : length text ≡ long = ap value_of e in let l = length-append text (drop (length text) before) in omega arith

week_inside : {plan before after : List ℕ} {r : Result ℕ Refusal} {long : ℕ} → Week plan before after r → r ≡ Ok long → long ≤ length after
week_inside {plan} {before} {after} {r} {long} w e = subst (λ (x : List ℕ). long ≤ length x) (sym w.bytes) (inside w.text before long (sym w.answer ∙ e))

pub slice_bounds-space-end : goal.slice_bounds-space-end
slice_bounds-space-end g c = week_inside c.in-Ok.ensures refl

pub slice_bounds-write_all-end : goal.slice_bounds-write_all-end
slice_bounds-write_all-end g c = sym (length-take-le _ _ (week_inside c.in-Ok.ensures refl))
