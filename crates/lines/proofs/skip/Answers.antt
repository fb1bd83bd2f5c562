use Rattle.std.proofs.Common.{rules, drop, sym, ◌∙◌, ap, arith}
use Rattle.std.proofs.lemmas.List.{take_rest, drop_all}
use Rattle.lines.proofs.Cut.{first_other, all_same}
use Rattle.lines.proofs.skip.Goals as goal

pub returns-in-Some-clause-left : goal.returns-in-Some-clause-left
returns-in-Some-clause-left c = let text = c.args.text.now in
    let at = first_other c.args.byte text c.in-Some.start (search rules) (search rules) (search rules) in take_rest text c.in-Some.start ∙ ap (λ n. drop n text) (sym at)

pub returns-in-None-clause-left : goal.returns-in-None-clause-left
returns-in-None-clause-left c = let text = c.args.text.now in
    let at = all_same c.args.byte text (search rules) in sym (drop_all _ text (omega (arith, at)))
