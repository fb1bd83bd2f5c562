use Rattle.std.proofs.Common.{rules, ◌+◌, take, drop, sym, ◌∙◌, ap, arith}
use Rattle.std.proofs.lemmas.List.{take_all, take_rest, drop_all}
use Rattle.lines.proofs.Cut.{first_at, first_none}
use Rattle.lines.proofs.split.Goals as goal

pub returns-in-Some-clause-before : goal.returns-in-Some-clause-before
returns-in-Some-clause-before c = let text = c.args.text.now in
    let at = first_at c.args.byte text c.in-Some.at (search rules) (search rules) (search rules) in ap (λ n. take n text) (sym at)

pub returns-in-Some-clause-after : goal.returns-in-Some-clause-after
returns-in-Some-clause-after c = let text = c.args.text.now in
    let at = first_at c.args.byte text c.in-Some.at (search rules) (search rules) (search rules) in take_rest text (c.in-Some.at + 1) ∙ ap (λ n. drop (n + 1) text) (sym at)

pub returns-in-None-clause-before : goal.returns-in-None-clause-before
returns-in-None-clause-before c = let text = c.args.text.now in
    let at = first_none c.args.byte text (search rules) in sym (take_all _ text (omega (arith, at)))

pub returns-in-None-clause-after : goal.returns-in-None-clause-after
returns-in-None-clause-after c = let text = c.args.text.now in
    let at = first_none c.args.byte text (search rules) in sym (drop_all _ text (omega (arith, at)))
