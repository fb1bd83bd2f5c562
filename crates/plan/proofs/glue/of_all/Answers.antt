use mathlib.Core.Path.{refl, sym, ◌∙◌}
use Rattle.judge.specs.Fault.{named}
use Rattle.plan.specs.Teams.{entries}
use Rattle.plan.proofs.Gluing.{word_free, word_rest}
use Rattle.plan.proofs.glue.of_all.Goals as goal

pub returns-then-not-some : goal.returns-then-not-some
returns-then-not-some c = let start = c in word_free start.args.glue _ start.requires (sym c.some.ensures ∙ c.if-not-some.true)

pub returns : goal.returns
returns c = let start = c in
    let glue = start.args.glue in
    word_rest _ (entries glue 255) (named glue) _ start.requires c.minus.type_inv (λ j. refl) _ _ c.marked-free.ensures c.all_below.ensures c.minus.ensures
