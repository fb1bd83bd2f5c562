use mathlib.Core.Path.{refl}
use borrow.Author.Rules.{rules}
use lib.ListN.{get_or}
use Rattle.sets.specs.Bits.{word}
use Rattle.days.specs.Days.{always, usable_on}
use Rattle.plan.proofs.Filling.{filled_all}
use Rattle.plan.proofs.Valuing.{own_word}
use Rattle.plan.proofs.usable.words.Goals as goal

pub returns : goal.returns
returns c = filled_all _ _ _ _ _ c.filled.ensures (λ t. word c.args.m (usable_on c.args.shelf (get_or c.args.days t always))) (λ t x l k. search (rules, own_word)) _ refl _ (λ t l. refl)
