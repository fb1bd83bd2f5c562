use mathlib.Core.Path.{fun_ext}
use borrow.Author.Rules.{rules}
use Rattle.sets.proofs.Choosing.{chosen_bits}
use Rattle.plan.proofs.Present.{manned, manned_here}
use Rattle.plan.proofs.present_of.Goals as goal

pub returns : goal.returns
returns c = fun_ext (chosen_bits _ (manned c.args.r.teams) _ _ c.those.ensures (λ i b l k. search (rules, manned_here)))
