use Rattle.std.proofs.Common.{rules, ◌≤◌}
use Rattle.std.proofs.lemmas.Fn.{chained_keeps}
use Rattle.rule.proofs.Independence.worth.Goals as goal

-- no part has more members than a word has bits
pub returns : goal.returns
returns g c = chained_keeps _ (λ xs q. q.1 ≤ 64) (λ xs q x v j k. search rules) _ _ _ (search rules) c.fold.ensures.ran.3
