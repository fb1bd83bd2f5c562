use Rattle.team.specs.Team.{joints}
use Rattle.loops.proofs.Reading.{apart_first, apart_second, apart_both}
use borrow.Author.Rules.{rules}
use Rattle.loops.proofs.groups.Groups.apart.Goals as goal

pub returns-in-Some-Some : goal.returns-in-Some-Some
unfolding joints
returns-in-Some-Some c = let first = c.in-Some-Some.ensures.lookup in
    let second = c.in-Some-Some.ensures'.lookup in
    apart_both _ _ _ _ _ (search rules) c.from.ensures c.from-2.ensures first.0 _ _ second.0 (first.3.1 0) (second.3.1 0)

pub returns-in_default : goal.returns-in_default
unfolding joints
returns-in_default c = apart_second _ _ _ _ _ (search rules) c.from.ensures c.from-2.ensures c.in_default.ensures.lookup.0 c.in_default.ensures'.lookup.0

pub returns-in_default-2 : goal.returns-in_default-2
unfolding joints
returns-in_default-2 c = apart_first _ _ _ _ _ (search rules) c.from.ensures c.from-2.ensures c.in_default.ensures.lookup.0
