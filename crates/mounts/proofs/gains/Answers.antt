use mathlib.Core.Path.{subst⁻¹}
use lib.Dec.{T, lt→ltb}
use Rattle.sets.specs.Bits.{bit}
use Rattle.mounts.proofs.Agreeing.{worded_agree, joins_agree}
use Rattle.mounts.proofs.Joining.{near_chosen, mounts_gains}
use borrow.Author.Rules.{rules}
use Rattle.mounts.proofs.gains.Goals as goal

pub returns : goal.returns
returns c = let s = c.search-s.ensures in
    let small = c.requires in
    joins_agree _ (bit c.all_below.result) _ _ (worded_agree _ _ _ _ _ _ _ _ small c.begin-begun.ensures.words) (λ g l. subst⁻¹ T (c.all_below.ensures g) (lt→ltb g _ l)) _ _
    (mounts_gains _ _ small _ _ _ c.begin-begun.ensures.held s.leads s.closed _ _ (near_chosen _ _ _ _ _ c.those-joins.ensures (λ g b l meets. search rules)) c.minus.ensures)
