use mathlib.Core.Path.{◌∙◌}
use Rattle.mounts.proofs.Agreeing.{worded_agree, worth_agree}
use Rattle.mounts.proofs.Joining.{greatest_worth}
use Rattle.mounts.proofs.worth.Goals as goal

pub returns : goal.returns
returns c = let small = c.requires in
    c.size_below.ensures ∙ greatest_worth _ _ small _ _ c.begin-begun.ensures.held ∙ worth_agree _ _ _ _ (worded_agree _ _ _ _ _ _ _ _ small c.begin-begun.ensures.words)
