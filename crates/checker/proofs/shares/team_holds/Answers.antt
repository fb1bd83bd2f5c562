use Prim.Native.Nat.{◌+◌, ◌*◌}
use mathlib.Core.Path.{refl}
use Rattle.kinds.specs.Valuations.{matroid_of}
use Rattle.checker.proofs.Shared.{team_shown}
use Rattle.checker.proofs.shares.team_holds.Goals as goal

pub returns : goal.returns
returns c = let args = c.args in
    let start = c.share_start-at in
    let set = c.word_at-set in
    team_shown args.m args.p (matroid_of args.m args.valuation) args.sheet.now args.t _ _ (start.result + 11) (start.result + 11 + 3 * args.m) _ start.ensures set.ensures refl refl c.share_holds.ensures
