use Rattle.std.proofs.Common.{arith}
use Rattle.sheet.proofs.Sizes.{start_le}
use Rattle.edges.proofs.listing.team.Goals as goal

pub overflow_add-share_start : goal.overflow_add-share_start
overflow_add-share_start g c = let e = c.share_start.ensures in let l = start_le c.args.m c.args.t (omega arith) (omega arith) in omega arith
