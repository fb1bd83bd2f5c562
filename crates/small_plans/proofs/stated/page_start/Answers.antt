use Rattle.std.proofs.Common.{arith}
use Rattle.sheet.proofs.Sizes.{start_le}
use Rattle.small_plans.proofs.stated.page_start.Goals as goal

pub returns : goal.returns
returns c = let e = c.share_start.ensures in let l = start_le c.args.m c.args.t (omega arith) (omega arith) in omega arith
