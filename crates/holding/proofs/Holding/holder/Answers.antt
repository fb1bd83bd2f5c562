use mathlib.Core.Path.{◌≡◌, sym}
use native.Mathlib.Omega.{arith}
use lib.ListN.{length, get_or-eq_default}
use Rattle.std.proofs.lemmas.List.{get_or_default}
use Rattle.holding.specs.Give.{holder_of}
use borrow.Author.Rules.{rules}
use Rattle.holding.proofs.Holding.holder.Goals as goal

pub returns-then-g-lt64 : goal.returns-then-g-lt64
unfolding holder_of
returns-then-g-lt64 c = let long : length c.args.self.owner ≡ 64 = search rules in get_or_default c.args.self.owner c.args.g 0 255 (omega arith)

pub returns-else-g-lt64 : goal.returns-else-g-lt64
unfolding holder_of
returns-else-g-lt64 c = let long : length c.args.self.owner ≡ 64 = search rules in sym (get_or-eq_default c.args.self.owner 255 (omega arith))
