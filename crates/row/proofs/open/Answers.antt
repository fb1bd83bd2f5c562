use mathlib.Core.Path.{◌≡◌, ◌∙◌}
use native.Mathlib.Omega.{arith}
use lib.ListN.{length, set, length-set}
use Rattle.row.specs.Row.{part}
use Rattle.row.proofs.Rows.{filled_part, row_opened}
use Rattle.row.proofs.open.Goals as goal

pub returns : goal.returns
unfolding part
returns c =
    let l = set (set c.args.row.now 0 c.args.kind) 1 c.args.channels in
    let long : length l ≡ 343 = length-set (set c.args.row.now 0 c.args.kind) 1 c.args.channels ∙ length-set c.args.row.now 0 c.args.kind ∙ c.requires in
    let f = filled_part l 2 16 c.args.cap (omega (arith, long)) c.fill.new.self (c.fill.ensures.after (λ y e. e)) in
    row_opened c.args.row.now _ _ _ _ _ c.requires f (filled_part _ 18 325 255 (omega (arith, f.long, long)) c.fill-2.new.self (c.fill-2.ensures.after (λ y e. e)))
