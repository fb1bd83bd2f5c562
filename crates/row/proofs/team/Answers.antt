use lib.ListN.{get_or}
use Rattle.row.specs.Row.{row_team}
use Rattle.row.proofs.team.Goals as goal

pub returns : goal.returns
unfolding row_team
returns c = λ j. record {
  kind = get_or c.args.row.now 0 0;
  channels = get_or c.args.row.now 1 0;
  cap = c.bytes.ensures j;
  named = c.bytes-2.ensures j;
  first = c.bytes-3.ensures j;
  second = c.bytes-4.ensures j;
  third = c.bytes-5.ensures j;
  fourth = c.bytes-6.ensures j;
  days = c.bytes-7.ensures j;
}
