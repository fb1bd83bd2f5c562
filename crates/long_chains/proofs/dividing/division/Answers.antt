use Rattle.plan.proofs.Answers.{accepted_zero}
use Rattle.plan.proofs.Bounds.{valid_reading}
use Rattle.plan.proofs.Present.{away_row}
use Rattle.std.proofs.Common.{rules}
use Rattle.long_chains.proofs.dividing.division.Goals as goal

pub valuations_of-requires : goal.valuations_of-requires
valuations_of-requires c = valid_reading _ _ c.read-r.ensures (accepted_zero c.read-r.result _ c.accepted.ensures c.in_ok-accepted.was)

pub present_of-requires : goal.present_of-requires
present_of-requires c = valid_reading _ _ c.read-r.ensures (accepted_zero c.read-r.result _ c.accepted.ensures c.in_ok-accepted.was)

pub divide-requires : goal.divide-requires
divide-requires c = let v = valid_reading _ _ c.read-r.ensures (accepted_zero c.read-r.result _ c.accepted.ensures c.in_ok-accepted.was) in (
  record { small = v.small; some = v.some; few = v.few; valuations_long = search rules },
  record { idle = away_row _ _ v.few c.valuations_of.ensures _ c.present_of.ensures },
)
