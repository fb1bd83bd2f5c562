use mathlib.Core.Path.{refl}
use Rattle.matroid.proofs.Sets.{size_le}
use Rattle.sets.specs.Bits.{bit}
use Rattle.mounts.proofs.Sweeping.{leads_free, nearer}
use Rattle.mounts.proofs.matching.Matching.search.Goals as goal

pub loop-larger-init : goal.loop-larger-init
loop-larger-init c = leads_free _ _ _ c.requires.low refl refl refl

pub loop-larger-smaller : goal.loop-larger-smaller
loop-larger-smaller c = nearer c.in-Some.ensures.1 (size_le 64 (bit c.in-Some.larger.set))
