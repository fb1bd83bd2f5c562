use Rattle.engine.proofs.Sharing.{share_shown}
use Rattle.engine.proofs.share.share_of.Goals as goal

pub returns-in-Ok : goal.returns-in-Ok
returns-in-Ok c = share_shown _ _ _ c.requires.1 _ _ _ c.quota_of-q.ensures.low c.in-Ok.ensures.below c.in-Ok.ensures.fair c.quota_of-q.ensures.allowed.tight
