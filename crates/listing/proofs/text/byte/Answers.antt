use Rattle.listing.proofs.Pouring.{put_byte, put_beyond}
use Rattle.listing.proofs.text.byte.Goals as goal
use Rattle.listing.proofs.text.byte.Goals.{else-at-buffer, then-at-buffer}

pub returns : goal.returns
returns c = elim c.if-at-buffer.branch [ then-at-buffer w ↦ rw w.buffer-is (put_byte _ _ _) | else-at-buffer w ↦ rw w.buffer-is (put_beyond _ _ _ w.if-at-buffer.false) ]
