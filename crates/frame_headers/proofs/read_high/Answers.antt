-- `read_high`: what comes behind it is two bytes at most.
use Rattle.frame_headers.proofs.Headers.{low_used}
use Rattle.frame_headers.proofs.read_high.Goals as goal

pub behind-requires : goal.behind-requires
behind-requires c = rw c.read_low.ensures (low_used _ _)
