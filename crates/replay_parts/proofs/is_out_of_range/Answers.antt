-- `is_out_of_range`: as it is written.
use Rattle.replay_parts.proofs.is_out_of_range.Goals as goal

pub returns : goal.returns
returns c = rw c.is_unrecorded-unrecorded.ensures
