-- `holder`: the row's byte behind its id.
use Rattle.lease_table.proofs.holder.Goals as goal

pub returns : goal.returns
returns c = rw (← c.holder_at.ensures) c.byte.ensures
