-- `is_live`: the time is below the expiry.
use Rattle.rules.specs.Tables.{live}
use Rattle.lease_table.proofs.Leases.is_live.Goals as goal

pub returns : goal.returns
unfolding live
returns c = rw c.expiry.ensures
