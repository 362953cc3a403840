-- `is_live_with_id`: both tests.
use Rattle.rules.specs.Tables.{live_with_id}
use Rattle.lease_table.proofs.Leases.is_live_with_id.Goals as goal

pub returns : goal.returns
unfolding live_with_id
returns c = rw (c.is_live.ensures, c.id_of.ensures)
