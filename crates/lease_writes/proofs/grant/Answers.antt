-- `grant`: four stores, one behind another.
use Rattle.lease_writes.proofs.RowWrites.{row_written}
use Rattle.lease_writes.proofs.grant.Goals as goal

pub returns : goal.returns
returns c =
    let a = c.args in
    row_written a.leases.now a.row a.until a.id a.cookie.now a.c c.write.ensures c.write-2.ensures c.write8.ensures c.copy.ensures
