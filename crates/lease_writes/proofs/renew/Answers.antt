-- `renew`: two stores, one behind the other.
use Rattle.lease_writes.proofs.RowWrites.{row-renewed}
use Rattle.lease_writes.proofs.renew.Goals as goal

pub returns : goal.returns
returns c =
    let a = c.args in
    row-renewed a.leases.now a.row a.until a.c c.extend.ensures c.write8.ensures
