-- `expiry`: the number in the row's first eight bytes.
use Rattle.rules.specs.Tables.{expiry}
use Rattle.lease_table.proofs.Leases.expiry.Goals as goal

pub returns : goal.returns
unfolding expiry
returns c = rw (← c.self.view_is) c.number.ensures.value
