-- `id_of`: the number in the row's four bytes behind its expiry.
use Rattle.rules.specs.Tables.{id_of}
use Rattle.lease_table.proofs.Leases.id_of.Goals as goal

pub returns : goal.returns
unfolding id_of
returns c = rw (← c.self.view_is) c.number.ensures.value
