-- `cookie_of`: the last bytes of the row.
use Rattle.rules.specs.Tables.{cookie_of}
use Rattle.lease_table.proofs.cookie_of.Goals as goal

pub returns : goal.returns
unfolding cookie_of
returns c = rw (← c.cookie_at.ensures) c.part.ensures
