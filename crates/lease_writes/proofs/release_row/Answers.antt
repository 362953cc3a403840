-- `release_row`: the holder byte, where it is the connection.
use borrow.Author.Tests.{eq-eqb, ne_eqb}
use Rattle.lease_writes.specs.Rows.{release_row}
use Rattle.lease_writes.proofs.release_row.Goals as goal

pub returns-then-holder-c : goal.returns-then-holder-c
unfolding release_row
returns-then-holder-c c = rw (← c.holder.ensures, eq-eqb _ _ c.if-holder-c.true) c.write8.ensures

pub returns-else-holder-c : goal.returns-else-holder-c
unfolding release_row
returns-else-holder-c c = rw (← c.holder.ensures, ne_eqb _ _ c.if-holder-c.false)
