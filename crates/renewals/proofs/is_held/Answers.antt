-- `is_held`: two tests.
use Rattle.rules.specs.Tables.{holder_counts}
use Rattle.renewals.proofs.is_held.Goals as goal

pub returns : goal.returns
unfolding holder_counts
returns c = rw (c.is_live.ensures, c.holder_counts.ensures, c.holder-holder.ensures)
