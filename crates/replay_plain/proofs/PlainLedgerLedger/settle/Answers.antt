-- `settle`: filled, and less the charge.
use Rattle.journal.specs.Plain.{levels_at}
use Rattle.replay_plain.proofs.PlainLedgerLedger.settle.Goals as goal

pub overflow_sub-self : goal.overflow_sub-self
unfolding levels_at
overflow_sub-self c = rw (c.fill_for.ensures, c.partner-partner.ensures) (rw (← c.self.view_is) at c.requires.enough)

pub returns : goal.returns
unfolding levels_at
returns c = rw (c.fill_for.ensures, c.partner-partner.ensures, ← c.self.view_is)
