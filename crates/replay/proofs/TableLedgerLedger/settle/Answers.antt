-- `settle`: paid for, or the clock moved.
use borrow.Author.Tests.{ne_eqb}
use Rattle.journal.specs.Replays.{settled}
use Rattle.replay.proofs.TableLedgerLedger.settle.Goals as goal

pub returns-then-charged : goal.returns-then-charged
unfolding settled
returns-then-charged c = rw (ne_eqb _ 0 c.if-charged.true, ← c.self.view_is) c.pay.ensures

pub returns-else-charged : goal.returns-else-charged
unfolding settled
returns-else-charged c = rw (← c.self.view_is, c.if-charged.false) c.set_clock.ensures
