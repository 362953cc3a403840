-- `level`: the one level that counts is filled alone.
use Rattle.std.proofs.Common.{arith}
use Rattle.journal.specs.Plain.{levels_at}
use Rattle.journal.proofs.Filling.{level_alone}
use Rattle.replay_plain.proofs.PlainLedgerLedger.level.Goals as goal

pub returns : goal.returns
unfolding levels_at
returns c =
    let l = c.self.inside in
    rw (← c.self.view_is) (level_alone _ l.levels c.args.partner _ (omega arith) (rw c.saturating_sub.ensures at c.level_after.ensures))
