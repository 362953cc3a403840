-- `store_levels`: the table starts with the records of the levels that are passed.
use Rattle.std.proofs.Common.{arith}
use Rattle.levels.proofs.Turns.{no_records, store_turn}
use Rattle.levels.proofs.store_levels.Goals as goal

pub loop-p-init : goal.loop-p-init
loop-p-init c = no_records _ _

pub loop-p-preserved : goal.loop-p-preserved
loop-p-preserved c =
    let a = c.args in
    store_turn a.allowances.now a.levels.now _ _ a.clock c.loop-p.p (omega arith) c.loop-p.invariant c.store.ensures
