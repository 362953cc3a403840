-- `store_table`: eight records, then the term and the clock.
use Rattle.std.proofs.Common.{arith}
use Rattle.levels.proofs.Turns.{table_stored}
use Rattle.levels.proofs.store_table.Goals as goal

pub returns : goal.returns
returns c =
    table_stored c.args.allowances.now c.args.levels.now _ _ _ c.args.clock c.args.term _ c.requires (omega arith)
    c.named_term-kept.ensures c.store_levels.ensures
    c.write.ensures c.set_clock.ensures
