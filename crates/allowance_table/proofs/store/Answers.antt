-- `store`: both numbers of the record.
use Rattle.allowance_table.proofs.Buckets.{stored}
use Rattle.allowance_table.proofs.store.Goals as goal

pub returns : goal.returns
returns c = stored _ _ _ _ _ _ c.write.ensures c.write-2.ensures
