-- `fresh_leases`: fresh records from end to end.
use Rattle.rules.specs.Sizes.{row_count}
use Rattle.rules.specs.Tables.{fresh}
use Rattle.fresh_tables.proofs.Repeated.{filled}
use Rattle.fresh_tables.proofs.fresh_leases.Goals as goal

pub returns : goal.returns
unfolding fresh
returns c t term = filled c.args.leases.now _ _ row_count c.requires c.fill_records.ensures
