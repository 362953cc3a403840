-- `fresh_connections`: fresh records from end to end.
use Rattle.rules.specs.Sizes.{connection_count}
use Rattle.rules.specs.Tables.{fresh}
use Rattle.fresh_tables.proofs.Repeated.{filled}
use Rattle.fresh_tables.proofs.fresh_connections.Goals as goal

pub returns : goal.returns
unfolding fresh
returns c t term = filled c.args.connections.now _ _ connection_count c.requires c.fill_records.ensures
