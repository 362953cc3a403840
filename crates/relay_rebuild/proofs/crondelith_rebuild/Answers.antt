-- `crondelith_rebuild`: a table of another size, or its map.
use Rattle.connection_map.proofs.Rebuilding.{rebuilt, not_rebuilt}
use Rattle.relay_rebuild.proofs.crondelith_rebuild.Goals as goal

pub returns-then-connections-ne-CONNECTIONS_SIZE : goal.returns-then-connections-ne-CONNECTIONS_SIZE
returns-then-connections-ne-CONNECTIONS_SIZE c = rw (not_rebuilt c.args.connections.now c.if-connections-ne-CONNECTIONS_SIZE.true)

pub returns : goal.returns
returns c = rw (rebuilt c.args.connections.now c.if-connections-ne-CONNECTIONS_SIZE.false, c.map_of.ensures)
