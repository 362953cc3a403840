-- What the map says of a partner, as C has it.
use Rattle.connection_map.specs.Maps.{PartnerConnections as Ruled}
use Rattle.relay_connections.specs.declared.PartnerConnections.{PartnerConnections}

abbrev pub coded : Ruled → PartnerConnections
coded p = record { number = p.number; connections = p.connections; lowest = p.lowest }
