-- A rebuilt map, as C has it.
use Rattle.connection_map.specs.Maps.{Rebuilt as Ruled}
use Rattle.relay_rebuild.specs.declared.Rebuilt.{Rebuilt}

abbrev pub coded : Ruled → Rebuilt
coded b = record { number = b.number; map = b.map }
