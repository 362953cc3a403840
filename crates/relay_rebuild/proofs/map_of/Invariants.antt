-- `map_of`: the map of the first c connections.
use mathlib.Core.Path.{◌≡◌}
use Rattle.connection_map.specs.Maps.{map_of_first}
use Rattle.relay_rebuild.proofs.map_of.Given as goal

abbrev pub invariant-loop-c : goal.invariant-loop-c
invariant-loop-c l = l.map ≡ map_of_first l.connections l.c
