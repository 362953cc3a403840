-- `map_of`: the map of the first c connections.
use native.Mathlib.Omega.{arith}
use mathlib.Core.Path.{refl}
use Rattle.connection_map.specs.Maps.{map_of_first}
use Rattle.relay_rebuild.proofs.Ways.{one_more, whole}
use Rattle.relay_rebuild.proofs.map_of.Goals as goal

pub loop-c-init : goal.loop-c-init
loop-c-init c = unfold map_of_first in refl

pub loop-c-preserved : goal.loop-c-preserved
loop-c-preserved c = one_more c.args.connections.now _ _ c.loop-c.c c.loop-c.invariant c.with_connection-map.ensures

pub returns : goal.returns
returns c = let l = c.loop-c in whole c.args.connections.now _ l.c (omega arith) (omega arith) l.invariant
