-- What comes of calls, starts, questions and tables, for the map. Assumes nothing.
use mathlib.Core.Path.{refl}
use Rattle.examples.specs.Examples.{Holds}
use Rattle.map_examples.specs.Maps.{called, started, partners_have, maps}

-- What calls make of the map that they are lent.
pub maps-after-calls : Holds called
unfolding called
maps-after-calls = refl

pub maps-after-starts : Holds started
unfolding started
maps-after-starts = refl

-- How many connections a partner has, and its lowest closed number.
pub maps-of-partners : Holds partners_have
unfolding partners_have
maps-of-partners = refl

pub maps_rebuilt : Holds maps
unfolding maps
maps_rebuilt = refl
