-- "Peers send 1, 2, 4, 6, 9, 11, 13": the table of `Messages` has these types and no others. Assumes nothing.
use mathlib.Core.Path.{◌≡◌, refl}
use mathlib.Core.List.{[], ◌∷◌}
use lib.ListN.{length}
use Rattle.svsc.specs.Messages.{sent_by_peers, types_in}

pub peers_send : (types_in 0 sent_by_peers ≡ 1 ∷ 2 ∷ 4 ∷ 6 ∷ 9 ∷ 11 ∷ 13 ∷ []) × (length sent_by_peers ≡ 14)
unfolding types_in
peers_send = (refl, refl)
