-- Which messages peers send, from their first byte. Assumes nothing.
use Prim.Native.Nat.{ℕ}
use mathlib.Core.Path.{◌≡◌, refl, sym, ◌∙◌}
use mathlib.Core.Bool.{Bool, true, false, ◌&&◌}
use mathlib.Core.List.{List, [], ◌∷◌}
use lib.ListN.{get_or}
use Rattle.octets.proofs.Tests.{and-true, and-false}
use Rattle.svsc.specs.Messages.{decode, is_some, from_peer, sent_by_peers}

-- a message that peers send, from its type
pub peer-sends : (m : List ℕ) (k : ℕ) (r : Bool) → is_some (decode m) ≡ true → k ≡ get_or m 0 0 → r ≡ get_or sent_by_peers k false → r ≡ from_peer m
unfolding from_peer
peer-sends m k r h e s = s ∙ rw (e, h) (first m h)
  where
    first : (m : List ℕ) → is_some (decode m) ≡ true → get_or sent_by_peers (get_or m 0 0) false ≡ get_or sent_by_peers (get_or m 0 14) false && true
    first [] h = refl
    first (x ∷ xs) h = sym (and-true (get_or sent_by_peers x false))

pub not-sent : (m : List ℕ) → is_some (decode m) ≡ false → false ≡ from_peer m
unfolding from_peer
not-sent m h = rw h (sym (and-false (get_or sent_by_peers (get_or m 0 14) false)))
