-- Types and lengths of a message, over plain values. Assumes nothing.
use Prim.Native.Nat.{ℕ, zero, suc, ◌≤◌}
use mathlib.Core.Path.{◌≡◌, refl, sym}
use mathlib.Core.Bool.{true, false, false≢true}
use mathlib.Core.Option.{Option, none, some}
use mathlib.Core.List.{List, [], ◌∷◌}
use native.Mathlib.Omega.{arith}
use lib.Dec.{eqb}
use lib.ListN.{length, get_or, get_or-eq_default}
use Rattle.octets.specs.Octets.{byte_at}
use Rattle.octets.proofs.Tests.{both_right}
use Rattle.svsc.specs.Messages.{Message, type_of, decode, is_some, from_peer, sent_by_peers, longest_message}
use Rattle.svsc.proofs.ReadThenWritten.{message-length}
use Rattle.rules.specs.Checks.{permitted, permits}

-- ---- types

pub not-permitted_past : (s k : ℕ) → 14 ≤ k → false ≡ permits s k
not-permitted_past zero k h = sym (get_or-eq_default (get_or permitted 0 []) false h)
not-permitted_past (suc zero) k h = sym (get_or-eq_default (get_or permitted 1 []) false h)
not-permitted_past (suc (suc zero)) k h = sym (get_or-eq_default (get_or permitted 2 []) false h)
not-permitted_past (suc (suc (suc s))) k h = refl

pub no_such_state : (s k : ℕ) → 3 ≤ s → false ≡ permits s k
no_such_state s k h = rw (get_or-eq_default permitted [] h)

-- a message that peers send has a first byte, its type
pub type_known : (m : List ℕ) → from_peer m ≡ true → type_of m ≡ byte_at m 0
unfolding from_peer
type_known [] h = absurd (false≢true h)
type_known (x ∷ xs) h = refl

-- whether it is a SessionEnd shows in the first byte of any bytes
pub ends : (m : List ℕ) → eqb (type_of m) 9 ≡ eqb (byte_at m 0) 9
ends [] = refl
ends (x ∷ xs) = refl

pub peer-some : (m : List ℕ) → from_peer m ≡ true → 1 ≤ length m
unfolding from_peer
peer-some [] h = absurd (false≢true h)
peer-some (x ∷ xs) h = omega arith

pub peer-length : (m : List ℕ) → from_peer m ≡ true → length m ≤ longest_message
unfolding from_peer
peer-length m h = by (decode m) refl (both_right (get_or sent_by_peers (type_of m) false) _ h)
  where
    by : (d : Option Message) → decode m ≡ d → is_some (decode m) ≡ true → length m ≤ longest_message
    by none e s = absurd (false≢true (rw e at s))
    by (some x) e s = message-length m x e
