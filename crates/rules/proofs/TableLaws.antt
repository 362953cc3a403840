-- How tables are read, whatever they hold: where each field stands, and each test of a record against its sentence of 01, "The board".
-- Assumes nothing.
use Prim.Native.Nat.{ℕ, ◌+◌, ◌*◌, ◌<◌}
use mathlib.Core.Path.{◌≡◌, refl, ap}
use mathlib.Core.Logic.{◌↔◌}
use mathlib.Core.Bool.{true}
use mathlib.Core.List.{List}
use native.Mathlib.Omega.{arith}
use borrow.Author.Tests.{le-leb, lt-leb, eq-eqb, eqb-true}
use Rattle.octets.specs.Octets.{byte_at, part}
use Rattle.rules.specs.Tables.{partner_of, owner_of, state, peer, is_unanswered, last_sent, keepalive_sent, in_session, has_session, expiry, id_of, live, holder, cookie_of, holder_counts, bucket_of, clock, stored_term}
use Rattle.rules.specs.Layout.{ConnectionFields, LeaseFields, AllowanceFields, CallWords}
use Rattle.rules.specs.Laws.{InSession}
use Rattle.rules.proofs.Exactly.{eq-exactly, lt-exactly, and-exactly}
use Rattle.rules.proofs.Connections.{paired, in_session_lem, session_with}

-- ---- fields

pub connection-fields : (cs : List ℕ) (c : ℕ) → ConnectionFields cs c
unfolding state is_unanswered last_sent keepalive_sent
connection-fields cs c = record {
  state_known = λ h. rw (le-leb (byte_at cs (64 * c)) 2 h);
  state_above = λ h. rw (lt-leb (byte_at cs (64 * c)) 2 h);
  peer_is = refl;
  unanswered_is = eq-exactly (byte_at cs (64 * c + 2)) 1;
  last_sent_is = refl;
  keepalive_sent_is = refl;
  session_id_is = refl;
  peer_id_is = let e : 64 * c + 16 + 16 ≡ 64 * c + 32 = omega arith in ap (λ (at : ℕ). part cs at 16) e;
  peer_key_is = let e : 64 * c + 16 + 16 + 16 ≡ 64 * c + 48 = omega arith in ap (λ (at : ℕ). part cs at 16) e;
  of_partner = refl;
}

pub lease-fields : (ls : List ℕ) (r : ℕ) → LeaseFields ls r
unfolding expiry id_of cookie_of
lease-fields ls r = record { expiry_is = refl; id_is = refl; holder_is = refl; cookie_is = refl; of_partner = refl }

pub allowance_fields : (al : List ℕ) (p : ℕ) → AllowanceFields al p
unfolding bucket_of clock stored_term
allowance_fields al p = record { level_is = refl; updated_is = refl; clock_is = refl; term_is = refl }

-- what a call brings
pub call_words : (now c : ℕ) (m random reply relay : List ℕ) → CallWords now c m random reply relay
call_words now c m random reply relay = record {
  times = (refl, refl, refl, refl);
  connections = (refl, refl, refl, refl);
  callers = (refl, refl, refl, refl);
  replies = (refl, refl, refl, refl);
  relays = (refl, refl, refl, refl);
}

-- ---- tests

-- "A lease row is live when the reading is below its expiry."
pub live-exactly : (ls : List ℕ) (now r : ℕ) → (live ls now r ≡ true) ↔ (now < expiry ls r)
unfolding live
live-exactly ls now r = lt-exactly now (expiry ls r)

-- "A holder counts exactly if it is an open connection of the row's partner."
pub holder-exactly : (cs ls : List ℕ) (r : ℕ)
    → (holder_counts cs ls r ≡ true) ↔ ((partner_of (holder ls r) ≡ owner_of r) × (state cs (holder ls r) ≡ 2))
unfolding holder_counts
holder-exactly cs ls r = and-exactly _ _ (eq-exactly (partner_of (holder ls r)) (owner_of r)) (eq-exactly (state cs (holder ls r)) 2)

-- "Two connections are in session exactly if they differ, both are open, are of one partner, and each names the other."
pub in_session_exactly : (cs : List ℕ) (c d : ℕ) → (in_session cs c d ≡ true) ↔ InSession cs c d
in_session_exactly cs c d = (
  (λ h.
      let two = paired cs c d h in
      record {
        differ = two.differ;
        first_open = eqb-true (state cs c) 2 two.opened_first;
        second_open = eqb-true (state cs d) 2 two.opened_second;
        of_one = two.of_one;
        names_second = two.names_first;
        names_first = two.names_second;
      }),
  (λ q.
      in_session_lem cs c d
      (record {
        of_one = q.of_one;
        differ = q.differ;
        opened_first = eq-eqb (state cs c) 2 q.first_open;
        opened_second = eq-eqb (state cs d) 2 q.second_open;
        names_first = q.names_second;
        names_second = q.names_first;
      })),
)

-- a connection has a session exactly if it is in session with one
pub has_session_exactly : (cs : List ℕ) (c : ℕ) → (has_session cs c ≡ true) ↔ ((d : ℕ) × (in_session cs c d ≡ true))
unfolding has_session
has_session_exactly cs c = ((λ h. (peer cs c, h)), (λ q. session_with cs c q.0 q.1))
