-- What an open and a close do where they are answered with 0: the whole answer, both buffers, and every byte of the tables. Assumes nothing.
use Rattle.std.specs.Prelude.{if◌then◌else◌}
use Prim.Native.Nat.{ℕ, ◌+◌}
use mathlib.Core.Path.{◌≡◌, refl, sym, ◌∙◌}
use mathlib.Core.Logic.{◌≢◌, inl, inr, ⊎_elim}
use mathlib.Core.Bool.{true, false}
use mathlib.Core.List.{List, [], ◌∷◌}
use native.Mathlib.Omega.{arith}
use lib.ListN.{length}
use Rattle.octets.specs.Octets.{put}
use Rattle.octets.proofs.Tests.{by_test as either_way}
use Rattle.svsc.specs.Messages.{digits, encode}
use Rattle.rules.specs.Sizes.{rows_per_partner, connections_size}
use Rattle.rules.specs.Searches.{first_row}
use Rattle.rules.specs.Tables.{Tables, partner_of, connection_at, peer, in_session, has_session}
use Rattle.rules.specs.Leases.{release}
use Rattle.rules.specs.Sessions.{clear, await, end_session}
use Rattle.rules.specs.Keepalives.{stamp}
use Rattle.rules.specs.Calls.{Call, opening, closing, Outcome}
use Rattle.rules.specs.Plans.{Plan, do_nothing, plan_open, plan_end, plan_close, plan_call, plan}
use Rattle.rules.specs.Step.{step, done}
use Rattle.rules.specs.Effects.{InConnection, InSessionBytes, Opened, Closed, ClosedInSession, ClosedAlone}
use Rattle.rules.specs.Laws.{Accepted}
use Rattle.rules.proofs.Checks.{Passed, passed}
use Rattle.rules.proofs.Answers.{is-done, done_passed}
use Rattle.rules.proofs.Plans.{by_test}
use Rattle.rules.proofs.Same.{same_trans}
use Rattle.rules.proofs.Connections.{cleared_record, fresh_record, await-fresh, paired, session_with, length-end}
use Rattle.rules.proofs.Changes.{changed_more, changed_both, changed_clear, changed_await, changed_end, release-only, given_back}
use Rattle.rules.proofs.Marks.{changed_stamp, cleared-kept, fresh-beside}
use Rattle.rules.proofs.Sessions.{close_clears_other}
use Rattle.rules.proofs.MessageLaws.{replied}

-- ---- open

-- The connection awaits the version answer, and is told "SVSC 001.000".
pub opened-fresh : (tables : Tables) (now c : ℕ) (reply : List ℕ) → Accepted tables (opening now c reply)
    → Opened tables (opening now c reply) c (step tables (opening now c reply))
    (0 ∷ 83 ∷ 86 ∷ 83 ∷ 67 ∷ 32 ∷ 48 ∷ 48 ∷ 49 ∷ 46 ∷ 48 ∷ 48 ∷ 48 ∷ [])
unfolding done plan plan_call plan_open encode digits stamp
opened-fresh tables now c reply e =
    let fits = passed tables (opening now c reply) (done_passed tables (opening now c reply) e) in
    let awaits = await tables.connections c in
    let stamped = changed_stamp awaits c now 13 in
    rw (is-done tables (opening now c reply) e)
    (record {
      sent = replied tables (opening now c reply) _ _ _;
      own = λ i l q.
          sym (stamped.at (connection_at c + i) (λ p. ⊎_elim (λ a. omega (arith, p.0, p.1)) (λ b. omega (arith, p.0, p.1)) q))
          ∙ await-fresh tables.connections c fits.connections fits.known i l;
      others =
          same_trans (changed_await tables.connections c)
          (changed_more (λ i p. (omega (arith, p.0), omega (arith, p.1))) stamped);
      leases = refl;
    })

-- ---- close

module _ (tables : Tables) (now c : ℕ) (relay : List ℕ) (e : Accepted tables (closing now c relay)) where
  open tables use {connections as cs, leases as ls}

  abbrev call : Call
  call = closing now c relay

  abbrev o : Outcome
  o = step tables call

  fit : Passed tables call
  fit = passed tables call (done_passed tables call e)

  -- the end of the session, if there is one, and the records then
  abbrev ending : Plan
  ending = if has_session cs c then plan_end tables c (peer cs c) else do_nothing tables

  abbrev ended : List ℕ
  ended = ending.connections

  ended-long : length ended ≡ connections_size
  unfolding plan_end
  ended-long =
      by_test (λ (x : Plan). length x.connections ≡ connections_size) (has_session cs c)
      (λ h. length-end cs c (peer cs c) ∙ fit.connections)
      (λ h. fit.connections)

  -- who is told of the end is another connection
  apart : length ending.relay ≢ 0 → c ≢ ending.destination
  unfolding plan_end has_session
  apart =
      by_test (λ (x : Plan). length x.relay ≢ 0 → c ≢ x.destination) (has_session cs c)
      (λ h n. (paired cs c (peer cs c) h).differ)
      (λ h n. absurd (n refl))

  -- Its record is fresh, and of the lease table only the holders that named it change.
  pub closed-fresh : Closed tables c o
  unfolding done plan plan_call plan_close release stamp
  closed-fresh =
      rw (is-done tables call e)
      (record {
        own =
            fresh-beside (clear ended c) now (length ending.relay) c ending.destination 0 apart
            (fresh_record _ c (cleared_record ended c ended-long fit.known));
        given_back = λ r mine named.
            given_back c rows_per_partner ls (first_row (partner_of c)) fit.leases (omega (arith, fit.of_partner)) r (omega arith) (omega arith) named;
        other_rows =
            changed_more (λ i q. (q.0, omega (arith, q.1, q.2), q.3, q.4)) (release-only c rows_per_partner ls (first_row (partner_of c)));
      })

  -- With a session, the other side ends and is told.
  pub closed_in_session : (d : ℕ) → in_session cs c d ≡ true → ClosedInSession tables call c d o (10 ∷ [])
  unfolding done put plan plan_call plan_close plan_end encode stamp
  closed_in_session d s =
      let two = paired cs c d s in
      let left = clear (end_session cs c d) c in
      let stamped = changed_stamp left d now 1 in
      rw (is-done tables call e, session_with cs c d s, two.names_first)
      (record {
        sent = record { answer = refl; reply = refl; relay = refl };
        other =
            cleared-kept (changed_more (λ i p. (omega (arith, p.0, p.1), omega (arith, p.0, p.1))) stamped) d
            (close_clears_other cs c d fit.connections fit.known two);
        others =
            changed_both
            (same_trans
            (changed_more (λ i q. ⊎_elim (λ a. inl (whole i a)) (λ b. inr b) q) (changed_end cs c d))
            (changed_more (λ i q. inl q) (changed_clear (end_session cs c d) c)))
            stamped;
      })
    where
      whole : (i : ℕ) → InSessionBytes c i → InConnection c i
      whole i = ⊎_elim (λ a. (omega (arith, a.0), omega (arith, a.1))) (λ b. (omega (arith, b.0), omega (arith, b.1)))

  -- Without one nothing is sent, and no other record changes.
  pub closed_alone : ((d : ℕ) → in_session cs c d ≡ true → ⊥) → ClosedAlone tables call c o
  unfolding done put plan plan_call plan_close has_session stamp
  closed_alone n =
      rw (is-done tables call e, alone)
      (record { sent = record { answer = refl; reply = refl; relay = refl }; others = changed_clear cs c })
    where
      alone : in_session cs c (peer cs c) ≡ false
      alone = ⊎_elim (λ s. absurd (n (peer cs c) s)) (λ s. s) (either_way (in_session cs c (peer cs c)))
