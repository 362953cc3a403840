-- Whom a decision names, and that a done send needs nothing else of the session: 02, Item 4, "a send looks its session up once, before
-- copying". Assumes nothing.
use Prim.Native.Nat.{ℕ}
use mathlib.Core.Path.{◌≡◌, sym, ◌∙◌}
use mathlib.Core.Logic.{◌≢◌, ◌↔◌}
use mathlib.Core.Bool.{true}
use mathlib.Core.List.{List}
use native.Mathlib.Omega.{arith}
use lib.Dec.{eqb}
use lib.ListN.{drop}
use borrow.Author.Tests.{eqb-true}
use Rattle.octets.proofs.Tests.{either}
use Rattle.svsc.specs.Messages.{type_of, encode, decode, from_peer}
use Rattle.std.specs.Prelude.{Some}
use Rattle.svsc.specs.Copying.{copied, copy_data}
use Rattle.svsc.proofs.Copying.{copy_done}
use Rattle.rules.specs.Sizes.{nobody}
use Rattle.rules.specs.Tables.{Tables, peer, in_session, has_session}
use Rattle.rules.specs.Decisions.{Decision, other_of, decide_message}
use Rattle.rules.specs.Calls.{Call, message}
use Rattle.rules.specs.Checks.{needs_session, precheck}
use Rattle.rules.specs.Step.{step}
use Rattle.rules.specs.Laws.{Accepted}
use Rattle.rules.proofs.Answers.{done_passed}
use Rattle.rules.proofs.Checks.{passed, from-peer, relay_room}
use Rattle.rules.proofs.Connections.{paired}
use Rattle.rules.proofs.Messages.{end_read, data_read, data_length}
use Rattle.rules.proofs.Plans.{every_decision}
use Rattle.rules.proofs.MessageLaws.{data_to_paired}

module _ (tables : Tables) (now c : ℕ) (m random reply relay : List ℕ) (h : precheck tables (message now c m random reply relay) ≡ 0) where
  abbrev cs : List ℕ
  cs = tables.connections

  abbrev decision : Decision
  decision = decide_message cs tables.leases now c random (decode m)

  fits : from_peer m ≡ true
  fits = from-peer tables now c m random reply relay h

  names-peer : needs_session (type_of m) ≡ true → other_of decision ≡ peer cs c
  unfolding decide_message
  names-peer t =
      either (eqb (type_of m) 9) (eqb (type_of m) 11) t (other_of decision ≡ peer cs c)
      (λ e. rw (end_read m fits (eqb-true (type_of m) 9 e)))
      (λ e. rw (data_read m fits (eqb-true (type_of m) 11 e)))

  -- Of a message that passes checks 1 to 8 the decision names another connection exactly if it is of type 9 or 11, and that is the one in session with
  -- the sender.
  pub other-exactly : (d : ℕ) → ((other_of decision ≡ d) × (d ≢ nobody)) ↔ ((needs_session (type_of m) ≡ true) × (in_session cs c d ≡ true))
  unfolding has_session
  other-exactly d = (
    (λ q.
        every_decision (λ x. other_of x ≡ d → (needs_session (type_of m) ≡ true) × (in_session cs c d ≡ true)) tables now c m random reply relay h
        (record {
          version_answered_lem = λ t ok e. absurd (q.1 (sym e));
          lease_decided_lem = λ t cookie e. absurd (q.1 (sym e));
          extension_decided_lem = λ t cookie e. absurd (q.1 (sym e));
          session_decided_lem = λ t id o e. absurd (q.1 (sym e));
          session_ended_lem = λ t s e. (rw t, rw e at s);
          data_sent_lem = λ t s bytes l e. (rw t, rw e at s);
          nothing_asked_lem = λ e. absurd (q.1 (sym e));
        })
        q.0),
    (λ q.
        let two = paired cs c d q.1 in (
          names-peer q.0 ∙ two.names_first,
          λ n. omega (arith, two.of_one, (passed tables (message now c m random reply relay) h).known, n),
        )),
  )

-- ---- a send that is done

module _ (tables : Tables) (now c : ℕ) (m random reply relay : List ℕ) where
  abbrev sent : Call
  sent = message now c m random reply relay

  -- The buffer is what the copying makes of its data, and the answer tells how much that is.
  pub data_copied : Accepted tables sent → type_of m ≡ 11
      → copy_data (drop 1 m) relay ≡ copied (Some (step tables sent).answer.relay_length) (step tables sent).relay
  unfolding encode
  data_copied e t =
      let h = done_passed tables sent e in
      let size = data_length m (drop 1 m) (data_read m (from-peer tables now c m random reply relay h) t) in
      let room = relay_room tables now c m random reply relay h in
      let told = (data_to_paired tables now c m random reply relay e t).sent in
      rw (told.answer, told.relay) (sym (copy_done (drop 1 m) relay (omega (arith, size, room))))
