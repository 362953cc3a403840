-- What a keepalive does where it is answered with 0: closes the connection, asks it, or nothing; the whole answer, both buffers, and every
-- byte of the tables. Assumes nothing.
use Prim.Native.Nat.{ℕ}
use mathlib.Core.Path.{◌≡◌, refl, sym, ap, ◌∙◌}
use mathlib.Core.Logic.{◌≢◌, ◌↔◌, ⊎_elim}
use mathlib.Core.Bool.{Bool, true, false, true≢false, false≢true}
use mathlib.Core.List.{List}
use native.Mathlib.Omega.{arith}
use lib.ListN.{length}
use borrow.Author.Tests.{le-ltb}
use Rattle.octets.specs.Octets.{put}
use Rattle.octets.proofs.Tests.{by_test as either_way}
use Rattle.svsc.specs.Messages.{keepalive_message, encode}
use Rattle.rules.specs.Sizes.{least_buffer}
use Rattle.rules.specs.Tables.{Tables, unanswered_at, keepalive_at}
use Rattle.rules.specs.Keepalives.{is_dead, is_due, ask, stamp}
use Rattle.rules.specs.Calls.{Call, closing, keepalive, Outcome, Answer}
use Rattle.rules.specs.Plans.{Plan, reply_only, do_nothing, plan_close, disconnecting, plan_keepalive, plan_call, stamped, plan}
use Rattle.rules.specs.Charges.{price, caller_level, charge}
use Rattle.rules.specs.Checks.{wrong_time, wrong_state, wrong_lengths, not_from_peer, not_permitted, no_session, above_level, first_eight, checks, check}
use Rattle.rules.specs.Step.{step, done}
use Rattle.rules.specs.Effects.{Dead, Due, KeepaliveExactly, ClosedAsDead, Asked, Untouched}
use Rattle.rules.specs.Laws.{Accepted}
use Rattle.rules.proofs.Checks.{Passed, passed, keepalive-room}
use Rattle.rules.proofs.Answers.{answer-is-check, is-done, done_passed}
use Rattle.rules.proofs.Exactly.{refuted}
use Rattle.rules.proofs.Changes.{changed_both}
use Rattle.rules.proofs.Marks.{dead-exactly, due-exactly, changed_ask, changed_last-sent, asked-at, asked-unanswered, sent-at, time-kept}
use Rattle.rules.proofs.MessageLaws.{replied, sent-nothing}

module _ (tables : Tables) (now c : ℕ) (reply relay : List ℕ) (e : Accepted tables (keepalive now c reply relay)) where
  open tables use {connections as cs, leases as ls}

  abbrev call : Call
  call = keepalive now c reply relay

  abbrev o : Outcome
  o = step tables call

  fit : Passed tables call
  fit = passed tables call (done_passed tables call e)

  -- the outcome, by what was found
  outcome-of : (x : Plan) → plan_keepalive tables now c ≡ x → o ≡ done tables call (stamped now c x)
  unfolding plan plan_call
  outcome-of x h = is-done tables call e ∙ ap (λ (x : Plan). done tables call (stamped now c x)) h

  dead_plan : Dead cs now c → plan_keepalive tables now c ≡ disconnecting (plan_close tables c)
  unfolding plan_keepalive
  dead_plan d = rw ((dead-exactly cs now c).1 d)

  alive : (Dead cs now c → ⊥) → is_dead cs now c ≡ false
  alive n = refuted (is_dead cs now c) (λ t. n ((dead-exactly cs now c).0 t))

  -- who is dead has not answered, and who is asked owes no answer
  due_alive : Due cs now c → Dead cs now c → ⊥
  due_alive u d = u.0 d.0

  due-plan : Due cs now c → plan_keepalive tables now c ≡ reply_only (ask cs now c) ls (encode keepalive_message)
  unfolding plan_keepalive
  due-plan u = rw (alive (due_alive u), (due-exactly cs now c).1 u)

  idle_plan : (Dead cs now c → ⊥) → (Due cs now c → ⊥) → plan_keepalive tables now c ≡ do_nothing tables
  unfolding plan_keepalive
  idle_plan n m = rw (alive n, refuted (is_due cs now c) (λ t. m ((due-exactly cs now c).0 t)))

  -- ---- "closed as by close"

  -- a close passes the checks where the keepalive does
  close_passes : check tables (closing now c relay) ≡ check tables call
  unfolding check checks first_eight wrong_time wrong_state wrong_lengths not_from_peer not_permitted no_session above_level caller_level price
  close_passes =
      let room = keepalive-room tables now c reply relay (done_passed tables call e) in
      rw (le-ltb (length reply) least_buffer room.0)

  close_accepted : Accepted tables (closing now c relay)
  close_accepted =
      answer-is-check tables (closing now c relay) ∙ close_passes ∙ sym (answer-is-check tables call) ∙ e

  pub closed_as_dead : Dead cs now c → ClosedAsDead call o (step tables (closing now c relay))
  unfolding done put plan plan_call plan_close charge
  closed_as_dead d =
      rw (outcome-of _ (dead_plan d), is-done tables (closing now c relay) close_accepted)
      (record { also_closed = refl; answer = refl; tables = refl; relay = refl; reply = refl })

  -- ---- "a Keepalive goes into the reply tray"

  pub asked : Due cs now c → Asked tables call now c o
  unfolding done stamp encode
  asked u =
      let asks = ask cs now c in
      let size : length asks ≡ length cs = sym (changed_ask cs now c).long in
      let stamped = changed_last-sent asks c now in
      rw (outcome-of _ (due-plan u))
      (record {
        sent = replied tables call _ ls _;
        unanswered =
            sym (stamped.at (unanswered_at c) (λ p. omega (arith, p.0, p.1)))
            ∙ asked-unanswered cs now c fit.connections fit.known;
        last_sent_lem = sent-at asks now c (size ∙ fit.connections) fit.known fit.in_limit;
        keepalive_sent_lem =
            time-kept stamped (keepalive_at c) now (λ i l u p. omega (arith, p.0, p.1)) (asked-at cs now c fit.connections fit.known fit.in_limit);
        stay = record { connections = changed_both (changed_ask cs now c) stamped; leases = refl };
      })

  -- ---- "Otherwise nothing is sent"

  pub untouched : (Dead cs now c → ⊥) → (Due cs now c → ⊥) → Untouched tables call o
  unfolding done stamp
  untouched n m = rw (outcome-of _ (idle_plan n m)) (record { sent = sent-nothing tables call cs ls; connections = refl; leases = refl })

  -- ---- exactly when

  -- dead, asked, or neither
  found : {A : Type 0} → (Dead cs now c → A) → ((Dead cs now c → ⊥) → Due cs now c → A)
      → ((Dead cs now c → ⊥) → (Due cs now c → ⊥) → A)
      → A
  found {A} f g h = ⊎_elim (λ t. f ((dead-exactly cs now c).0 t)) (λ t. living (not_so t (dead-exactly cs now c))) (either_way (is_dead cs now c))
    where
      not_so : {B : Type 0} {t : Bool} → t ≡ false → (t ≡ true) ↔ B → B → ⊥
      not_so e x b = true≢false (sym (x.1 b) ∙ e)

      living : (Dead cs now c → ⊥) → A
      living n = ⊎_elim (λ t. g n ((due-exactly cs now c).0 t)) (λ t. h n (not_so t (due-exactly cs now c))) (either_way (is_due cs now c))

  pub keepalive-exactly : KeepaliveExactly cs now c o
  unfolding encode
  keepalive-exactly = record {
    dead = (
      (λ h. found (λ d. d) (λ d u. absurd (false≢true (sym (ap (λ (a : Answer). a.disconnect) (asked u).sent.answer) ∙ h)))
          (λ d u. absurd (false≢true (sym (ap (λ (a : Answer). a.disconnect) (untouched d u).sent.answer) ∙ h)))),
      (λ d. ap (λ (a : Answer). a.disconnect) (closed_as_dead d).answer),
    );
    due = (
      (λ h. found (λ d. absurd (h (ap (λ (a : Answer). a.reply_length) (closed_as_dead d).answer))) (λ d u. u)
          (λ d u. absurd (h (ap (λ (a : Answer). a.reply_length) (untouched d u).sent.answer)))),
      (λ u z. let one = ap (λ (a : Answer). a.reply_length) (asked u).sent.answer in omega arith),
    );
  }
