-- What the checks of a message have shown, and the way out of one that is done, over plain values. Assumes nothing.
use Rattle.std.specs.Prelude.{Ok}
use Prim.Native.Nat.{ℕ, ◌≤◌, max}
use mathlib.Core.Path.{◌≡◌, refl, sym, ap, ◌∙◌}
use mathlib.Core.Bool.{true, false}
use mathlib.Core.List.{List}
use native.Mathlib.Omega.{arith}
use lib.ListN.{length}
use borrow.Author.Tests.{ltb-false, eqb-true, not-false}
use Rattle.octets.proofs.Tests.{either_false}
use Rattle.svsc.specs.Messages.{from_peer}
use Rattle.rules.specs.Sizes.{least_buffer}
use Rattle.rules.specs.Tables.{lent, Tables, set_clock}
use Rattle.rules.specs.Leases.{LeaseDecision, holds_lease, no_spare_row, cookie_in_use, no_free_id, renewed, granted, decide_lease}
use Rattle.rules.specs.Sessions.{EstablishDecision, refused_with, established_with, decide_establish}
use Rattle.rules.specs.Keepalives.{answered, stamp}
use Rattle.rules.specs.Calls.{Call, message}
use Rattle.rules.specs.Charges.{charge, price}
use Rattle.rules.specs.Checks.{wrong_lengths, not_from_peer, precheck, check}
use Rattle.rules.specs.Plans.{Plan, plan, plan_call, plan_message, plan_decided}
use Rattle.rules.specs.Step.{step}
use Rattle.rules.proofs.Decisions.{is-renewed, is-granted}
use Rattle.rules.proofs.Plans.{every_decision}
use Rattle.statuses.proofs.Ways.{status_range}
use Rattle.journal.specs.Records.{priced}
use Rattle.journal.proofs.Records.{priced_passed}
use Rattle.answers.specs.declared.Answer.{Answer}
use Rattle.answers.specs.Applied.{handled, applied}
use Rattle.answers.specs.Results.{call_result, shown}
use Rattle.answers.proofs.Ways.{done_way, marked-done}
use Rattle.checks.proofs.MessageChecks.{peer-some, peer-length}
use Rattle.refusal_numbers.specs.declared.Refusal.{Refusal}
use Rattle.refusal_numbers.specs.Numbers.{number_of}
use Rattle.refusal_numbers.proofs.Numbers.{number-some}
use Rattle.refusals.specs.Passed.{Payable}
use Rattle.refusals.proofs.Stops.{eight-stop, call-sized, call_known, call-timely, right_lengths, sent-by-peer, payable}
use Rattle.decisions.specs.Decided.{meaning}
use Rattle.leasing.specs.Asked.{InRows}
use Rattle.establishing.specs.Asked.{InStatuses}
use Rattle.message_refusal.specs.declared.Assessment.{Assessment}
use Rattle.message_refusal.specs.Assessed.{assessed_as, assessed}
use Rattle.message_refusal.proofs.MessageStops.{assessed-price, assessed-decision}
use Rattle.dispatch.specs.Asked.{Admitted, Feasible}

-- What one of checks 1 to 8 stops has no price in the journal.
pub unpriced : (tables : Tables) (time c : ℕ) (m random reply relay : List ℕ) (refusal : Refusal)
    → number_of refusal ≡ precheck tables (message time c m random reply relay) → priced (number_of refusal) ≡ true
    → 0 ≡ price tables (message time c m random reply relay)
unpriced tables time c m random reply relay refusal e h =
    let call = message time c m random reply relay in
    absurd (number-some refusal (e ∙ priced_passed tables call (rw (← eight-stop tables call refusal e) h)))

-- what passed checks show; f is what they hand on
module _
    (tables : Tables) (time c : ℕ) (m random reply relay : List ℕ) (f : Assessment)
    (eight : 0 ≡ precheck tables (message time c m random reply relay))
    (all : assessed_as (Ok f) m random ≡ assessed tables time c m random reply relay) (e : 0 ≡ check tables (message time c m random reply relay))
  where
    open tables use {connections as cs, leases as ls, allowances as al}

    abbrev sent : Call
    sent = message time c m random reply relay

    passes : precheck tables sent ≡ 0
    passes = sym eight

    fits : wrong_lengths sent ≡ false
    fits = right_lengths tables sent e

    from-peer : from_peer m ≡ true
    unfolding not_from_peer
    from-peer = not-false _ (sent-by-peer tables sent e)

    pub admitted : Admitted ls time c m random reply relay
    unfolding wrong_lengths
    admitted =
        let sizes = either_false _ _ fits in
        let room : max least_buffer (length m) ≤ length relay = ltb-false _ _ sizes.1 in
        let small = either_false _ _ sizes.0 in
        record {
          size = (call-sized tables sent e).leases;
          known = call_known tables sent e;
          timely = call-timely tables sent e;
          random_size = eqb-true _ _ (not-false _ small.0);
          reply_room = ltb-false _ _ small.1;
          relay_room = omega arith;
          message_some = peer-some m from-peer;
          message_short = peer-length m from-peer;
          message_room = omega arith;
        }

    -- every decision names a row of the table and a status of the protocol
    lease_feasible : (cookie : List ℕ) (d : LeaseDecision) → decide_lease cs ls time c random cookie ≡ d → InRows d
    lease_feasible cookie holds_lease h = tt
    lease_feasible cookie no_spare_row h = tt
    lease_feasible cookie cookie_in_use h = tt
    lease_feasible cookie no_free_id h = tt
    lease_feasible cookie (renewed row) h =
        omega (arith, (is-renewed ls time c random cs cookie row h).own.high, call_known tables sent e)
    lease_feasible cookie (granted row id drawn) h =
        omega (arith, (is-granted ls time c random cs cookie row id drawn h).own.high, call_known tables sent e)

    status_feasible : (id : ℕ) (d : EstablishDecision) → decide_establish cs ls time c id ≡ d → InStatuses d
    status_feasible id (refused_with status) h = status_range cs ls time c id status h
    status_feasible id (established_with holder) h = tt

    pub feasible : Feasible (meaning f.decision m random)
    feasible =
        rw (assessed-decision tables time c m random reply relay f eight all)
        (every_decision Feasible tables time c m random reply relay passes
        (record {
          version_answered_lem = λ t ok. tt;
          lease_decided_lem = λ t cookie. lease_feasible cookie (decide_lease cs ls time c random cookie) refl;
          extension_decided_lem = λ t cookie. tt;
          session_decided_lem = λ t id o. status_feasible id (decide_establish cs ls time c id) refl;
          session_ended_lem = λ t s. tt;
          data_sent_lem = λ t s bytes l. tt;
          nothing_asked_lem = tt;
        }))

    pub admitted_payable : Payable al time c f.price
    admitted_payable = rw (assessed-price tables time c m random reply relay f eight all) (payable tables sent e)

    -- what the checks decided is the plan that is carried out
    as_planned : plan_decided tables time c random (meaning f.decision m random) ≡ plan_call tables sent
    unfolding plan_call plan_message
    as_planned = rw (assessed-decision tables time c m random reply relay f eight all)

    pub message_way : (cs' cs'' ls' al' reply' relay' : List ℕ) (r : Answer)
        → handled r cs' ls' reply' relay' ≡ applied (plan_decided tables time c random (meaning f.decision m random)) reply relay
        → cs'' ≡ stamp (stamp (answered cs' c) time r.reply c) time r.relay r.destination
        → al' ≡ set_clock (charge al sent f.price) time
        → call_result r (lent cs'' ls' al') reply' relay' ≡ shown (step tables sent)
    unfolding plan
    message_way cs' cs'' ls' al' reply' relay' r h s p =
        done_way tables sent 0 e refl (call_result r (lent cs'' ls' al') reply' relay')
        (marked-done tables sent (plan_call tables sent) cs' cs'' ls' al' reply' relay' r (h ∙ ap (λ (x : Plan). applied x reply relay) as_planned) s
        (p ∙ rw (assessed-price tables time c m random reply relay f eight all)))
