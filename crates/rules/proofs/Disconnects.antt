-- "only type 1 with ok 0 hangs up", and 02, Item 3: "unanswered for 60 seconds or more, .. hang-up yes": every other plan leaves the caller
-- connected, and these do not. Assumes nothing.
use Prim.Native.Nat.{ℕ}
use mathlib.Core.Path.{◌≡◌, refl, sym, ap, ◌∙◌}
use mathlib.Core.Logic.{◌≢◌, ⊎_elim, ◌↔◌}
use mathlib.Core.Bool.{true, false, false≢true}
use mathlib.Core.Option.{some}
use mathlib.Core.List.{List}
use native.Mathlib.Omega.{arith}
use native.Mathlib.Decide.{ℕ_discrete}
use lib.Dec.{ltb}
use lib.ListN.{get_or}
use Rattle.octets.proofs.Tests.{both_left}
use Rattle.svsc.specs.Messages.{version_answer, sent_by_peers, type_of, is_some, decode, from_peer}
use Rattle.rules.specs.Tables.{Tables, partner_of}
use Rattle.rules.specs.Leases.{LeaseDecision, decide_lease, row_to_extend}
use Rattle.rules.specs.Searches.{end_row}
use Rattle.rules.specs.Sessions.{EstablishDecision, refused_with, established_with, decide_establish}
use Rattle.rules.specs.Plans.{Plan, plan_open, plan_lease, plan_extension, plan_establish, plan_end, plan_data, plan_close, plan}
use Rattle.rules.specs.Calls.{Call, opening, message, closing, keepalive, time_of, connection_of, Answer}
use Rattle.rules.specs.Charges.{received}
use Rattle.rules.specs.Step.{step, done}
use Rattle.rules.specs.Laws.{Accepted, EndsCaller}
use Rattle.rules.proofs.Checks.{from-peer}
use Rattle.rules.proofs.Messages.{by_type}
use Rattle.rules.proofs.MessageLaws.{answered_ok, answered-not_ok}
use Rattle.rules.proofs.KeepaliveLaws.{keepalive-exactly}
use Rattle.rules.proofs.Answers.{is-done, done_passed}
use Rattle.rules.proofs.Plans.{Each, kind_of, every_plan, by-lease, by_test}

module _ (tables : Tables) (now c n kind : ℕ) (other : kind ≢ 1) (alive : kind ≢ 15) where
  abbrev Stays : Plan → Type 0
  Stays x = x.disconnect ≡ false

  lease-stays : (d : LeaseDecision) → Stays (plan_lease tables now c d)
  unfolding plan_lease
  lease-stays d = by-lease Stays tables now c d refl (λ row e. refl) (λ row id cookie e. refl)

  establish-stays : (id : ℕ) (random : List ℕ) (d : EstablishDecision) → Stays (plan_establish tables c id random d)
  unfolding plan_establish
  establish-stays id random (refused_with status) = refl
  establish-stays id random (established_with h) = refl

  each_stays : Each Stays tables now c n kind
  unfolding plan_open plan_extension plan_end plan_data plan_close
  each_stays = record {
    open_plan = refl;
    version_answer_lem = λ t ok. absurd (other t);
    lease = λ random cookie. lease-stays (decide_lease tables.connections tables.leases now c random cookie);
    extension = λ cookie.
        by_test Stays (ltb (row_to_extend tables.leases now c cookie) (end_row (partner_of c))) (λ h. refl) (λ h. refl);
    establish_plan = λ id random long o. establish-stays id random (decide_establish tables.connections tables.leases now c id);
    end_plan = λ h. refl;
    data_plan = λ h bytes l. refl;
    no_plan = refl;
    close_plan = refl;
    dead_plan = λ t. absurd (alive t);
    ask_plan = refl;
  }

-- peers send no message of type 15
not_fifteen : (m : List ℕ) → from_peer m ≡ true → type_of m ≢ 15
unfolding from_peer
not_fifteen m h t = false≢true (rw t at (both_left (get_or sent_by_peers (type_of m) false) (is_some (decode m)) h))

stays-connected : (tables : Tables) (call : Call) → Accepted tables call → kind_of call ≢ 1 → kind_of call ≢ 15
    → (step tables call).answer.disconnect ≡ false
unfolding done plan
stays-connected tables call e n k =
    let each = each_stays tables (time_of call) (connection_of call) (received call) (kind_of call) n k in
    rw (is-done tables call e) (every_plan _ tables call (done_passed tables call e) each)

-- The caller is disconnected exactly by a version answer of 0, and by a keepalive that finds it dead.
pub disconnected-exactly : (tables : Tables) (call : Call) → Accepted tables call
    → ((step tables call).answer.disconnect ≡ true) ↔ EndsCaller tables.connections call
disconnected-exactly tables (opening now c reply) e = (
  (λ h. false≢true (sym (stays-connected tables (opening now c reply) e (λ z. omega arith) (λ z. omega arith)) ∙ h)),
  (λ x. absurd x),
)
disconnected-exactly tables (message now c m random reply relay) e = (
  (λ h. refuses h (ℕ_discrete (type_of m) 1)),
  (λ d. ap (λ (a : Answer). a.disconnect) (answered-not_ok tables now c m random reply relay e d).sent.answer),
)
  where
    sent : Call
    sent = message now c m random reply relay

    refuses : (step tables sent).answer.disconnect ≡ true → Dec (type_of m ≡ 1) → decode m ≡ some (version_answer 0)
    refuses h (yes t) =
        ⊎_elim (λ d. d)
        (λ d.
        absurd
        (false≢true
        (sym (ap (λ (a : Answer). a.disconnect) (answered_ok tables now c m random reply relay e d).sent.answer) ∙ h)))
        ((by_type m (from-peer tables now c m random reply relay (done_passed tables sent e))).one t)
    refuses h (no n) = absurd (false≢true (sym (stays-connected tables sent e n (not_fifteen m (from-peer tables now c m random reply relay (done_passed tables sent e)))) ∙ h))
disconnected-exactly tables (closing now c relay) e = (
  (λ h. false≢true (sym (stays-connected tables (closing now c relay) e (λ z. omega arith) (λ z. omega arith)) ∙ h)),
  (λ x. absurd x),
)
disconnected-exactly tables (keepalive now c reply relay) e = (keepalive-exactly tables now c reply relay e).dead
