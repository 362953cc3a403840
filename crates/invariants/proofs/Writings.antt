-- What holds before a call, and after each writing to the lease rows, holds of what every call leaves of them. Assumes nothing.
use Prim.Native.Nat.{ℕ}
use mathlib.Core.Path.{◌≡◌, refl, ap, ◌∙◌}
use mathlib.Core.Bool.{true}
use mathlib.Core.List.{List}
use lib.Dec.{eqb, ltb}
use Rattle.rules.specs.Searches.{end_row}
use Rattle.rules.specs.Tables.{Tables, partner_of, set_expiry}
use Rattle.rules.specs.Leases.{decide_lease, renewed, granted, lease_end, grant, renew, row_to_extend, release}
use Rattle.rules.specs.Sessions.{EstablishDecision, refused_with, established_with, decide_establish}
use Rattle.rules.specs.Calls.{Call, time_of, connection_of, Outcome}
use Rattle.rules.specs.Charges.{received}
use Rattle.rules.specs.Plans.{Plan, plan_open, plan_version_answer, plan_lease, plan_extension, plan_establish, plan_end, plan_data, plan_close, plan}
use Rattle.rules.specs.Step.{step, done}
use Rattle.rules.proofs.Answers.{is-done, done_passed}
use Rattle.rules.proofs.Plans.{Each, kind_of, every_plan, by-lease, by_test}

module _ (P : List ℕ → Type 0) (tables : Tables) (now c : ℕ) where
  open tables use {connections as cs, leases as ls, allowances as al}

  -- what is to be shown: of the rows as they are, of a new lease, a renewal and an extension, and of a close
  pub record EachWriting : Type 0 where
    pub before : P ls
    pub grants : (random cookie : List ℕ) (row id : ℕ) (drawn : List ℕ) → decide_lease cs ls now c random cookie ≡ granted row id drawn
        → P (grant ls row (lease_end al now) id drawn c)
    pub renews : (random cookie : List ℕ) (row : ℕ) → decide_lease cs ls now c random cookie ≡ renewed row → P (renew ls row (lease_end al now) c)
    pub extends : (cookie : List ℕ) → ltb (row_to_extend ls now c cookie) (end_row (partner_of c)) ≡ true
        → P (set_expiry ls (row_to_extend ls now c cookie) (lease_end al now))
    pub releases : P (release ls c)

  module _ (w : EachWriting) where
    abbrev Holds : Plan → Type 0
    Holds x = P x.leases

    answer_holds : (ok : ℕ) → Holds (plan_version_answer tables c ok)
    unfolding plan_version_answer
    answer_holds ok = by_test Holds (eqb ok 1) (λ h. w.before) (λ h. w.before)

    lease_holds : (random cookie : List ℕ) → Holds (plan_lease tables now c (decide_lease cs ls now c random cookie))
    unfolding plan_lease
    lease_holds random cookie =
        by-lease Holds tables now c (decide_lease cs ls now c random cookie) w.before
        (λ row e. w.renews random cookie row e)
        (λ row id drawn e. w.grants random cookie row id drawn e)

    extension_holds : (cookie : List ℕ) → Holds (plan_extension tables now c (row_to_extend ls now c cookie))
    unfolding plan_extension
    extension_holds cookie = by_test Holds (ltb (row_to_extend ls now c cookie) (end_row (partner_of c))) (λ h. w.extends cookie h) (λ h. w.before)

    establish_holds : (id : ℕ) (random : List ℕ) (x : EstablishDecision) → Holds (plan_establish tables c id random x)
    unfolding plan_establish
    establish_holds id random (refused_with n) = w.before
    establish_holds id random (established_with h) = w.before

    each_holds : (n kind : ℕ) → Each Holds tables now c n kind
    unfolding plan_open plan_end plan_data plan_close
    each_holds n kind = record {
      open_plan = w.before;
      version_answer_lem = λ t. answer_holds;
      lease = lease_holds;
      extension = extension_holds;
      establish_plan = λ id random long o. establish_holds id random (decide_establish cs ls now c id);
      end_plan = λ h. w.before;
      data_plan = λ h bytes l. w.before;
      no_plan = w.before;
      close_plan = w.releases;
      dead_plan = λ t. w.releases;
      ask_plan = w.before;
    }

-- so it holds of the rows after a call that is done
pub every_writing : (P : List ℕ → Type 0) (tables : Tables) (call : Call) → (step tables call).answer.number ≡ 0
    → EachWriting P tables (time_of call) (connection_of call) → P (step tables call).tables.leases
every_writing P tables call e w =
    let each = each_holds P tables (time_of call) (connection_of call) w (received call) (kind_of call) in
    rw leases-done (unfold plan in every_plan _ tables call (done_passed tables call e) each)
  where
    leases-done : (step tables call).tables.leases ≡ (plan tables call).leases
    leases-done = ap (λ (o : Outcome). o.tables.leases) (is-done tables call e) ∙ (unfold done in refl)
