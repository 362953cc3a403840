-- A plan writes to records of its own partner and sends to its own partner alone. Assumes nothing.
use Rattle.std.specs.Prelude.{if◌then◌else◌}
use Prim.Native.Nat.{ℕ}
use mathlib.Core.Path.{◌≡◌, refl, sym}
use mathlib.Core.Logic.{◌≢◌}
use mathlib.Core.Bool.{Bool, true, false}
use mathlib.Core.List.{List, []}
use native.Mathlib.Omega.{arith}
use lib.Dec.{eqb, ltb}
use lib.ListN.{length}
use Rattle.svsc.specs.Messages.{cookie_bytes}
use Rattle.rules.specs.Sizes.{rows_per_partner, connection_bytes, lease_bytes, nobody}
use Rattle.rules.specs.Searches.{first_row, end_row}
use Rattle.rules.specs.Tables.{Tables, partner_of, owner_of, opened, peer, has_session}
use Rattle.rules.specs.Leases.{decide_lease, row_to_extend, release}
use Rattle.rules.specs.Sessions.{EstablishDecision, refused_with, established_with, decide_establish, establish}
use Rattle.rules.specs.Plans.{Plan, do_nothing, plan_open, plan_version_answer, plan_lease, plan_extension, plan_establish, plan_end, plan_data, plan_close, plan_call, answered_by, plan}
use Rattle.rules.specs.Calls.{Call, time_of, connection_of}
use Rattle.rules.specs.Charges.{received}
use Rattle.rules.specs.Checks.{precheck}
use Rattle.rules.proofs.Records.{Kept, kept_same, kept_trans, length-part-most}
use Rattle.rules.proofs.Connections.{paired, joined-others, keys_most, kept-clear, kept-state, kept-await, kept-end}
use Rattle.rules.proofs.Rows.{kept-expiry, kept-grant, kept-renew, kept-release}
use Rattle.rules.proofs.Decisions.{is-renewed, is-granted, is_extended, is_established}
use Rattle.rules.proofs.Plans.{Each, kind_of, every_plan, by-lease, by_test}
use Rattle.rules.proofs.Marks.{by_caller, kept-answered, kept-ask, kept-stamp}

module _ (tables : Tables) (now c : ℕ) where
  open tables use {connections as cs, leases as ls, allowances as al}

  abbrev NotOf : ℕ → Type 0
  NotOf d = partner_of d ≢ partner_of c

  abbrev NotRowOf : ℕ → Type 0
  NotRowOf r = owner_of r ≢ partner_of c

  pub record Within (x : Plan) : Type 0 where
    pub connections : Kept connection_bytes NotOf cs x.connections
    pub leases : Kept lease_bytes NotRowOf ls x.leases
    pub destination : x.destination ≢ nobody → partner_of x.destination ≡ partner_of c
    pub to_own : length x.relay ≢ 0 → partner_of x.destination ≡ partner_of c

  -- nothing sent to another connection
  abbrev silently : List ℕ → Bool → List ℕ → List ℕ → Plan
  silently reply u ds ms = record { reply = reply; relay = []; destination = nobody; disconnect = u; connections = ds; leases = ms }

  quiet : {reply : List ℕ} {u : Bool} (ds ms : List ℕ) → Kept connection_bytes NotOf cs ds → Kept lease_bytes NotRowOf ls ms
      → Within (silently reply u ds ms)
  quiet ds ms f g = record { connections = f; leases = g; destination = λ n. absurd (n refl); to_own = λ n. absurd (n refl) }

  same_rows : {reply : List ℕ} (ms : List ℕ) → Kept lease_bytes NotRowOf ls ms → Within (silently reply false cs ms)
  same_rows ms g = quiet cs ms (kept_same cs) g

  same-connections : {reply : List ℕ} {u : Bool} (ds : List ℕ) → Kept connection_bytes NotOf cs ds → Within (silently reply u ds ls)
  same-connections ds f = quiet ds ls f (kept_same ls)

  nothing-within : {reply : List ℕ} → Within (silently reply false cs ls)
  nothing-within = same_rows ls (kept_same ls)

  open_within : Within (plan_open tables c)
  unfolding plan_open
  open_within = same-connections _ (kept-await cs c (λ n. n refl))

  answer-within : (ok : ℕ) → Within (plan_version_answer tables c ok)
  unfolding plan_version_answer
  answer-within ok =
      by_test Within (eqb ok 1)
      (λ h. same-connections _ (kept-state cs c (λ n. n refl) opened))
      (λ h. same-connections _ (kept-clear cs c (λ n. n refl)))

  lease-within : (random cookie : List ℕ) → Within (plan_lease tables now c (decide_lease cs ls now c random cookie))
  unfolding plan_lease
  lease-within random cookie =
      by-lease Within tables now c (decide_lease cs ls now c random cookie) nothing-within
      (λ row e.
      let g = is-renewed ls now c random cs cookie row e in
      same_rows _ (kept-renew ls row _ c (λ n. n g.own.owner)))
      (λ row id drawn e.
      let g = is-granted ls now c random cs cookie row id drawn e in
      same_rows _
      (kept-grant ls row _ id drawn c (λ n. n g.own.owner)
      (rw g.cookie_is (length-part-most random 0 cookie_bytes))))

  extension-within : (cookie : List ℕ) → Within (plan_extension tables now c (row_to_extend ls now c cookie))
  unfolding plan_extension
  extension-within cookie =
      by_test Within (ltb (row_to_extend ls now c cookie) (end_row (partner_of c)))
      (λ h.
      same_rows _
      (kept-expiry ls (row_to_extend ls now c cookie) (λ n. n (is_extended ls now c cookie h).0.owner)
      _))
      (λ h. nothing-within)

  establish-within : (id : ℕ) (random : List ℕ) (d : EstablishDecision) → decide_establish cs ls now c id ≡ d
      → Within (plan_establish tables c id random d)
  unfolding plan_establish establish
  establish-within id random (refused_with n) e = nothing-within
  establish-within id random (established_with h) e =
      let of_one = (is_established cs ls now c id h e).of_one in
      record {
        connections =
            joined-others {Other = NotOf} cs c h h c _ _ (λ n. n refl) (λ n. n of_one) (keys_most random _ _) (keys_most random _ _);
        leases = kept_same ls;
        destination = λ n. of_one;
        to_own = λ n. of_one;
      }

  end-within : has_session cs c ≡ true → Within (plan_end tables c (peer cs c))
  unfolding plan_end has_session
  end-within h =
      let of_one = (paired cs c (peer cs c) h).of_one in
      record {
        connections = kept-end {Other = NotOf} cs c (peer cs c) (λ n. n refl) (λ n. n (sym of_one));
        leases = kept_same ls;
        destination = λ n. sym of_one;
        to_own = λ n. sym of_one;
      }

  data_within : has_session cs c ≡ true → (bytes : List ℕ) → Within (plan_data tables (peer cs c) bytes)
  unfolding plan_data has_session
  data_within h bytes =
      let of_one = sym (paired cs c (peer cs c) h).of_one in
      record { connections = kept_same cs; leases = kept_same ls; destination = λ n. of_one; to_own = λ n. of_one }

  close_within : Within (plan_close tables c)
  unfolding plan_close release
  close_within =
      let ended = (if has_session cs c then plan_end tables c (peer cs c) else do_nothing tables) in
      let w : Within ended = by_test Within (has_session cs c) end-within (λ h. nothing-within) in
      record {
        connections = kept_trans w.connections (kept-clear {Other = NotOf} ended.connections c (λ n. n refl));
        leases = kept-release {Other = NotRowOf} rows_per_partner ls c (first_row (partner_of c)) (λ k l u n. n (omega arith));
        destination = w.destination;
        to_own = w.to_own;
      }

  each_within : (n kind : ℕ) → Each Within tables now c n kind
  each_within n kind = record {
    open_plan = open_within;
    version_answer_lem = λ t. answer-within;
    lease = lease-within;
    extension = extension-within;
    establish_plan = λ id random long o. establish-within id random (decide_establish cs ls now c id) refl;
    end_plan = end-within;
    data_plan = λ h bytes l. data_within h bytes;
    no_plan = nothing-within;
    close_plan = close_within;
    dead_plan = λ t. record {
      connections = close_within.connections;
      leases = close_within.leases;
      destination = close_within.destination;
      to_own = close_within.to_own;
    };
    ask_plan = same-connections _ (kept-ask cs c (λ n. n refl) now);
  }

pub asked-within : (tables : Tables) (call : Call) → precheck tables call ≡ 0
    → Within tables (time_of call) (connection_of call) (plan_call tables call)
asked-within tables call h =
    every_plan _ tables call h (each_within tables (time_of call) (connection_of call) (received call) (kind_of call))

-- What is written of the messages that were sent and heard stays inside too.
pub plan-within : (tables : Tables) (call : Call) → precheck tables call ≡ 0
    → Within tables (time_of call) (connection_of call) (plan tables call)
unfolding plan
plan-within tables call h =
    let now = time_of call in
    let c = connection_of call in
    let x = plan_call tables call in
    let w = asked-within tables call h in
    let heard =
    by_caller (Kept connection_bytes (NotOf tables now c) x.connections) call x.connections
    (kept_same x.connections)
    (kept-answered x.connections c (λ n. n refl)) in
    let replied = kept-stamp {Other = NotOf tables now c} (answered_by call x.connections) now (length x.reply) c (λ s n. n refl) in
    let relayed = kept-stamp {Other = NotOf tables now c} _ now (length x.relay) x.destination (λ s n. n (w.to_own s)) in
    record {
      connections = kept_trans w.connections (kept_trans heard (kept_trans replied relayed));
      leases = w.leases;
      destination = w.destination;
      to_own = w.to_own;
    }
