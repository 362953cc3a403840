-- What the laws of reasons say: "The reason named must be the true one on every board" (02, Item 1), as statements.
use Rattle.std.specs.Prelude.{ℕ, ◌+◌, ◌*◌, ◌≤◌, ◌<◌, ◌≡◌, ◌⊎◌, ◌↔◌, true, List, ℤ, pos, negsuc, ◌-ℤ◌, length}
use Rattle.std.proofs.Math.Option.{some}
use Rattle.octets.specs.Octets.{byte_at, part, number_at, big_endian, put}
use Rattle.svsc.specs.Messages.{type_of}
use Rattle.allowance.specs.Bucket.{level_now}
use Rattle.rules.specs.Tables.{Tables, lent, partner_of, allowance_at, bucket_of}
use Rattle.rules.specs.Leases.{LeaseDecision, decide_lease}
use Rattle.rules.specs.Sessions.{EstablishDecision, row_of_id, decide_establish}
use Rattle.rules.specs.Calls.{Call, opening, message, closing, keepalive, time_of, caller_of}
use Rattle.rules.specs.Plans.{plan_lease, plan_establish, heard, stamped, plan}
use Rattle.rules.specs.Charges.{charged, price}
use Rattle.rules.specs.Step.{step}
use Rattle.rules.specs.Reasons.{condition_of, status_of, of_lease, of_establish, explain}
use Rattle.rules.specs.Refusals.{Applies}
use Rattle.rules.specs.Effects.{HoldsNone, HasSpare, NewCookie, FreeCandidate, LeaseConditions, Statuses}
use Rattle.rules.specs.Bytes.{ChangedOnly, InField}
use Rattle.rules.specs.Laws.{Accepted}

-- "which of the four lease conditions failed first in 01's order, or that all held": k is its number, or 0
pub record FirstFailing (ls : List ℕ) (now c : ℕ) (random : List ℕ) (k : ℕ) : Type 0 where
  pub one : (k ≡ 1) ↔ (HoldsNone ls now c → ⊥)
  pub two : (k ≡ 2) ↔ (HoldsNone ls now c × (HasSpare ls now c → ⊥))
  pub three : (k ≡ 3) ↔ (HoldsNone ls now c × (HasSpare ls now c × (NewCookie ls now c random → ⊥)))
  pub four : (k ≡ 4)
      ↔ (HoldsNone ls now c × (HasSpare ls now c × (NewCookie ls now c random × (FreeCandidate ls now random → ⊥))))
  pub all : (k ≡ 0) ↔ LeaseConditions ls now c random

-- a call that asks for a lease or for a session
abbrev pub AsksDecision : Call → Type 0
AsksDecision (opening now c reply) = ⊥
AsksDecision (message now c m random reply relay) = (type_of m ≡ 2) ⊎ (type_of m ≡ 6)
AsksDecision (closing now c relay) = ⊥
AsksDecision (keepalive now c reply relay) = ⊥

-- A lease, of connection c by message m: the decision is named exactly of a done message of type 2, and its condition is the first that fails.
-- The plan acted by it (all that fail have one plan), and byte 1 of the reply, "accepted", tells it to the caller.
pub record LeaseNamed (tables : Tables) (call : Call) (now c : ℕ) (m random : List ℕ) (d : LeaseDecision) : Type 0 where
  pub exactly : ((explain tables call).decided ≡ of_lease d)
      ↔ (Accepted tables call × ((type_of m ≡ 2) × (d ≡ decide_lease tables.connections tables.leases now c random (part m 2 24))))
  pub first : (explain tables call).decided ≡ of_lease d → FirstFailing tables.leases now c random (condition_of d)
  pub acted : (explain tables call).decided ≡ of_lease d → plan tables call ≡ stamped now c (heard call (plan_lease tables now c d))
  pub told : (explain tables call).decided ≡ of_lease d → (condition_of d ≡ 0) ↔ (byte_at (step tables call).reply 1 ≡ 1)

-- A session: the same of type 6, with the status, which is byte 5 of the reply.
pub record EstablishNamed (tables : Tables) (call : Call) (now c : ℕ) (m random : List ℕ) (d : EstablishDecision) : Type 0 where
  pub exactly : ((explain tables call).decided ≡ of_establish d)
      ↔ (Accepted tables call
      × ((type_of m ≡ 6) × (d ≡ decide_establish tables.connections tables.leases now c (number_at m 1 4))))
  pub first : (explain tables call).decided ≡ of_establish d
      → Statuses tables.connections tables.leases c (row_of_id tables.leases now (partner_of c) (number_at m 1 4)) d
  pub acted : (explain tables call).decided ≡ of_establish d → plan tables call ≡ stamped now c (heard call (plan_establish tables c (number_at m 1 4) random d))
  pub told : (explain tables call).decided ≡ of_establish d → status_of d ≡ byte_at (step tables call).reply 5

-- "a call with its draw and tray lengths": of the buffers that a call writes to, only the lengths count
pub record LengthsOnly (tables : Tables) (now c : ℕ) (m random : List ℕ) : Type 0 where
  pub open_alike : (reply other : List ℕ) → length reply ≡ length other
      → explain tables (opening now c reply) ≡ explain tables (opening now c other)
  pub message_alike : (reply relay other_reply other_relay : List ℕ) → length reply ≡ length other_reply → length relay ≡ length other_relay
      → explain tables (message now c m random reply relay) ≡ explain tables (message now c m random other_reply other_relay)
  pub close_alike : (relay other : List ℕ) → length relay ≡ length other
      → explain tables (closing now c relay) ≡ explain tables (closing now c other)
  pub keepalive_alike : (reply relay other_reply other_relay : List ℕ) → length reply ≡ length other_reply → length relay ≡ length other_relay
      → explain tables (keepalive now c reply relay) ≡ explain tables (keepalive now c other_reply other_relay)

-- the tables with k units more in partner p's allowance
unfoldable pub credited : Tables → ℕ → ℕ → Tables
credited tables p k =
    lent
    tables.connections
    tables.leases
    (put tables.allowances (allowance_at p) (big_endian 8 ((bucket_of tables.allowances p).level + k)))

-- k units more in that level, in 01's places, and no other byte changes
pub record Credited (tables : Tables) (p k : ℕ) (richer : Tables) : Type 0 where
  pub level : number_at richer.allowances (16 * p) 8 ≡ number_at tables.allowances (16 * p) 8 + k
  pub others : ChangedOnly (InField 16 p 0 8) tables.allowances richer.allowances
  pub connections : richer.connections ≡ tables.connections
  pub leases : richer.leases ≡ tables.leases

-- "negative by exactly the shortfall": with so many units more the same call is done, with fewer it is refused with 9
pub record ShortBy (tables : Tables) (call : Call) (units : ℕ) : Type 0 where
  pub enough : (step (credited tables (caller_of call) units) call).answer.number ≡ 0
  pub fewer : (k : ℕ) → k < units → (step (credited tables (caller_of call) k) call).answer.number ≡ 9

pub record HeadroomExactly (tables : Tables) (call : Call) : Type 0 where
  -- "Where checks 1 to 8 pass and the call is charged, and only there"
  pub there : ((z : ℤ) × ((explain tables call).headroom ≡ some z))
      ↔ (((n : ℕ) → 1 ≤ n → n ≤ 8 → Applies n tables call → ⊥) × (charged call ≡ true))
  -- "level minus charge"
  pub difference : (z : ℤ) → (explain tables call).headroom ≡ some z
      → z ≡ pos (level_now (bucket_of tables.allowances (caller_of call)) (time_of call)) -ℤ pos (price tables call)
  -- negative exactly if the answer is 9, and then by what is missing;
  pub negative : ((n : ℕ) × ((explain tables call).headroom ≡ some (negsuc n))) ↔ ((step tables call).answer.number ≡ 9)
  pub short : (n : ℕ) → (explain tables call).headroom ≡ some (negsuc n) → ShortBy tables call (n + 1)
  -- else the call is done, and leaves as much
  pub left : (n : ℕ) → (explain tables call).headroom ≡ some (pos n)
      → Accepted tables call
      × (bucket_of (step tables call).tables.allowances (caller_of call) ≡ record { level = n; updated = time_of call })
