-- Why a call is answered as it is (02, Item 1): "names the first check that stops the call, or, for a done lease or establish, the condition
-- that decided it"; "also gives the headroom".
use Rattle.std.specs.Prelude.{ℕ, ◌&&◌, eqb, ℤ, pos, ◌-ℤ◌, if◌then◌else◌}
use Rattle.std.proofs.Math.Option.{Option, none, some}
use Rattle.octets.specs.Octets.{part, number_at}
use Rattle.svsc.specs.Messages.{type_of}
use Rattle.rules.specs.Tables.{Tables}
use Rattle.rules.specs.Leases.{LeaseDecision, holds_lease, no_spare_row, cookie_in_use, no_free_id, renewed, granted, decide_lease}
use Rattle.rules.specs.Sessions.{EstablishDecision, refused_with, established_with, decide_establish}
use Rattle.rules.specs.Calls.{Call, opening, message, closing, keepalive}
use Rattle.rules.specs.Charges.{charged, price, caller_level}
use Rattle.rules.specs.Checks.{precheck, check}

-- "which of the four lease conditions failed first in 01's order, or that all held": its number, or 0
abbrev pub condition_of : LeaseDecision → ℕ
condition_of holds_lease = 1
condition_of no_spare_row = 2
condition_of cookie_in_use = 3
condition_of no_free_id = 4
condition_of (renewed row) = 0
condition_of (granted row id cookie) = 0

-- "or which status"
abbrev pub status_of : EstablishDecision → ℕ
status_of (refused_with status) = status
status_of (established_with holder) = 0

-- what decided a call: a decision on a lease or on a session, or none, of any other call
pub data Decided : Type 0 where
  undecided : Decided
  of_lease : LeaseDecision → Decided
  of_establish : EstablishDecision → Decided

-- what a call asks to be decided: a message of type 2 a lease, with the cookie behind its first two bytes if it has one, and one of type 6 a
-- session with the holder of the id that it names
unfoldable pub asked : Tables → Call → Decided
asked tables (opening now c reply) = undecided
asked tables (message now c m random reply relay) =
    if eqb (type_of m) 2 then of_lease (decide_lease tables.connections tables.leases now c random (part m 2 24))
    else if eqb (type_of m) 6 then of_establish (decide_establish tables.connections tables.leases now c (number_at m 1 4))
    else undecided
asked tables (closing now c relay) = undecided
asked tables (keepalive now c reply relay) = undecided

-- "for a done lease or establish": what a check stops has not been decided
unfoldable pub decided : Tables → Call → Decided
decided tables call = if eqb (check tables call) 0 then asked tables call else undecided

-- "Where checks 1 to 8 pass and the call is charged, and only there, it also gives the headroom, a signed number, level minus charge"
unfoldable pub headroom : Tables → Call → Option ℤ
headroom tables call =
    if eqb (precheck tables call) 0 && charged call
    then some (pos (caller_level tables.allowances call) -ℤ pos (price tables call))
    else none

pub record Reason : Type 0 where
  -- the number of "the first check that stops the call", or 0
  pub check : ℕ
  pub decided : Decided
  pub headroom : Option ℤ

unfoldable pub explain : Tables → Call → Reason
explain tables call = record { check = check tables call; decided = decided tables call; headroom = headroom tables call }
