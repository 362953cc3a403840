-- What 02, Item 7, says of the map, as statements.
use Rattle.std.specs.Prelude.{ℕ, ◌≤◌, ◌≡◌, ◌≢◌, ◌↔◌, Bool, true, false, not, List}
use Rattle.allowance.specs.History.{Bounded}
use Rattle.allowance.specs.Meter.{Claim}
use Rattle.allowance.specs.Meter as meter
use Rattle.rules.specs.Sizes.{connections_per_partner}
use Rattle.rules.specs.Tables.{Tables, partner_of, is_closed}
use Rattle.rules.specs.Calls.{Call}
use Rattle.rules.specs.Charges.{cost}
use Rattle.rules.specs.Plans.{plan}
use Rattle.rules.specs.Step.{done, start}
use Rattle.connection_map.specs.Bits.{is_set, count_from}
use Rattle.connection_map.specs.Maps.{first_connection}
use Rattle.connection_map.specs.Steps.{Relay, left, start_with_map, mapped_meter}

-- what became of a bit, by whether its connection was closed before a call and is closed after it: "A call changes only the bits of connections that
-- it opens or closes", and those it does change
pub record BitAfter (was_closed now_closed bit next : Bool) : Type 0 where
  pub opened : was_closed ≡ true → now_closed ≡ false → next ≡ true
  pub closed : was_closed ≡ false → now_closed ≡ true → next ≡ false
  pub others : was_closed ≡ now_closed → next ≡ bit

-- of all of them, of numbers past the last connection too; `before` and `after` are the connection tables
abbrev pub OnlyOpenedOrClosed : (before after : List ℕ) → (map next : ℕ) → Type 0
OnlyOpenedOrClosed before after map next = (c : ℕ) → BitAfter (is_closed before c) (is_closed after c) (is_set map c) (is_set next c)

-- "the lowest closed number of that partner, or 255 exactly if all eight are taken", where `closed` tells which are closed
pub record Lowest (closed : ℕ → Bool) (p n : ℕ) : Type 0 where
  pub none : (n ≡ 255) ↔ ((c : ℕ) → partner_of c ≡ p → closed c ≡ false)
  pub own : n ≢ 255 → partner_of n ≡ p
  pub is_closed_lem : n ≢ 255 → closed n ≡ true
  pub least : n ≢ 255 → (c : ℕ) → partner_of c ≡ p → closed c ≡ true → n ≤ c

-- "how many connections a partner has": so many of its numbers are not closed. (That they are counted rightly: proofs/Bits, ones-window.)
abbrev pub taken_of : (ℕ → Bool) → ℕ → ℕ
taken_of closed p = count_from (λ c. not (closed c)) (first_connection p) connections_per_partner

-- Demand 3 of the relay with its map, as rules has it without one (RelayDemand3): of every run from a fresh start, whatever map that was lent, and
-- the bound of any calls on any tables
pub record MappedDemand3 : Type 0 where
  pub price_if_done : (relay : Relay) (call : Call)
      → mapped_meter.price relay call ≡ cost call (done relay.tables call (plan relay.tables call)).answer
  pub price_is_cost : (relay : Relay) (call : Call) → (mapped_meter.answer relay call).number ≡ 0
      → mapped_meter.price relay call ≡ cost call (mapped_meter.answer relay call)
  pub every_run : (lent : Tables) (map now term : ℕ) → (start lent now term).answer.number ≡ 0 → (calls : List Call)
      → Claim mapped_meter (left (start_with_map lent map now term)) now calls
  pub any_tables : (relay : Relay) (calls : List Call) → Bounded (meter.history mapped_meter relay calls)
