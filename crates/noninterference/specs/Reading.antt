-- What a call reads, as a statement about two tables. 01: "Neighbours share two things only: ids already live, and the clock." The term is of the
-- whole relay, and no call writes it.
use Rattle.std.specs.Prelude.{ℕ, ◌%◌, ◌<◌, ◌≡◌, Bool, not, ◌&&◌, List, eqb, length}
use Rattle.octets.specs.Octets.{part}
use Rattle.rules.specs.Sizes.{row_count, connection_bytes, allowance_bytes}
use Rattle.rules.specs.Searches.{any_from}
use Rattle.rules.specs.Tables.{Tables, partner_of, owner_of, allowance_at, live_with_id, clock, lease_term}
use Rattle.rules.specs.Calls.{Outcome}
use Rattle.rules.specs.Bytes.{SameAt, connection_record, lease_record}

abbrev pub allowance_record : List ℕ → ℕ → List ℕ
allowance_record al p = part al (allowance_at p) allowance_bytes

-- the records of partners of which Q holds are the same
pub record SameRecords (Q : ℕ → Type 0) (a b : Tables) : Type 0 where
  pub connections : (c : ℕ) → Q (partner_of c) → connection_record a.connections c ≡ connection_record b.connections c
  pub leases : (r : ℕ) → Q (owner_of r) → lease_record a.leases r ≡ lease_record b.leases r
  pub allowances : (p : ℕ) → Q p → allowance_record a.allowances p ≡ allowance_record b.allowances p

pub record SameSizes (a b : Tables) : Type 0 where
  pub connections : length a.connections ≡ length b.connections
  pub leases : length a.leases ≡ length b.leases
  pub allowances : length a.allowances ≡ length b.allowances

-- a live row of another partner than p has the id
unfoldable pub live_under_others : List ℕ → ℕ → ℕ → ℕ → Bool
live_under_others ls now p id = any_from (λ r. not (eqb (owner_of r) p) && live_with_id ls now id r) 0 row_count

-- two tables that a call of partner p, at a time, can't tell apart: its own records, "ids already live, and the clock", and the term. The ids are
-- those of the others' rows: whether another row has the id of an own live one decides on a renewal.
pub record SameToRead (p now : ℕ) (a b : Tables) : Type 0 where
  pub sizes : SameSizes a b
  pub own : SameRecords (λ q. q ≡ p) a b
  pub live_ids : (id : ℕ) → live_under_others a.leases now p id ≡ live_under_others b.leases now p id
  pub clocks : clock a.allowances ≡ clock b.allowances
  pub terms : lease_term a.allowances ≡ lease_term b.allowances

-- the same answer, and the same bytes in both buffers
pub record SameTold (a b : Outcome) : Type 0 where
  pub answer : a.answer ≡ b.answer
  pub reply : a.reply ≡ b.reply
  pub relay : a.relay ≡ b.relay

-- what a call tells, and what it leaves of its partner's records, is the same
pub record SameToCaller (p : ℕ) (a b : Outcome) : Type 0 where
  pub told : SameTold a b
  pub own : SameRecords (λ q. q ≡ p) a.tables b.tables
  pub clocks : clock a.tables.allowances ≡ clock b.tables.allowances
  pub terms : lease_term a.tables.allowances ≡ lease_term b.tables.allowances

-- ---- session-ids, peer-ids and peer-keys

-- a place of the connection table outside bytes 16-63 of a record
abbrev pub NotKeys : ℕ → Type 0
NotKeys i = i % connection_bytes < 16

-- two tables that differ in these bytes alone
pub record SameButKeys (a b : Tables) : Type 0 where
  pub connections : SameAt NotKeys a.connections b.connections
  pub leases : a.leases ≡ b.leases
  pub allowances : a.allowances ≡ b.allowances
