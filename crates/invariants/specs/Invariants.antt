-- What every run from a fresh start keeps (proofs/Runs), as statements.
use Rattle.std.specs.Prelude.{ℕ, ◌+◌, ◌%◌, ◌≤◌, ◌<◌, ◌≡◌, ◌⊎◌, true, List}
use Rattle.octets.specs.Octets.{byte_at}
use Rattle.rules.specs.Sizes.{connection_count, row_count, connection_bytes, lease_bytes}
use Rattle.rules.specs.Tables.{Tables, connection_at, last_sent, keepalive_sent, live, expiry, id_of, clock}

-- Any two live rows have different ids.
abbrev pub DistinctIds : List ℕ → ℕ → Type 0
DistinctIds ls now =
    (r s : ℕ) → r < row_count → s < row_count → live ls now r ≡ true → live ls now s ≡ true → id_of ls r ≡ id_of ls s → r ≡ s

-- No row, live or not, ends later than so many seconds after the latest reading.
abbrev pub EndsWithin : ℕ → Tables → Type 0
EndsWithin seconds tables = (r : ℕ) → r < row_count → expiry tables.leases r ≤ clock tables.allowances + seconds

-- bytes 3, 14 and 15 of a connection record: what 02, Item 3, leaves of "2-15 zero"
abbrev pub IsSpare : ℕ → Type 0
IsSpare j = (j ≡ 3) ⊎ ((14 ≤ j) × (j < 16))

-- they are zero, and "13-15 zero" of a lease row
pub record SpareZero (tables : Tables) : Type 0 where
  pub connections : (i : ℕ) → IsSpare (i % connection_bytes) → byte_at tables.connections i ≡ 0
  pub leases : (i : ℕ) → 13 ≤ i % lease_bytes → i % lease_bytes < 16 → byte_at tables.leases i ≡ 0

-- what stands in every record: byte 2 is 0 or 1, and no stored time is after the clock
pub record InTime (tables : Tables) : Type 0 where
  pub unanswered : (c : ℕ) → c < connection_count → byte_at tables.connections (connection_at c + 2) ≤ 1
  pub last_sent_lem : (c : ℕ) → c < connection_count → last_sent tables.connections c ≤ clock tables.allowances
  pub keepalive_sent_lem : (c : ℕ) → c < connection_count → keepalive_sent tables.connections c ≤ clock tables.allowances
