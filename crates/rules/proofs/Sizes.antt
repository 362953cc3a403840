-- The named sizes are 01's and 02's numbers. Assumes nothing.
use Prim.Native.Nat.{◌^◌}
use mathlib.Core.Path.{◌≡◌, refl}
use Rattle.rules.specs.Sizes.{partners, connections_per_partner, rows_per_partner, connection_count, row_count, connection_bytes, lease_bytes, allowance_bytes, connections_size, leases_size, allowances_size, nobody, time_limit, random_bytes, least_buffer, call_cost, open_cost, retry_after, default_term, shortest_term, longest_term, old_term, candidate_count, candidate_bytes, id_limit, time_bytes, keepalive_timeout, answer_timeout}
use Rattle.rules.specs.Tables.{closed, awaiting, opened}

-- "a table isn't 4,096, 5,120 or 144 bytes"
pub table_sizes : (connections_size ≡ 4096) × (leases_size ≡ 5120) × (allowances_size ≡ 144)
table_sizes = (refl, refl, refl)

-- "64 records", "128 records", "the eight partners'"
pub counts : (connection_count ≡ 64) × (row_count ≡ 128) × (partners ≡ 8)
counts = (refl, refl, refl)

-- "0 closed, 1 awaiting the version answer, 2 open"; "or 255"
pub states : (closed ≡ 0) × (awaiting ≡ 1) × (opened ≡ 2) × (nobody ≡ 255)
states = (refl, refl, refl, refl)

-- "2^40 or more"; "modulo 67,108,864"
pub limits : (time_limit ≡ 2 ^ 40) × (id_limit ≡ 67108864)
limits = (refl, refl)

-- "records of 64 bytes", "of 40 bytes", "of 16 bytes"; "draw not 80 bytes", "under 64"
pub lengths :
    (connection_bytes ≡ 64) × (lease_bytes ≡ 40) × (allowance_bytes ≡ 16) × (random_bytes ≡ 80) × (least_buffer ≡ 64)
lengths = (refl, refl, refl, refl, refl)

-- eight connections and sixteen rows for each partner; "32 plus .."; "An open costs 45"; "become three"; "fourteen candidates of four bytes"
pub rates :
    (connections_per_partner ≡ 8) × (rows_per_partner ≡ 16) × (call_cost ≡ 32) × (open_cost ≡ 45) × (retry_after ≡ 3)
    × (candidate_count ≡ 14) × (candidate_bytes ≡ 4)
rates = (refl, refl, refl, refl, refl, refl, refl)

-- 02, Item 6: "600 seconds unless the host names another term, from 600 to 86,400"; "is an old one and keeps 3,600"
pub terms : (default_term ≡ 600) × (shortest_term ≡ 600) × (longest_term ≡ 86400) × (old_term ≡ 3600)
terms = (refl, refl, refl, refl)

-- 02, Item 3: "a KeepaliveTimeout of 30 seconds"; "for 60 seconds or more"; "4-8", "9-13"
pub keepalives : (keepalive_timeout ≡ 30) × (answer_timeout ≡ 60) × (time_bytes ≡ 5)
keepalives = (refl, refl, refl)
