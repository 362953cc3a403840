-- Every size, limit and term of 01 and 02 that the relay has, named once. The lengths of messages, cookies and keys are svsc's; the capacity of an
-- allowance and its refill are allowance's.
use Rattle.std.specs.Prelude.{ℕ, ◌+◌, ◌*◌, ◌^◌}

-- "the eight partners"
abbrev pub partners : ℕ
partners = 8

-- "Connection c belongs to partner c / 8"
abbrev pub connections_per_partner : ℕ
connections_per_partner = 8

-- "Partner p owns lease rows 16p to 16p+15"
abbrev pub rows_per_partner : ℕ
rows_per_partner = 16

-- "64 records of 64 bytes", "128 records of 40 bytes", "9 records of 16 bytes"
abbrev pub connection_count : ℕ
connection_count = partners * connections_per_partner

abbrev pub row_count : ℕ
row_count = partners * rows_per_partner

abbrev pub allowance_count : ℕ
allowance_count = partners + 1

abbrev pub connection_bytes : ℕ
connection_bytes = 64

abbrev pub lease_bytes : ℕ
lease_bytes = 40

abbrev pub allowance_bytes : ℕ
allowance_bytes = 16

-- Check 1: "4,096, 5,120 or 144 bytes"
abbrev pub connections_size : ℕ
connections_size = connection_count * connection_bytes

abbrev pub leases_size : ℕ
leases_size = row_count * lease_bytes

abbrev pub allowances_size : ℕ
allowances_size = allowance_count * allowance_bytes

-- "peer connection or 255", "holder connection or 255", "its destination connection or 255"
abbrev pub nobody : ℕ
nobody = 255

-- Check 2: "the reading is 2^40 or more"
abbrev pub time_limit : ℕ
time_limit = 2 ^ 40

-- 02, Item 3: "4-8 the reading ..", "9-13": what a time below 2^40 takes
abbrev pub time_bytes : ℕ
time_bytes = 5

-- 02, Item 3: "a KeepaliveTimeout of 30 seconds"; "unanswered for 60 seconds or more"
abbrev pub keepalive_timeout : ℕ
keepalive_timeout = 30

abbrev pub answer_timeout : ℕ
answer_timeout = 60

-- Check 5: "draw not 80 bytes, reply tray under 64"
abbrev pub random_bytes : ℕ
random_bytes = 80

abbrev pub least_buffer : ℕ
least_buffer = 64

-- 02, Item 5: "The cost of a charged call becomes 32 plus .."
abbrev pub call_cost : ℕ
call_cost = 32

-- "An open costs 45": its reply is the version message, of 13 bytes (law Prices.prices)
abbrev pub open_cost : ℕ
open_cost = 45

-- "the longest send 131,100": nothing costs more (law Prices.prices)
abbrev pub greatest_price : ℕ
greatest_price = 131100

-- "is not refused with 9 for the same bytes two seconds of clock later"; 02, Item 5: "the two seconds in 01 become three"
abbrev pub retry_after : ℕ
retry_after = 3

-- 02, Item 6: "Leases last 600 seconds unless the host names another term, from 600 to 86,400"; "is an old one and keeps 3,600"
abbrev pub default_term : ℕ
default_term = 600

abbrev pub shortest_term : ℕ
shortest_term = 600

abbrev pub longest_term : ℕ
longest_term = 86400

abbrev pub old_term : ℕ
old_term = 3600

-- "fourteen candidates of four bytes, each taken modulo 67,108,864"; "IDs may have 26 to 33 bits .. We use 26."
abbrev pub candidate_count : ℕ
candidate_count = 14

abbrev pub candidate_bytes : ℕ
candidate_bytes = 4

abbrev pub id_limit : ℕ
id_limit = 2 ^ 26
