-- A decision on a lease whose row the table has.
use Rattle.std.specs.Prelude.{◌<◌}
use Rattle.rules.specs.Sizes.{row_count}
use Rattle.rules.specs.Leases.{LeaseDecision, holds_lease, no_spare_row, cookie_in_use, no_free_id, renewed, granted}

abbrev pub InRows : LeaseDecision → Type 0
InRows holds_lease = Unit {0}
InRows no_spare_row = Unit {0}
InRows cookie_in_use = Unit {0}
InRows no_free_id = Unit {0}
InRows (renewed row) = row < row_count
InRows (granted row id cookie) = row < row_count
