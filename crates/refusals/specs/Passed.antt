-- The checks that calls on a connection share, and what is known of a call that has passed some.
use Rattle.std.specs.Prelude.{ℕ, ◌≤◌, ◌<◌, ◌≡◌, List, [], ◌∷◌, ◌||◌, length, leb, ltb}
use Rattle.allowance.specs.Bucket.{level_now}
use Rattle.rules.specs.Sizes.{connection_count, connections_size, leases_size, allowances_size}
use Rattle.rules.specs.Tables.{Tables, partner_of, bucket_of, clock}
use Rattle.rules.specs.Checks.{wrong_size, past_limit, first_applying}

-- checks 1 to 3, which every call on a connection has
unfoldable pub first_three : Tables → ℕ → ℕ → ℕ
first_three tables time c =
    first_applying 1 (wrong_size tables ∷ (past_limit time || ltb time (clock tables.allowances)) ∷ leb connection_count c ∷ [])

pub record Sized (tables : Tables) : Type 0 where
  pub connections : length tables.connections ≡ connections_size
  pub leases : length tables.leases ≡ leases_size
  pub allowances : length tables.allowances ≡ allowances_size

-- what `cost` of connection c at a time may be taken from
pub record Payable (al : List ℕ) (time c cost : ℕ) : Type 0 where
  pub size : length al ≡ allowances_size
  pub known : c < connection_count
  pub enough : cost ≤ level_now (bucket_of al (partner_of c)) time
