-- 02, Item 7: "Keep beside the board one 64-bit map, a bit per connection that isn't closed: bit c, from the lowest, for connection c."
use Rattle.std.specs.Prelude.{ℕ, zero, suc, ◌+◌, ◌*◌, ◌^◌, ◌<◌, ◌≡◌, Bool, not, List, eqb, ltb, length, if◌then◌else◌}
use Rattle.rules.specs.Sizes.{partners, connections_per_partner, connection_count, connections_size, nobody}
use Rattle.rules.specs.Searches.{first_from}
use Rattle.rules.specs.Tables.{is_closed}
use Rattle.rules.specs.Calls.{Call, opening, message, closing, keepalive, Answer}
use Rattle.connection_map.specs.Bits.{is_set, with_bit, without_bit, count_from}

-- a map agrees with a connection table; 01: "State above 2 reads as closed", here too
pub record Agrees (map : ℕ) (connections : List ℕ) : Type 0 where
  pub bits : (c : ℕ) → c < connection_count → is_set map c ≡ not (is_closed connections c)
  pub no_others : map < 2 ^ connection_count

-- ---- "one that doesn't agree can be rebuilt": the map of a connection table

-- of the first n connections
unfoldable pub map_of_first : List ℕ → ℕ → ℕ
map_of_first cs zero = 0
map_of_first cs (suc n) = map_of_first cs n + (if is_closed cs n then 0 else 2 ^ n)

unfoldable pub map_of : List ℕ → ℕ
map_of cs = map_of_first cs connection_count

pub record Rebuilt : Type 0 where
  pub number : ℕ
  pub map : ℕ

-- "a table of another size being answered with 1 and 0"
unfoldable pub rebuild : List ℕ → Rebuilt
rebuild cs = if eqb (length cs) connections_size then record { number = 0; map = map_of cs } else record { number = 1; map = 0 }

-- ---- "From it the host gets how many connections a partner has and the lowest closed number of that partner"

-- "Connection c belongs to partner c / 8": the first of them, and the first behind them
abbrev pub first_connection : ℕ → ℕ
first_connection p = connections_per_partner * p

abbrev pub end_connection : ℕ → ℕ
end_connection p = first_connection p + connections_per_partner

unfoldable pub connections_of : ℕ → ℕ → ℕ
connections_of map p = count_from (is_set map) (first_connection p) connections_per_partner

-- the lowest number of partner p whose bit is 0, or the end of its numbers
unfoldable pub first_clear : ℕ → ℕ → ℕ
first_clear map p = first_from (λ c. not (is_set map c)) (first_connection p) connections_per_partner

-- "or 255 exactly if all eight are taken"
unfoldable pub lowest_closed : ℕ → ℕ → ℕ
lowest_closed map p = if ltb (first_clear map p) (end_connection p) then first_clear map p else nobody

pub record PartnerConnections : Type 0 where
  pub number : ℕ
  pub connections : ℕ
  pub lowest : ℕ

-- "A partner number of 8 or more is answered with 3, 0 and 255."
unfoldable pub partner_connections : ℕ → ℕ → PartnerConnections
partner_connections map p =
    if ltb p partners
    then record { number = 0; connections = connections_of map p; lowest = lowest_closed map p }
    else record { number = 3; connections = 0; lowest = nobody }

-- ---- "A call changes only the bits of connections that it opens or closes"

-- A call that is done, by whether it disconnects its caller: an open sets the caller's bit; a close clears it, and so does what disconnects,
-- type 1 with ok 0 and the timeout. No other connection is opened or closed.
unfoldable pub map_of_done : Call → Bool → ℕ → ℕ
map_of_done (opening now c reply) disconnect map = with_bit map c
map_of_done (message now c m random reply relay) disconnect map = if disconnect then without_bit map c else map
map_of_done (closing now c relay) disconnect map = without_bit map c
map_of_done (keepalive now c reply relay) disconnect map = if disconnect then without_bit map c else map

-- the map after a call, of the call, its answer and the map before; a refused call leaves it
unfoldable pub map_after : Call → Answer → ℕ → ℕ
map_after call answer map = if eqb answer.number 0 then map_of_done call answer.disconnect map else map
