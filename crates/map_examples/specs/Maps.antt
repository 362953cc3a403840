-- The map of the connections (02, Item 7), worked out by hand: a row has the connection or the partner, what the definitions give and what must
-- come of it.
use Rattle.std.specs.Prelude.{ℕ, ◌-◌, ◌^◌, List, [], ◌∷◌, replicate}
use Rattle.rules.specs.Tables.{Tables, lent, fresh, set_state}
use Rattle.rules.specs.Calls.{Call, opening, closing, keepalive}
use Rattle.rules.specs.Runs.{after}
use Rattle.connection_map.specs.Bits.{is_set, with_bit, without_bit, count_from}
use Rattle.connection_map.specs.Maps.{map_of_first, map_of, rebuild, connections_of, first_clear, lowest_closed, partner_connections, map_of_done, map_after}
use Rattle.connection_map.specs.Steps.{step_with_map, start_with_map}
use Rattle.examples.specs.Computed.{computed}
use Rattle.examples.specs.Examples.{Example, row, buffer, random, sends, free}

-- opens the definitions of the map, as `computed` does those of the rules
unfoldable pub mapped : Unit {0}
unfolding is_set with_bit without_bit count_from map_of_first map_of rebuild connections_of first_clear lowest_closed partner_connections map_of_done map_after step_with_map start_with_map
mapped = tt

abbrev all_ones : ℕ
all_ones = 2 ^ 64 - 1

-- ---- calls: the answer, and the map afterwards

abbrev makes : ℕ → Tables → ℕ → Call → List ℕ → Example
makes c tables map call said = let o = step_with_map tables map call in row c (o.outcome.answer.number ∷ o.map ∷ []) said

-- connection 0, awaiting the version answer; and asked at 200, which it never answers
unfoldable pub awaits : Tables
unfolding computed
awaits = after (fresh 100 0) (opening 100 0 buffer ∷ [])

unfoldable pub asked : Tables
unfolding computed random free
asked = after free (keepalive 200 0 buffer buffer ∷ [])

unfoldable pub called : List Example
unfolding computed random free awaits asked mapped
called =
    -- "Open 9: 0x200."
    makes 9 (fresh 100 0) 0 (opening 100 9 buffer) (0 ∷ 0x200 ∷ [])
    -- "Map all ones, open 0: all ones; close 0: all but the lowest."
    ∷ makes 0 (fresh 100 0) all_ones (opening 100 0 buffer) (0 ∷ all_ones ∷ [])
    ∷ makes 0 free all_ones (closing 100 0 buffer) (0 ∷ (all_ones - 1) ∷ [])
    -- where the bit is 0 already, it stays 0
    ∷ makes 0 free 2 (closing 100 0 buffer) (0 ∷ 2 ∷ [])
    -- "type 1 with ok 0 and the timeout clear theirs; type 1 with ok 1 changes none"
    ∷ makes 0 awaits 0x201 (sends 100 0 (1 ∷ 0 ∷ [])) (0 ∷ 0x200 ∷ [])
    ∷ makes 0 awaits 0x200 (sends 100 0 (1 ∷ 1 ∷ [])) (0 ∷ 0x200 ∷ [])
    ∷ makes 0 asked 0x201 (keepalive 259 0 buffer buffer) (0 ∷ 0x201 ∷ [])
    ∷ makes 0 asked 0x201 (keepalive 260 0 buffer buffer) (0 ∷ 0x200 ∷ [])
    -- a refused call gives back what it was lent: of a connection that is open, closed, or none
    ∷ makes 0 free 0x200 (opening 100 0 buffer) (4 ∷ 0x200 ∷ [])
    ∷ makes 9 free 0x203 (closing 100 9 buffer) (4 ∷ 0x203 ∷ [])
    ∷ makes 64 free 0x203 (opening 100 64 buffer) (3 ∷ 0x203 ∷ [])
    ∷ []

-- ---- fresh starts

abbrev starts : ℕ → ℕ → List ℕ → Example
starts now term said = let o = start_with_map (fresh 5 0) 0x203 now term in row now (o.outcome.answer.number ∷ o.map ∷ []) said

unfoldable pub started : List Example
unfolding computed mapped
started = starts 100 0 (0 ∷ 0 ∷ []) ∷ starts 100 1 (6 ∷ 0x203 ∷ []) ∷ starts (2 ^ 40) 0 (2 ∷ 0x203 ∷ []) ∷ []

-- ---- partners

abbrev has : ℕ → ℕ → List ℕ → Example
has map p said = let a = partner_connections map p in row p (a.number ∷ a.connections ∷ a.lowest ∷ []) said

unfoldable pub partners_have : List Example
unfolding computed mapped
partners_have =
    -- "Map 0xFB00: partner 1 has (0, 7, 10), partner 2 (0, 0, 16). 0xFF00, partner 1: (0, 8, 255)."
    has 0xFB00 1 (0 ∷ 7 ∷ 10 ∷ [])
    ∷ has 0xFB00 2 (0 ∷ 0 ∷ 16 ∷ [])
    ∷ has 0xFF00 1 (0 ∷ 8 ∷ 255 ∷ [])
    -- the first and the last partner, with and without neighbours
    ∷ has 0 0 (0 ∷ 0 ∷ 0 ∷ [])
    ∷ has (all_ones - 0x80) 0 (0 ∷ 7 ∷ 7 ∷ [])
    ∷ has (2 ^ 63 - 1) 7 (0 ∷ 7 ∷ 63 ∷ [])
    ∷ has all_ones 7 (0 ∷ 8 ∷ 255 ∷ [])
    -- "Partner 8 or more, over all 64 bits: 3, 0, 255."
    ∷ has 0 8 (3 ∷ 0 ∷ 255 ∷ [])
    ∷ has all_ones (2 ^ 32) (3 ∷ 0 ∷ 255 ∷ [])
    ∷ has 0 all_ones (3 ∷ 0 ∷ 255 ∷ [])
    ∷ []

-- ---- rebuilt maps

abbrev rebuilds : List ℕ → List ℕ → Example
rebuilds cs said = let b = rebuild cs in row 0 (b.number ∷ b.map ∷ []) said

unfoldable pub mixed : List ℕ
unfolding computed
mixed = set_state (set_state (set_state (set_state (set_state (fresh 5 0).connections 0 1) 5 3) 6 255) 9 2) 63 2

unfoldable pub maps : List Example
unfolding computed mixed mapped
maps =
    -- "States 1, 3, 255, 2, 2 at connections 0, 5, 6, 9, 63: 0x8000000000000201. 4,095 bytes: (1, 0)."
    rebuilds mixed (0 ∷ 0x8000000000000201 ∷ [])
    ∷ rebuilds (replicate 4095 2) (1 ∷ 0 ∷ [])
    ∷ rebuilds (replicate 4096 2) (0 ∷ all_ones ∷ [])
    ∷ []
