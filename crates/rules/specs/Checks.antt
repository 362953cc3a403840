-- The nine checks (01, "Answer numbers and their order"). 02, Item 3, of a keepalive: "Checks 1 to 5 apply as for close, with both trays at
-- least 64."
use Rattle.std.specs.Prelude.{ℕ, suc, max, Bool, true, false, not, ◌&&◌, ◌||◌, List, [], ◌∷◌, ◌++◌, length, get_or, eqb, leb, ltb}
use Rattle.svsc.specs.Messages.{type_of, from_peer}
use Rattle.rules.specs.Sizes.{connection_count, time_limit, random_bytes, least_buffer}
use Rattle.rules.specs.Tables.{Tables, state, is_closed, has_session, clock, term_in_range, sized}
use Rattle.rules.specs.Calls.{Call, opening, message, closing, keepalive, time_of, connection_of}
use Rattle.rules.specs.Charges.{price, caller_level}

-- 1: "a table isn't 4,096, 5,120 or 144 bytes"
abbrev pub wrong_size : Tables → Bool
wrong_size tables = not (sized tables)

-- 2: "the reading is 2^40 or more, or (not for making a fresh relay) below the latest"
abbrev pub past_limit : ℕ → Bool
past_limit now = leb time_limit now

unfoldable pub wrong_time : List ℕ → Call → Bool
wrong_time al call = past_limit (time_of call) || ltb (time_of call) (clock al)

-- 3: "connection number 64 or more"
abbrev pub unknown_connection : Call → Bool
unknown_connection call = leb connection_count (connection_of call)

-- 4: "open on a connection not closed; message or close on a closed one"
unfoldable pub wrong_state : List ℕ → Call → Bool
wrong_state cs (opening now c reply) = not (is_closed cs c)
wrong_state cs (message now c m random reply relay) = is_closed cs c
wrong_state cs (closing now c relay) = is_closed cs c
wrong_state cs (keepalive now c reply relay) = is_closed cs c

-- 5: "message: draw not 80 bytes, reply tray under 64, relay tray under the larger of 64 and the message length; open: reply tray under 64;
-- close: relay tray under 64"
unfoldable pub wrong_lengths : Call → Bool
wrong_lengths (opening now c reply) = ltb (length reply) least_buffer
wrong_lengths (message now c m random reply relay) =
    not (eqb (length random) random_bytes) || ltb (length reply) least_buffer || ltb (length relay) (max least_buffer (length m))
wrong_lengths (closing now c relay) = ltb (length relay) least_buffer
wrong_lengths (keepalive now c reply relay) = ltb (length reply) least_buffer || ltb (length relay) least_buffer

-- 6: "not a message that peers send, per the table above"
unfoldable pub not_from_peer : Call → Bool
not_from_peer (opening now c reply) = false
not_from_peer (message now c m random reply relay) = not (from_peer m)
not_from_peer (closing now c relay) = false
not_from_peer (keepalive now c reply relay) = false

-- 7: "which type may come in which state is a table of three rows and fourteen columns; awaiting permits 1 only, open permits 2, 4, 6,
-- 9, 11, 13"
abbrev pub permitted : List (List Bool)
permitted =
    (false ∷ false ∷ false ∷ false ∷ false ∷ false ∷ false ∷ false ∷ false ∷ false ∷ false ∷ false ∷ false ∷ false ∷ [])
    ∷ (false ∷ true ∷ false ∷ false ∷ false ∷ false ∷ false ∷ false ∷ false ∷ false ∷ false ∷ false ∷ false ∷ false ∷ [])
    ∷ (false ∷ false ∷ true ∷ false ∷ true ∷ false ∷ true ∷ false ∷ false ∷ true ∷ false ∷ true ∷ false ∷ true ∷ [])
    ∷ []

abbrev pub permits : ℕ → ℕ → Bool
permits s type = get_or (get_or permitted s []) type false

unfoldable pub not_permitted : List ℕ → Call → Bool
not_permitted cs (opening now c reply) = false
not_permitted cs (message now c m random reply relay) = not (permits (state cs c) (type_of m))
not_permitted cs (closing now c relay) = false
not_permitted cs (keepalive now c reply relay) = false

-- 8: "type 9 or 11 without a session"
abbrev pub needs_session : ℕ → Bool
needs_session type = eqb type 9 || eqb type 11

unfoldable pub no_session : List ℕ → Call → Bool
no_session cs (opening now c reply) = false
no_session cs (message now c m random reply relay) = needs_session (type_of m) && not (has_session cs c)
no_session cs (closing now c relay) = false
no_session cs (keepalive now c reply relay) = false

-- 9: "the charge exceeds the partner's level"; "Equal cost and level passes." The charge is that of the call's plan: checks 1 to 8, plan, price,
-- check 9.
unfoldable pub above_level : Tables → Call → Bool
above_level tables call = ltb (caller_level tables.allowances call) (price tables call)

-- the table, in its order: all but the last
unfoldable pub first_eight : Tables → Call → List Bool
first_eight tables call =
    wrong_size tables
    ∷ wrong_time tables.allowances call
    ∷ unknown_connection call
    ∷ wrong_state tables.connections call
    ∷ wrong_lengths call
    ∷ not_from_peer call
    ∷ not_permitted tables.connections call
    ∷ no_session tables.connections call
    ∷ []

unfoldable pub checks : Tables → Call → List Bool
checks tables call = first_eight tables call ++ (above_level tables call ∷ [])

-- "Checks run in this order; the first that applies decides": its number, where the first of the list has the number n; 0 if none applies
unfoldable pub first_applying : ℕ → List Bool → ℕ
first_applying n [] = 0
first_applying n (x ∷ xs) = elim x [ true ↦ n | false ↦ first_applying (suc n) xs ]

-- checks 1 to 8, and all nine
unfoldable pub precheck : Tables → Call → ℕ
precheck tables call = first_applying 1 (first_eight tables call)

unfoldable pub check : Tables → Call → ℕ
check tables call = first_applying 1 (checks tables call)

-- 02, Item 6: "naming 0 means 600, and other terms are answered with 6"
unfoldable pub wrong_term : ℕ → Bool
wrong_term term = not (eqb term 0 || term_in_range term)

-- "Making a fresh relay has checks 1 and 2 and no trays."; 02, Item 6: "other terms are answered with 6, after checks 1 and 2". It has no 3, 4 and 5.
unfoldable pub check_start : Tables → ℕ → ℕ → ℕ
check_start tables now term = first_applying 1 (wrong_size tables ∷ past_limit now ∷ false ∷ false ∷ false ∷ wrong_term term ∷ [])
