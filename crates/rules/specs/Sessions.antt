-- Establish and Type 9 (01, "Effects"): what decides, and what is written to the connections; and the records of an open and of a close.
use Rattle.std.specs.Prelude.{ℕ, not, List, ◌++◌, replicate, eqb, ltb, if◌then◌else◌}
use Rattle.octets.specs.Octets.{part, put}
use Rattle.svsc.specs.Messages.{key_bytes}
use Rattle.rules.specs.Sizes.{nobody}
use Rattle.rules.specs.Searches.{end_row, first_own}
use Rattle.rules.specs.Tables.{partner_of, connection_at, keys_bytes, awaiting, has_session, set_state, set_peer, set_keys, live_with_id, holder, holder_counts, fresh_connection}

-- "puts its record back to fresh"
unfoldable pub clear : List ℕ → ℕ → List ℕ
clear cs c = put cs (connection_at c) fresh_connection

-- Open: "the record becomes fresh but for state 1"
unfoldable pub await : List ℕ → ℕ → List ℕ
await cs c = set_state (clear cs c) c awaiting

-- ---- Establish

-- "the draw gives session-id (0-15), caller's peer-id and peer-key (16-31, 32-47), holder's peer-id and peer-key (48-63, 64-79)"
abbrev pub random_session_id : List ℕ → List ℕ
random_session_id random = part random 0 key_bytes

abbrev pub callers_peer_id : List ℕ → List ℕ
callers_peer_id random = part random 16 key_bytes

abbrev pub callers_key : List ℕ → List ℕ
callers_key random = part random 32 key_bytes

abbrev pub holders_peer_id : List ℕ → List ℕ
holders_peer_id random = part random 48 key_bytes

abbrev pub holders_key : List ℕ → List ℕ
holders_key random = part random 64 key_bytes

-- the status, 1 to 5; or 0, with the holder that the session is with
pub data EstablishDecision : Type 0 where
  refused_with : (status : ℕ) → EstablishDecision
  established_with : (holder : ℕ) → EstablishDecision

-- the lowest live row of the partner that has the id, or the end of its rows
unfoldable pub row_of_id : List ℕ → ℕ → ℕ → ℕ → ℕ
row_of_id ls now p id = first_own p (live_with_id ls now id)

-- "4 if the caller has a session; 1 if no live row of its partner has the id; 2 if the lowest such row has no holder that counts; 5 if that
-- holder is the caller; 3 if it has a session; else 0"
unfoldable pub decide_establish : List ℕ → List ℕ → ℕ → ℕ → ℕ → EstablishDecision
decide_establish cs ls now c id =
    let r = row_of_id ls now (partner_of c) id in
    if has_session cs c then refused_with 4
    else if not (ltb r (end_row (partner_of c))) then refused_with 1
    else if not (holder_counts cs ls r) then refused_with 2
    else if eqb (holder ls r) c then refused_with 5
    else if has_session cs (holder ls r) then refused_with 3
    else established_with (holder ls r)

-- "Each record gets the session-id, its own pair and the other's number": one record
unfoldable pub join : List ℕ → ℕ → ℕ → List ℕ → List ℕ
join cs c other keys = set_keys (set_peer cs c other) c keys

unfoldable pub establish : List ℕ → ℕ → ℕ → List ℕ → List ℕ
establish cs c h random =
    join
    (join cs c h (random_session_id random ++ (callers_peer_id random ++ callers_key random)))
    h
    c
    (random_session_id random ++ (holders_peer_id random ++ holders_key random))

-- ---- Type 9

-- "lose the session (byte 1 = 255, 16-63 zero)": one record
unfoldable pub leave : List ℕ → ℕ → List ℕ
leave cs c = join cs c nobody (replicate keys_bytes 0)

-- "both records lose the session"
unfoldable pub end_session : List ℕ → ℕ → ℕ → List ℕ
end_session cs c d = leave (leave cs c) d
