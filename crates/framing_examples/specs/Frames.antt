-- Frames (02, Item 9), worked out by hand: steps from any buffer that has room, and what is written.
use Rattle.std.specs.Prelude.{ℕ, zero, suc, ◌≤◌, ◌≡◌, List, [], ◌∷◌, ◌++◌, map, length, replicate, if◌then◌else◌}
use Rattle.octets.specs.Octets.{big_endian, number, number_from, put}
use Rattle.svsc.specs.Writing.{WriteOutcome, emit}
use Rattle.framing.specs.Frames.{message_limit, frame_of, frames_of, start_of, start_of_type, start_of_message}
use Rattle.framing.specs.Streams.{within, refused_after, Parsed, after, parse_start, parse_frames, parse_from, parse}
use Rattle.framing.specs.Reading.{State, state, fresh, refusal, is_valid, state_after, held, advance, refusing, too_short, Step, step}
use Rattle.framing.specs.Writing.{write_frame}

-- what was found, and what was worked out
pub record Example (A : Type 0) : Type 0 where
  pub found : A
  pub said : A

abbrev pub Holds : {A : Type 0} → List (Example A) → Type 0
Holds rows = map (λ (r : Example _). r.found) rows ≡ map (λ (r : Example _). r.said) rows

abbrev is : {A : Type 0} → A → A → Example A
is found said = record { found = found; said = said }

-- ---- steps

-- a step where the buffer has room
unfoldable pub step_in_room : State → (buffer chunk : List ℕ) → Step
step_in_room s buffer chunk =
    if is_valid s then advance s.taken buffer (held s buffer ++ chunk) (start_of (held s buffer ++ chunk)) else refusing buffer

-- the answers: refused; a part of a frame, of which nothing or these bytes are in the buffer; a message
abbrev refuses : ℕ → List ℕ → Step
refuses used buffer = record { number = 6; complete = 0; used = used; length = 0; state = state 0 1; buffer = buffer }

abbrev waits : ℕ → ℕ → ℕ → List ℕ → Step
waits used taken size buffer = record { number = 0; complete = 0; used = used; length = 0; state = state taken size; buffer = buffer }

abbrev gives : ℕ → ℕ → List ℕ → Step
gives used n buffer = record { number = 0; complete = 1; used = used; length = n; state = state 0 0; buffer = buffer }

-- from a buffer that begins with x and y
unfoldable pub steps : (x y : ℕ) (more : List ℕ) → List (Example Step)
unfolding step_in_room is_valid held big_endian start_of start_of_type start_of_message state_after put
steps x y more =
    let buffer = x ∷ y ∷ more in
    -- "Fresh, `00 00 01`: 6, 2 used."
    is (step_in_room (state 0 0) buffer (0 ∷ 0 ∷ 1 ∷ [])) (refuses 2 buffer)
    -- "`00 01 02 7a`: 6, 3 used."
    ∷ is (step_in_room (state 0 0) buffer (0 ∷ 1 ∷ 2 ∷ 0x7a ∷ [])) (refuses 3 buffer)
    -- "`00 01 01 00 01 01`: an empty message, 3 used."
    ∷ is (step_in_room (state 0 0) buffer (0 ∷ 1 ∷ 1 ∷ 0 ∷ 1 ∷ 1 ∷ [])) (gives 3 0 buffer)
    -- "`00 03 01 68 69 21`: "hi", 5 used."
    ∷ is (step_in_room (state 0 0) buffer (0 ∷ 3 ∷ 1 ∷ 0x68 ∷ 0x69 ∷ 0x21 ∷ [])) (gives 5 2 (0x68 ∷ 0x69 ∷ more))
    -- "(1, 0) and `00`: 6, 1 used."
    ∷ is (step_in_room (state 1 0) buffer (0 ∷ [])) (refuses 1 buffer)
    -- "(3, 2) and "ab": "a", 1 used."
    ∷ is (step_in_room (state 3 2) buffer (0x61 ∷ 0x62 ∷ [])) (gives 1 1 (0x61 ∷ y ∷ more))
    -- "(2, 0), (5, 3), (7, 3): 6, 0 used."
    ∷ is (step_in_room (state 2 0) buffer (1 ∷ [])) (refuses 0 buffer)
    ∷ is (step_in_room (state 5 3) buffer (0x61 ∷ [])) (refuses 0 buffer)
    ∷ is (step_in_room (state 7 3) buffer (0x61 ∷ [])) (refuses 0 buffer)
    -- "(4, 3), empty chunk: stays."
    ∷ is (step_in_room (state 4 3) buffer []) (waits 0 4 3 buffer)
    -- refused stays refused, and so does what no step makes
    ∷ is (step_in_room (state 0 1) buffer (0 ∷ 1 ∷ 1 ∷ [])) (refuses 0 buffer)
    ∷ is (step_in_room (state 0 2) buffer []) (refuses 0 buffer)
    ∷ is (step_in_room (state 1 1) buffer []) (refuses 0 buffer)
    ∷ is (step_in_room (state 1 65536) buffer []) (refuses 0 buffer)
    ∷ is (step_in_room (state 2 65536) buffer []) (refuses 0 buffer)
    -- the length's bytes, most significant first, one at a time and both; with the type
    ∷ is (step_in_room (state 0 0) buffer (0xff ∷ [])) (waits 1 1 65280 buffer)
    ∷ is (step_in_room (state 1 65280) buffer (0xfe ∷ [])) (waits 1 2 65534 buffer)
    ∷ is (step_in_room (state 0 0) buffer (1 ∷ 0 ∷ [])) (waits 2 2 256 buffer)
    ∷ is (step_in_room (state 2 65535) buffer (1 ∷ [])) (waits 1 3 65535 buffer)
    ∷ is (step_in_room (state 2 1) buffer (1 ∷ [])) (gives 1 0 buffer)
    ∷ is (step_in_room (state 2 5) buffer (2 ∷ [])) (refuses 1 buffer)
    -- a part of a message, and the rest of it behind what is there
    ∷ is (step_in_room (state 0 0) buffer (0 ∷ 4 ∷ 1 ∷ 0x61 ∷ [])) (waits 4 4 4 (0x61 ∷ y ∷ more))
    ∷ is (step_in_room (state 4 3) buffer (0x62 ∷ 0x63 ∷ [])) (gives 1 2 (x ∷ 0x62 ∷ more))
    ∷ []

-- "A buffer under 65,534 bytes: 5 before any 6, also with an empty chunk, a refused or an invalid state; nothing taken, the state handed back"
unfoldable pub short_steps : List (Example Step)
unfolding step
short_steps =
    is (step (state 0 0) (7 ∷ []) (0 ∷ 0 ∷ [])) (too_short (state 0 0) (7 ∷ []))
    ∷ is (step (state 4 3) [] []) (too_short (state 4 3) [])
    ∷ is (step (state 0 1) [] (0 ∷ [])) (too_short (state 0 1) [])
    ∷ is (step (state 2 0) [] (1 ∷ [])) (too_short (state 2 0) [])
    ∷ []

-- ---- streams

unfoldable pub streams : List (Example Parsed)
unfolding parse parse_from parse_frames parse_start after start_of start_of_type start_of_message
streams =
    is (parse []) (record { messages = []; end = within 0 })
    ∷ is (parse (0 ∷ [])) (record { messages = []; end = within 1 })
    ∷ is (parse (0 ∷ 2 ∷ 1 ∷ 0x61 ∷ 0 ∷ 1 ∷ 1 ∷ [])) (record { messages = (0x61 ∷ []) ∷ [] ∷ []; end = within 0 })
    ∷ is (parse (0 ∷ 1 ∷ 1 ∷ 0 ∷ 3 ∷ 1 ∷ 0x68 ∷ [])) (record { messages = [] ∷ []; end = within 4 })
    ∷ is (parse (0 ∷ 1 ∷ 1 ∷ 0 ∷ 0 ∷ 1 ∷ 1 ∷ [])) (record { messages = [] ∷ []; end = refused_after 5 })
    ∷ is (parse (0 ∷ 2 ∷ 1 ∷ 0x61 ∷ 0 ∷ 1 ∷ 3 ∷ 0 ∷ [])) (record { messages = (0x61 ∷ []) ∷ []; end = refused_after 7 })
    ∷ []

-- ---- frames

unfoldable pub written : List (Example WriteOutcome)
unfolding write_frame emit frame_of big_endian put
written =
    is (write_frame (0x68 ∷ 0x69 ∷ []) (9 ∷ 9 ∷ 9 ∷ 9 ∷ 9 ∷ 9 ∷ [])) (record { number = 0; length = 5; buffer = 0 ∷ 3 ∷ 1 ∷ 0x68 ∷ 0x69 ∷ 9 ∷ [] })
    ∷ is (write_frame [] (9 ∷ 9 ∷ 9 ∷ [])) (record { number = 0; length = 3; buffer = 0 ∷ 1 ∷ 1 ∷ [] })
    ∷ is (write_frame (0x68 ∷ []) (9 ∷ 9 ∷ 9 ∷ [])) (record { number = 5; length = 0; buffer = 9 ∷ 9 ∷ 9 ∷ [] })
    ∷ []

-- "Write 65,534 bytes: `ff ff 01 ..`; into 65,536 bytes of buffer: 5; 65,535 bytes into any: 6."
pub record LongestWritten : Type 0 where
  pub longest : (message buffer : List ℕ) → length message ≡ 65534 → length buffer ≡ 65537
      → write_frame message buffer ≡ record { number = 0; length = 65537; buffer = 0xff ∷ 0xff ∷ 1 ∷ message }
  pub short : (message buffer : List ℕ) → length message ≡ 65534 → length buffer ≡ 65536
      → write_frame message buffer ≡ record { number = 5; length = 0; buffer = buffer }
  pub too_long : (message buffer : List ℕ) → length message ≡ 65535 → write_frame message buffer ≡ record { number = 6; length = 0; buffer = buffer }
