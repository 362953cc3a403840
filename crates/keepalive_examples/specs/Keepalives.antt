-- Connections that are asked, answer, or are dead (02, Item 3), worked out by hand: a row has what the definitions give and what must come
-- of it.
use Rattle.std.specs.Prelude.{ℕ, ◌+◌, ◌≡◌, List, [], ◌∷◌, ◌++◌, map, take, replicate, if◌then◌else◌}
use Rattle.octets.specs.Octets.{big_endian, part, put}
use Rattle.rules.specs.Tables.{Tables, connection_at, opened, set_state, fresh}
use Rattle.rules.specs.Calls.{Call, opening, message, keepalive, Outcome}
use Rattle.rules.specs.Step.{step}
use Rattle.rules.specs.Runs.{after}
use Rattle.examples.specs.Computed.{computed}
use Rattle.examples.specs.Examples.{buffer}

pub record Row : Type 0 where
  pub given : List ℕ
  pub said : List ℕ

-- in every row, what is given is what is said
abbrev pub Comes : List Row → Type 0
Comes table = map (λ (r : Row). r.given) table ≡ map (λ (r : Row). r.said) table

abbrev row : List ℕ → List ℕ → Row
row given said = record { given = given; said = said }

-- ---- what is shown

-- the whole answer, and what is sent
abbrev told : Outcome → List ℕ
told o =
    o.answer.number
    ∷ o.answer.reply_length
    ∷ o.answer.relay_length
    ∷ o.answer.destination
    ∷ (if o.answer.disconnect then 1 else 0)
    ∷ take o.answer.reply_length o.reply ++ take o.answer.relay_length o.relay

abbrev nothing : List ℕ
nothing = 0 ∷ 0 ∷ 0 ∷ 255 ∷ 0 ∷ []

abbrev asked : List ℕ
asked = 0 ∷ 1 ∷ 0 ∷ 255 ∷ 0 ∷ 13 ∷ []

-- connection 1 is told that the session has ended
abbrev dead : List ℕ
dead = 0 ∷ 0 ∷ 1 ∷ 1 ∷ 1 ∷ 10 ∷ []

-- bytes 2 to 15 of a record
abbrev marks : Tables → ℕ → List ℕ
marks tables c = part tables.connections (connection_at c + 2) 14

-- such a byte 2, and the times of the last message sent and of the keepalive
abbrev marked : ℕ → ℕ → ℕ → List ℕ
marked unanswered sent keepalive_sent = unanswered ∷ 0 ∷ big_endian 5 sent ++ (big_endian 5 keepalive_sent ++ (0 ∷ 0 ∷ []))

-- ---- calls and tables

unfoldable pub random : List ℕ
unfolding computed
random = replicate 24 9 ++ (big_endian 4 7 ++ replicate 52 3)

abbrev sends : ℕ → ℕ → List ℕ → Call
sends now c m = message now c m random buffer buffer

abbrev attends : ℕ → Call
attends now = keepalive now 0 buffer buffer

-- opened at 1,000; then two connections in session, all of it at 1,000
unfoldable pub awaits : Tables
unfolding computed
awaits = after (fresh 1000 0) (opening 1000 0 buffer ∷ [])

unfoldable pub both : Tables
unfolding computed random awaits
both = after awaits (sends 1000 0 (1 ∷ 1 ∷ []) ∷ opening 1000 1 buffer ∷ sends 1000 1 (1 ∷ 1 ∷ []) ∷ [])

unfoldable pub paired : Tables
unfolding computed random both
paired = after both (sends 1000 0 (2 ∷ 0 ∷ []) ∷ sends 1000 1 (6 ∷ 0 ∷ 0 ∷ 0 ∷ 7 ∷ []) ∷ [])

unfoldable pub first : Outcome
unfolding computed paired
first = step paired (attends 1030)

-- asked at 1,030; then closed, sent data, or answering
unfoldable pub ended : Outcome
unfolding computed paired first
ended = step first.tables (attends 1090)

unfoldable pub fed : Tables
unfolding computed random paired first
fed = after first.tables (sends 1085 1 (11 ∷ 7 ∷ []) ∷ [])

unfoldable pub answers : Tables
unfolding computed random paired first
answers = after first.tables (sends 1040 0 (13 ∷ []) ∷ [])

-- another byte 2, and other times, of connection 0
unfoldable pub with : ℕ → ℕ → ℕ → Tables
unfolding computed paired
with unanswered sent keepalive_sent = record {
  connections = put paired.connections 2 (marked unanswered sent keepalive_sent);
  leases = paired.leases;
  allowances = paired.allowances;
}

-- tables of before: an open connection whose bytes 2 to 15 are zero
unfoldable pub old : Tables
unfolding computed
old = record {
  connections = set_state (fresh 0 0).connections 0 opened;
  leases = (fresh 0 0).leases;
  allowances = (fresh 0 0).allowances;
}

abbrev at : Tables → ℕ → List ℕ
at tables now = told (step tables (attends now))

-- ---- the tables of examples

unfoldable pub keepalives : List Row
unfolding computed random awaits both paired first ended
keepalives =
    -- "Open at 1,000: bytes 4-8 are 0 0 0 3 232"; "9-13 stay zero"
    row (marks awaits 0) (0 ∷ 0 ∷ 0 ∷ 0 ∷ 0 ∷ 3 ∷ 232 ∷ 0 ∷ 0 ∷ 0 ∷ 0 ∷ 0 ∷ 0 ∷ 0 ∷ [])
    -- "The call at 1,029: nothing"
    ∷ row (at paired 1029) nothing
    -- "at 1,030: reply 13, both readings 1,030, byte 2 is 1"
    ∷ row (told first) asked
    ∷ row (marks first.tables 0) (marked 1 1030 1030)
    -- "at 1,089 nothing"
    ∷ row (at first.tables 1089) nothing
    -- "at 1,090 closed (in session, type 10 to the other), disconnect"; its row is given back, and the other has been sent a message
    ∷ row (told ended) dead
    ∷ row (part ended.tables.connections 0 64) (0 ∷ 255 ∷ replicate 62 0)
    ∷ row (part ended.tables.leases 12 1) (255 ∷ [])
    ∷ row (marks ended.tables 1) (marked 0 1090 0)
    -- who awaits the version answer is treated as who is open
    ∷ row (at awaits 1029 ++ at awaits 1030) (nothing ++ asked)
    ∷ []

unfoldable pub answering : List Row
unfolding computed random awaits both paired first fed answers with old
answering =
    -- "Keepalive at 1,030 and data to it at 1,085: still closed at 1,090."
    row (marks fed 0) (marked 1 1085 1030)
    ∷ row (at fed 1090) dead
    -- "Keepalive at 1,030, its answer at 1,040: byte 2 is 0, 9-13 stay, next due at 1,060."
    ∷ row (marks answers 0) (marked 0 1030 1030)
    ∷ row (at answers 1059 ++ at answers 1060) (nothing ++ asked)
    -- "Byte 2 is 2 or 255: as 0.": due, and never dead
    ∷ row (at (with 2 1000 1000) 1030 ++ at (with 255 1000 900) 1030) (asked ++ asked)
    -- "A stored reading after the present one counts as no time passed", of either
    ∷ row (at (with 0 1031 0) 1030 ++ at (with 1 900 1031) 1030) (nothing ++ nothing)
    -- "Old tables (2 to 15 zero): due at once from 30 on."
    ∷ row (at old 29 ++ at old 30) (nothing ++ asked)
    ∷ []
