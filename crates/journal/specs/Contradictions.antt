-- 02, Item 8: "A record contradicts exactly if ..": the sentence, a line for each of its parts.
use Rattle.std.specs.Prelude.{ℕ, Bool, not, ◌&&◌, ◌||◌, eqb, leb, ltb}
use Rattle.rules.specs.Sizes.{connection_count, time_limit}
use Rattle.journal.specs.Records.{Record, unrecorded, priced}

abbrev pub is_done : Record → Bool
is_done r = eqb r.answer 0

abbrev pub has_charge : Record → Bool
has_charge r = not (eqb r.charge 0)

-- "a free call": a close, a keepalive, or a message of type 9, SessionEnd
abbrev pub is_free : Record → Bool
is_free r = eqb r.call 2 || eqb r.call 3 || (eqb r.call 1 && eqb r.kind 9)

-- The clock is the latest done reading before the record, "at first the fresh relay's"; the level is what the record's partner had then, at the record's
-- reading.
unfoldable pub contradicts : (clock level : ℕ) → Record → Bool
contradicts clock level r =
    -- "its connection or call number is out of range"
    leb connection_count r.connection
    || leb 4 r.call
    -- "its answer is 1 to 3 or above 9"
    || (unrecorded r.answer || ltb 9 r.answer)
    -- "its reading is 2^40 or more or below the latest done one"
    || (leb time_limit r.time || ltb r.time clock)
    -- "it carries a charge for a free call or with an answer other than 0 and 9"
    || (has_charge r && (is_free r || not (priced r.answer)))
    -- "a done charge is above the level"
    || (is_done r && ltb level r.charge)
    -- "or a charge with answer 9 isn't"
    || (eqb r.answer 9 && leb r.charge level)
