-- 02, Item 8: "A reader holds the journal bytes and its place in them".
use Rattle.std.specs.Prelude.{ℕ, ◌+◌, min, List, length}
use Rattle.journal.specs.Records.{record_bytes}

-- where a reader is: past the end it is at the end
abbrev pub place_in : List ℕ → ℕ → ℕ
place_in j place = min place (length j)

-- "a record of 16 bytes": where it is once it has read; behind a tail, and at the end, it is at the end
abbrev pub place_after : List ℕ → ℕ → ℕ
place_after j place = place_in j (place_in j place + record_bytes)
