-- A replay from a place on, as the loops have it: what is left to be judged is worked out from the place.
use Rattle.std.specs.Prelude.{ℕ, ◌+◌, ◌-◌, ◌/◌, ◌%◌, Bool, not, ◌&&◌, List, leb, length, if◌then◌else◌}
use Rattle.journal.specs.Records.{record_bytes, record_at}
use Rattle.journal.specs.Replays.{Ledger, Verdict, records_from, is_contradicted, advance, judge}

unfoldable pub judge_from : {State : Type 0} → Ledger State → List ℕ → ℕ → State → Verdict State
judge_from L j place s =
    let left = length j - place in
    judge L place (left % record_bytes) s (records_from j place (left / record_bytes))

-- one turn: there is a record at the place, and it doesn't contradict
unfoldable pub passes : {State : Type 0} → Ledger State → List ℕ → ℕ → State → Bool
passes L j place s = leb (place + record_bytes) (length j) && not (is_contradicted L s (record_at j place))

unfoldable pub taken : {State : Type 0} → Ledger State → List ℕ → ℕ → State → State
taken L j place s = if passes L j place s then advance L s (record_at j place) else s
