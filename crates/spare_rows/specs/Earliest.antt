-- The search for the row with the earliest expiry among those that aren't live, row by row.
use Rattle.std.specs.Prelude.{ℕ, zero, suc, List, eqb, ltb, if◌then◌else◌}
use Rattle.rules.specs.Tables.{expiry, live}

-- the better of the row found so far, which is the end if none is, and row r behind it
unfoldable pub earlier_of : List ℕ → ℕ → ℕ → ℕ → ℕ → ℕ
earlier_of ls now end best r =
    if live ls now r then best
    else if eqb best end then r
    else if ltb (expiry ls r) (expiry ls best) then r
    else best

-- the best of it and the n rows from r on
unfoldable pub earliest_from : List ℕ → ℕ → ℕ → ℕ → ℕ → ℕ → ℕ
earliest_from ls now end best r zero = best
earliest_from ls now end best r (suc n) = earliest_from ls now end (earlier_of ls now end best r) (suc r) n
