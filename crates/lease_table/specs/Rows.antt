-- What a search over a partner's rows answers, in the rules' terms.
use Rattle.std.specs.Prelude.{ℕ, Option, Some, None, ltb, if◌then◌else◌}
use Rattle.rules.specs.Searches.{end_row}

-- row r, if it is before the end of partner p's rows; a search of the rules that finds none comes to that end
abbrev pub row_if_own : ℕ → ℕ → Option ℕ
row_if_own p r = if ltb r (end_row p) then Some r else None
