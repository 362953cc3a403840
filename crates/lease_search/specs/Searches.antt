-- What a search over lease rows asks of each row.
use Rattle.std.specs.Prelude.{ℕ, Bool, ◌≡◌, ◌<◌}
use Rattle.rules.specs.Sizes.{row_count}

-- whatever is answered of a row is what this test says of it
abbrev pub Tests : (ℕ → Bool → Type 0) → (ℕ → Bool) → Type 0
Tests answered test = (row : ℕ) (answer : Bool) → row < row_count → answered row answer → answer ≡ test row
