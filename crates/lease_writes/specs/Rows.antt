-- One step of a close on the lease rows, in the rules' terms.
use Rattle.std.specs.Prelude.{ℕ, List, eqb, if◌then◌else◌}
use Rattle.rules.specs.Sizes.{nobody}
use Rattle.rules.specs.Tables.{holder, set_holder}

-- row r without its holder, where that is the connection
unfoldable pub release_row : List ℕ → ℕ → ℕ → List ℕ
release_row ls r c = if eqb (holder ls r) c then set_holder ls r nobody else ls
