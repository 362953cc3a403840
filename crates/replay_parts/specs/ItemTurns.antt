-- One turn, of what was read at the place.
use Rattle.std.specs.Prelude.{Bool, false, not, if◌then◌else◌}
use Rattle.journal_records.specs.declared.Item.{Item}
use Rattle.journal_records.specs.declared.Item.TheVariants as item
use Rattle.journal_records.specs.Items.{as_record}
use Rattle.journal.specs.Replays.{Ledger, is_contradicted, advance}

-- it is a record that doesn't contradict
abbrev pub passes_item : {State : Type 0} → Ledger State → Item → State → Bool
passes_item L (item.Record r) s = not (is_contradicted L s (as_record r))
passes_item L item.Tail s = false
passes_item L item.End s = false

abbrev pub taken_item : {State : Type 0} → Ledger State → Item → State → State
taken_item L (item.Record r) s = if not (is_contradicted L s (as_record r)) then advance L s (as_record r) else s
taken_item L item.Tail s = s
taken_item L item.End s = s
