-- What stands at a place of a journal, as the code has it.
use Rattle.std.specs.Prelude.{ℕ, ◌-◌, List, leb, ltb, length, if◌then◌else◌}
use Rattle.journal.specs.Records.{record_bytes, record_at}
use Rattle.journal.specs.Records as journal
use Rattle.journal_records.specs.declared.Record.{Record}
use Rattle.journal_records.specs.declared.Item.{Item}
use Rattle.journal_records.specs.declared.Item.TheVariants as item

abbrev pub as_record : Record → journal.Record
as_record r = record {
  time = r.time;
  connection = r.connection;
  call = r.call;
  kind = r.kind;
  answer = r.answer;
  charge = r.charge;
}

abbrev pub coded : journal.Record → Record
coded r = record {
  time = r.time;
  connection = r.connection;
  call = r.call;
  kind = r.kind;
  answer = r.answer;
  charge = r.charge;
}

-- "a tail shorter than a record"; past the end there is nothing
unfoldable pub item_at : List ℕ → ℕ → Item
item_at j place =
    if leb (length j) place
    then item.End
    else if ltb (length j - place) record_bytes then item.Tail else item.Record (coded (record_at j place))
