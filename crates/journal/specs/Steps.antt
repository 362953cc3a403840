-- Calls and fresh starts with their records, and the journal of a run. What a call answers, and does to the tables and the map, is as without. The
-- contracts of the entry points are equations with these.
use Rattle.std.specs.Prelude.{ℕ, List, [], ◌∷◌, ◌++◌, if◌then◌else◌}
use Rattle.rules.specs.Tables.{Tables}
use Rattle.rules.specs.Calls.{Call}
use Rattle.rules.specs.Step.{step}
use Rattle.connection_map.specs.Steps.{MappedOutcome, step_with_map, start_with_map}
use Rattle.journal.specs.Records.{Record, unrecorded, no_record, written, record_of, answer_record}

pub record RecordedOutcome : Type 0 where
  pub mapped : MappedOutcome
  pub bytes : List ℕ

unfoldable pub step_recorded : Tables → ℕ → Call → RecordedOutcome
step_recorded tables map call = record {
  mapped = step_with_map tables map call;
  bytes = answer_record (step tables call).answer.number (record_of tables call);
}

-- a fresh start has no record, whatever it answers
unfoldable pub start_recorded : Tables → ℕ → ℕ → ℕ → RecordedOutcome
start_recorded tables map now term = record { mapped = start_with_map tables map now term; bytes = no_record }

-- the records of a run's calls, those on 1 to 3 left out, each call lent the tables as the one before left them
unfoldable pub records_of_run : Tables → List Call → List Record
records_of_run tables [] = []
records_of_run tables (call ∷ calls) =
    let rest = records_of_run (step tables call).tables calls in
    if unrecorded (step tables call).answer.number then rest else record_of tables call ∷ rest

-- "The journal is a file of the others, no header."
unfoldable pub journal_bytes : List Record → List ℕ
journal_bytes [] = []
journal_bytes (r ∷ rs) = written r ++ journal_bytes rs

abbrev pub journal_of : Tables → List Call → List ℕ
journal_of tables calls = journal_bytes (records_of_run tables calls)
