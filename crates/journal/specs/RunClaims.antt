-- What 02, Item 8, says of the journal of a run, as statements: replaying it "gives the allowance table, after a run as the relay had it".
use Rattle.std.specs.Prelude.{ℕ, ◌%◌, ◌<◌, ◌≡◌, true, false, List, [], ◌∷◌, ◌++◌, map, length, if◌then◌else◌}
use Rattle.allowance.specs.History.{own}
use Rattle.rules.specs.Sizes.{allowances_size}
use Rattle.rules.specs.Tables.{Tables}
use Rattle.rules.specs.Calls.{Call}
use Rattle.rules.specs.Step.{step, start}
use Rattle.rules.specs.Runs.{after, history}
use Rattle.connection_map.specs.Steps.{step_with_map, start_with_map}
use Rattle.journal.specs.Records.{Record, record_bytes, unrecorded, no_record, written, record_of}
use Rattle.journal.specs.Replays.{agrees, records_of, tail_of, replay_from, table_ledger, replay}
use Rattle.journal.specs.Steps.{step_recorded, start_recorded, records_of_run, journal_of}
use Rattle.journal.specs.BoundClaims.{history_of}

-- The record as it reads back from its bytes. What C lends are bytes, and there it is the same record; but a call's message may be any numbers here, and of the
-- type only a byte is written.
unfoldable pub as_read : Record → Record
as_read r = record {
  time = r.time;
  connection = r.connection;
  call = r.call;
  kind = r.kind % 256;
  answer = r.answer;
  charge = r.charge;
}

-- of one call, whatever map it is lent: the bytes in its answer, and what they are to the journal
pub record Recorded (tables : Tables) (bits : ℕ) (call : Call) : Type 0 where
  -- what it answers, and does to tables, buffers and the map, is as without a record: so demand 3 is (connection_map, MappedDemand3)
  pub as_without : (step_recorded tables bits call).mapped ≡ step_with_map tables bits call
  -- "a record of 16 bytes .., all zero on 1 to 3"
  pub sized : length (step_recorded tables bits call).bytes ≡ record_bytes
  pub zeros : unrecorded (step tables call).answer.number ≡ true → (step_recorded tables bits call).bytes ≡ no_record
  pub told : unrecorded (step tables call).answer.number ≡ false → (step_recorded tables bits call).bytes ≡ written (record_of tables call)
  -- "The journal is a file of the others": of this call and any later ones
  pub appended : (later : List Call)
      → journal_of tables (call ∷ later)
      ≡ (if unrecorded (step tables call).answer.number then [] else (step_recorded tables bits call).bytes) ++ journal_of (step tables call).tables later

pub record RunsReplay : Type 0 where
  pub recorded : (tables : Tables) (bits : ℕ) (call : Call) → Recorded tables bits call
  -- "A fresh start begins a new journal.": it has no record itself, and is as without
  pub started : (tables : Tables) (bits now term : ℕ)
      → start_recorded tables bits now term ≡ record { mapped = start_with_map tables bits now term; bytes = no_record }
  pub same_if_byte : (r : Record) → r.kind < 256 → as_read r ≡ r
  -- the journal of any calls on any tables reads as their records, in order, and has no tail
  pub records : (tables : Tables) (calls : List Call) → records_of (journal_of tables calls) ≡ map as_read (records_of_run tables calls)
  pub no_tail : (tables : Tables) (calls : List Call) → tail_of (journal_of tables calls) ≡ 0
  -- from the allowances as they were it contradicts nowhere, and gives the allowances as they are
  pub any_tables : (tables : Tables) (calls : List Call)
      → replay_from table_ledger tables.allowances (journal_of tables calls) ≡ agrees (after tables calls).allowances
  -- so from every fresh start that is done, whatever table is lent for it: byte for byte the relay's
  pub every_run : (lent : Tables) (now term : ℕ) → (start lent now term).answer.number ≡ 0 → (calls : List Call) (al : List ℕ)
      → length al ≡ allowances_size
      → replay al (journal_of (start lent now term).tables calls) now term
      ≡ record { number = 0; contradicted = 0; place = 0; allowances = (after (start lent now term).tables calls).allowances }
  -- and the accepted charged calls of each partner are in it as 01's history has them, each with its charge
  pub charges_told : (tables : Tables) (calls : List Call) (p : ℕ)
      → own p (history_of (records_of (journal_of tables calls))) ≡ own p (history tables calls)
