-- What 02, Item 8, says of a record's bytes, "reading 8, connection 1, call 1 .., type byte or 0, answer 1, charge 4", as statements: what is written
-- reads back as the same record, and what is read is written as the same bytes.
use Rattle.std.specs.Prelude.{ℕ, ◌+◌, ◌*◌, ◌-◌, ◌^◌, ◌≤◌, ◌<◌, ◌≡◌, true, List, [], ◌∷◌, ◌++◌, length, drop}
use Rattle.std.proofs.Math.Pow.{are_bytes}
use Rattle.octets.specs.Octets.{part}
use Rattle.journal.specs.Records.{Record, record_bytes, written, record_at}
use Rattle.journal.specs.Replays.{records_of, tail_of}
use Rattle.journal.specs.Steps.{journal_bytes}

-- a record whose numbers fit their bytes
pub record Fits (r : Record) : Type 0 where
  pub time : r.time < 256 ^ 8
  pub connection : r.connection < 256
  pub call : r.call < 256
  pub kind : r.kind < 256
  pub answer : r.answer < 256
  pub charge : r.charge < 256 ^ 4

abbrev pub AllFit : List Record → Type 0
AllFit [] = Unit {0}
AllFit (r ∷ rs) = Fits r × AllFit rs

-- one record, wherever it stands
pub record RecordsKept : Type 0 where
  pub sized : (r : Record) → length (written r) ≡ record_bytes
  pub read_back : (r : Record) → Fits r → (before behind : List ℕ) → record_at (before ++ (written r ++ behind)) (length before) ≡ r
  pub fits : (j : List ℕ) (place : ℕ) → are_bytes j ≡ true → place + record_bytes ≤ length j → Fits (record_at j place)
  pub write_back : (j : List ℕ) (place : ℕ) → are_bytes j ≡ true → place + record_bytes ≤ length j
      → written (record_at j place) ≡ part j place record_bytes

-- a journal: nothing stands between its records, or behind them
pub record JournalsKept : Type 0 where
  pub sized : (rs : List Record) → length (journal_bytes rs) ≡ record_bytes * length rs
  pub read_back : (rs : List Record) → AllFit rs → records_of (journal_bytes rs) ≡ rs
  pub no_tail : (rs : List Record) → tail_of (journal_bytes rs) ≡ 0
  -- any byte string: its records, and what is left behind them
  pub write_back : (j : List ℕ) → are_bytes j ≡ true → journal_bytes (records_of j) ++ drop (length j - tail_of j) j ≡ j
