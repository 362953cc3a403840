-- What 02, Item 8, says of the place that a replay names, as statements.
use Rattle.std.specs.Prelude.{ℕ, ◌+◌, ◌*◌, ◌/◌, ◌≤◌, ◌<◌, ◌≡◌, ◌≢◌, ◌⊎◌, ◌↔◌, true, length}
use mathlib.Core.List.{List, foldl}
use Rattle.rules.specs.Sizes.{connections_size, leases_size}
use Rattle.rules.specs.Tables.{lent, fresh}
use Rattle.rules.specs.Checks.{check_start}
use Rattle.journal.specs.Records.{record_bytes, record_at}
use Rattle.journal.specs.Replays.{records_from, Ledger, agrees, contradicted_at, is_contradicted, advance, replay_from, table_ledger, check_replay, Replayed, replay}
use Rattle.journal.specs.Plain.{plain_ledger, fresh_levels, level_table, replay_plain}

-- ---- a journal, judged from any state and with any ledger

module _ {State : Type 0} (L : Ledger State) (s : State) (j : List ℕ) where
  -- the state after the first n records
  unfoldable pub state_at : ℕ → State
  state_at n = foldl (advance L) s (records_from j 0 n)

  -- at a byte where a record begins, or would, with so many before it,
  pub record WrongAt (place : ℕ) : Type 0 where
    pub before : ℕ
    pub begins : place ≡ record_bytes * before
    -- the record there contradicts, or what is left there, a byte at least, is shorter than a record
    pub wrong : ((place + record_bytes ≤ length j) × (is_contradicted L (state_at before) (record_at j place) ≡ true))
        ⊎ ((place < length j) × (length j < place + record_bytes))

  -- "the first": nothing before it does
  abbrev pub FirstWrong : ℕ → Type 0
  FirstWrong place = WrongAt place × ((earlier : ℕ) → earlier < place → WrongAt earlier → ⊥)

  abbrev pub NoneWrong : Type 0
  NoneWrong = (place : ℕ) → WrongAt place → ⊥

  -- the state after all whole records
  abbrev pub final : State
  final = state_at (length j / record_bytes)

  pub record Judged : Type 0 where
    -- of every byte string the replay names a place exactly if the record there contradicts, or what is left there is shorter than a record, and
    -- nothing before it does
    pub names : (place : ℕ) → (replay_from L s j ≡ contradicted_at place) ↔ FirstWrong place
    -- It agrees exactly if nothing is wrong, and then with what all records leave.
    pub agreed : (end : State) → (replay_from L s j ≡ agrees end) ↔ ((end ≡ final) × NoneWrong)

-- ---- the answers

-- of an answer, where the table `al` was lent and the check of the start said `check`; `table` is what is written of the last state
pub record Answered {State : Type 0} (L : Ledger State) (s : State) (table : State → List ℕ) (al j : List ℕ) (check : ℕ) (a : Replayed) : Type 0 where
  pub number : a.number ≡ check
  -- "refused as there", before the journal is looked at
  pub refused : check ≢ 0 → (a.contradicted ≡ 0) × (a.place ≡ 0) × (a.allowances ≡ al)
  -- "or, writing nothing, names the place of the first record that contradicts the rules": 1 exactly if some place is wrong
  pub contradicted : check ≡ 0 → (a.contradicted ≡ 1) ↔ ((place : ℕ) × WrongAt L s j place)
  pub named : check ≡ 0 → a.contradicted ≡ 1 → FirstWrong L s j a.place × (a.allowances ≡ al)
  -- "gives the allowance table": 0 exactly if none is
  pub agreed : check ≡ 0 → (a.contradicted ≡ 0) ↔ NoneWrong L s j
  pub given : check ≡ 0 → a.contradicted ≡ 0 → (a.place ≡ 0) × (a.allowances ≡ table (final L s j))

-- on every byte string, from any start
pub record Places : Type 1 where
  pub judged : {State : Type 0} (L : Ledger State) (s : State) (j : List ℕ) → Judged L s j
  pub replayed : (al j : List ℕ) (now term : ℕ)
      → Answered table_ledger (fresh now term).allowances (λ end. end) al j (check_replay al now term) (replay al j now term)
  pub replayed_plain : (al j : List ℕ) (now term : ℕ)
      → Answered plain_ledger (fresh_levels now) (level_table term) al j (check_replay al now term) (replay_plain al j now term)
  -- "refused as there": as a fresh start is where the other two tables have their sizes
  pub as_a_start : (cs ls al : List ℕ) (now term : ℕ) → length cs ≡ connections_size → length ls ≡ leases_size
      → check_replay al now term ≡ check_start (lent cs ls al) now term
