-- 02, Item 8: "Replaying a journal from a fresh relay's reading and term, refused as there, gives the allowance table, after a run as the relay had it,
-- or, writing nothing, names the place of the first record that contradicts the rules."
use Rattle.std.specs.Prelude.{ℕ, zero, suc, ◌+◌, ◌/◌, ◌%◌, Bool, false, not, List, [], ◌∷◌, eqb, length, if◌then◌else◌}
use Rattle.allowance.specs.Bucket.{level_now, spend}
use Rattle.rules.specs.Sizes.{allowances_size}
use Rattle.rules.specs.Tables.{partner_of, bucket_of, set_bucket, set_clock, fresh}
use Rattle.rules.specs.Tables as tables
use Rattle.rules.specs.Checks.{past_limit, wrong_term, first_applying}
use Rattle.journal.specs.Records.{Record, record_bytes, record_at}
use Rattle.journal.specs.Contradictions.{contradicts, is_done, has_charge}

-- ---- a journal as records

-- the n records from a place on
unfoldable pub records_from : List ℕ → ℕ → ℕ → List Record
records_from j place zero = []
records_from j place (suc n) = record_at j place ∷ records_from j (place + record_bytes) n

-- all whole records, and how many bytes are left behind them
unfoldable pub records_of : List ℕ → List Record
records_of j = records_from j 0 (length j / record_bytes)

unfoldable pub tail_of : List ℕ → ℕ
tail_of j = length j % record_bytes

-- ---- what is kept from record to record: the latest done reading, what a partner has at a reading, and what a done record leaves of it

pub record Ledger (State : Type 0) : Type 0 where
  pub clock : State → ℕ
  pub level : State → (partner time : ℕ) → ℕ
  pub settle : State → Record → State

pub data Verdict (State : Type 0) : Type 0 where
  agrees : State → Verdict State
  contradicted_at : (place : ℕ) → Verdict State

module _ {State : Type 0} (L : Ledger State) where
  unfoldable pub is_contradicted : State → Record → Bool
  is_contradicted s r = contradicts (L.clock s) (L.level s (partner_of r.connection) r.time) r

  -- a refused record leaves all as it was
  unfoldable pub advance : State → Record → State
  advance s r = if is_done r then L.settle s r else s

  -- the records from a place on, one by one; "a tail shorter than a record is refused by place, in bytes, once the records before it are judged"
  unfoldable pub judge : (place tail : ℕ) → State → List Record → Verdict State
  judge place tail s [] = if eqb tail 0 then agrees s else contradicted_at place
  judge place tail s (r ∷ rs) =
      if is_contradicted s r then contradicted_at place else judge (place + record_bytes) tail (advance s r) rs

  unfoldable pub replay_from : State → List ℕ → Verdict State
  replay_from s j = judge 0 (tail_of j) s (records_of j)

-- ---- the replay that keeps an allowance table, as the relay does

-- 01: "A done charged call stores the level left and its reading as moment."; "A done record of charge 0 moves only the clock."
unfoldable pub settled : List ℕ → Record → List ℕ
settled al r =
    let p = partner_of r.connection in
    set_clock (if has_charge r then set_bucket al p (spend (bucket_of al p) r.time r.charge) else al) r.time

abbrev pub table_ledger : Ledger (List ℕ)
table_ledger = record { clock = tables.clock; level = λ al p time. level_now (bucket_of al p) time; settle = settled }

-- ---- the answer

-- the number, whether the journal is contradicted and where, and the allowances afterwards; what doesn't apply is 0
pub record Replayed : Type 0 where
  pub number : ℕ
  pub contradicted : ℕ
  pub place : ℕ
  pub allowances : List ℕ

-- "refused as there": 1, 2 or 6, of the one table that is lent
unfoldable pub check_replay : List ℕ → ℕ → ℕ → ℕ
check_replay al now term =
    first_applying 1 (not (eqb (length al) allowances_size) ∷ past_limit now ∷ false ∷ false ∷ false ∷ wrong_term term ∷ [])

-- "gives the allowance table .. or, writing nothing, names the place"
abbrev pub concluded : List ℕ → Verdict (List ℕ) → Replayed
concluded al (agrees table) = record { number = 0; contradicted = 0; place = 0; allowances = table }
concluded al (contradicted_at place) = record { number = 0; contradicted = 1; place = place; allowances = al }

-- a check comes before the journal is looked at
abbrev pub answered_with : ℕ → List ℕ → Verdict (List ℕ) → Replayed
answered_with zero al verdict = concluded al verdict
answered_with (suc n) al verdict = record { number = suc n; contradicted = 0; place = 0; allowances = al }

unfoldable pub replay : List ℕ → List ℕ → ℕ → ℕ → Replayed
replay al j now term = answered_with (check_replay al now term) al (replay_from table_ledger (fresh now term).allowances j)
