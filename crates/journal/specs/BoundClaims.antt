-- 'A journal that isn't contradicted is bounded': demand 3 of 01, of a journal alone, as a statement.
use Rattle.std.specs.Prelude.{ℕ, ◌+◌, ◌*◌, ◌-◌, ◌≤◌, ◌<◌, ◌≡◌, true, List, ◌∷◌, ◌++◌, map, eqb}
use Rattle.allowance.specs.Bucket.{capacity, refill_rate, level_now}
use Rattle.allowance.specs.History.{Entry, paid, charges, level_from_history, latest, Bounded}
use Rattle.allowance.specs.Lawful.{Lawful}
use Rattle.rules.specs.Sizes.{partners}
use Rattle.rules.specs.Tables.{partner_of, bucket_of, clock}
use Rattle.journal.specs.Records.{Record}
use Rattle.journal.specs.Contradictions.{has_charge}
use Rattle.journal.specs.Replays.{records_of, Replayed, replay}
use Rattle.journal.specs.Plain.{replay_plain}

-- a record as an entry of a history: "A call is accepted exactly if its answer is 0."
abbrev pub entry_of : Record → Entry
entry_of r = record {
  partner = partner_of r.connection;
  time = r.time;
  accepted = eqb r.answer 0;
  charged = has_charge r;
  cost = r.charge;
}

abbrev pub history_of : List Record → List Entry
history_of rs = map entry_of rs

-- of the records of a journal from a fresh start at `now`, and a table that is to have what they leave
pub record BoundedBy (now : ℕ) (rs : List Record) (table : List ℕ) : Type 0 where
  -- no done record has a reading below the latest, and none a charge above what its partner had left
  pub lawful : Lawful level_from_history now (history_of rs)
  -- demand 3: "the charges of its accepted calls come to at most 262,144 plus 65,536 for each second of clock between the two"
  pub bounded : Bounded (history_of rs)
  -- the table's clock is the latest reading, and from it on each partner has the level that is taken from history
  pub clocked : clock table ≡ latest now (history_of rs)
  pub levels : (p t : ℕ) → p < partners → latest now (history_of rs) ≤ t → level_now (bucket_of table p) t ≡ level_from_history p t (history_of rs)
  -- no difference in that figure is below 0, so that none is cut off there
  pub none_below_zero : (p t : ℕ) → latest now (history_of rs) ≤ t → (earlier : List Entry) (e : Entry) (later : List Entry)
      → history_of rs ≡ earlier ++ (e ∷ later) → paid p e ≡ true
      → (e.time ≤ t) × (charges p (e ∷ later) ≤ capacity + refill_rate * (t - e.time))
  -- any record, a refused one too, has a reading not below the latest before it;
  pub in_order : (before : List Record) (r : Record) (later : List Record) → rs ≡ before ++ (r ∷ later) → latest now (history_of before) ≤ r.time
  -- and a refusal with 9 was right: the charge was above what the partner had left
  pub refused : (before : List Record) (r : Record) (later : List Record) → rs ≡ before ++ (r ∷ later) → r.answer ≡ 9
      → level_from_history (partner_of r.connection) r.time (history_of before) < r.charge

-- where an answer says that a journal is not contradicted
abbrev pub BoundedIfPassed : ℕ → List ℕ → Replayed → Type 0
BoundedIfPassed now j a = a.number ≡ 0 → a.contradicted ≡ 0 → BoundedBy now (records_of j) a.allowances

-- by either replay
pub record JournalBounded : Type 0 where
  pub replayed : (al j : List ℕ) (now term : ℕ) → BoundedIfPassed now j (replay al j now term)
  pub replayed_plain : (al j : List ℕ) (now term : ℕ) → BoundedIfPassed now j (replay_plain al j now term)
