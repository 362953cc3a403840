-- What 02, Item 8, says of a record that doesn't contradict, as facts: "A record contradicts exactly if ..".
use Rattle.std.specs.Prelude.{ℕ, ◌≤◌, ◌<◌, ◌≡◌, ◌↔◌, true, false}
use Rattle.rules.specs.Sizes.{connection_count, time_limit}
use Rattle.journal.specs.Records.{Record, unrecorded, priced}
use Rattle.journal.specs.Contradictions.{is_done, has_charge, is_free, contradicts}

pub record Consistent (clock level : ℕ) (r : Record) : Type 0 where
  -- "its connection or call number is out of range"
  pub connected : r.connection < connection_count
  pub called : r.call < 4
  -- "its answer is 1 to 3 or above 9"
  pub recorded : unrecorded r.answer ≡ false
  pub known : r.answer ≤ 9
  -- "its reading is 2^40 or more or below the latest done one"
  pub timely : r.time < time_limit
  pub ordered : clock ≤ r.time
  -- "it carries a charge for a free call or with an answer other than 0 and 9"
  pub charged : has_charge r ≡ true → is_free r ≡ false
  pub chargeable : has_charge r ≡ true → priced r.answer ≡ true
  -- "a done charge is above the level"
  pub covered : is_done r ≡ true → r.charge ≤ level
  -- "or a charge with answer 9 isn't"
  pub refused : r.answer ≡ 9 → level < r.charge

-- it doesn't contradict exactly if all of these hold
abbrev pub ContradictsExactly : Type 0
ContradictsExactly = (clock level : ℕ) (r : Record) → (contradicts clock level r ≡ false) ↔ Consistent clock level r
