-- What 02, Item 8, says of the two replays, as a statement: "must agree with it on every journal: on the place named and each partner's level at the
-- latest done reading".
use Rattle.std.specs.Prelude.{ℕ, ◌+◌, ◌*◌, ◌≤◌, ◌<◌, min, ◌≡◌, ◌≢◌, List, length, get_or}
use Rattle.allowance.specs.Bucket.{capacity, refill_rate, level_now}
use Rattle.rules.specs.Sizes.{partners, allowances_size}
use Rattle.rules.specs.Tables.{bucket_of, clock, stored_term}
use Rattle.journal.specs.Replays.{Replayed, replay}
use Rattle.journal.specs.Plain.{filled, replay_plain}

-- of the table that the replay makes and the one that the plain replay makes
pub record SameLevels (table plain : List ℕ) : Type 0 where
  -- both are whole
  pub sizes : (length table ≡ allowances_size) × (length plain ≡ allowances_size)
  -- the latest done reading, and the term
  pub clocks : clock plain ≡ clock table
  pub terms : stored_term plain ≡ stored_term table
  -- the plain one has each level at the latest done reading, with that reading as its time of update
  pub filled : (p : ℕ) → p < partners → bucket_of plain p ≡ record { level = level_now (bucket_of table p) (clock table); updated = clock table }
  -- so at that reading and at any later one each partner has the same level
  pub levels : (p time : ℕ) → p < partners → clock table ≤ time → level_now (bucket_of plain p) time ≡ level_now (bucket_of table p) time

-- of the two answers, where the table `lent` was lent
pub record SameReplay (lent : List ℕ) (a b : Replayed) : Type 0 where
  pub numbers : b.number ≡ a.number
  pub verdicts : b.contradicted ≡ a.contradicted
  pub places : b.place ≡ a.place
  -- a journal that agrees
  pub tables : a.number ≡ 0 → a.contradicted ≡ 0 → SameLevels a.allowances b.allowances
  -- a refusal, and a contradiction: nothing is written
  pub refused : a.number ≢ 0 → (a.allowances ≡ lent) × (b.allowances ≡ lent)
  pub named : a.contradicted ≢ 0 → (a.allowances ≡ lent) × (b.allowances ≡ lent)

-- "fills every level once for each second": what that comes to, and when the code may stop
pub record Filling : Type 0 where
  pub after : (seconds : ℕ) (levels : List ℕ) (p : ℕ) → p < length levels → get_or levels p 0 ≤ capacity
      → get_or (filled seconds levels) p 0 ≡ min capacity (get_or levels p 0 + refill_rate * seconds)
  pub stays : (seconds : ℕ) (levels : List ℕ) → ((p : ℕ) → p < length levels → get_or levels p 0 ≡ capacity) → filled seconds levels ≡ levels

-- on every byte string, from any start
abbrev pub ReplaysAgree : Type 0
ReplaysAgree = (al journal : List ℕ) (now term : ℕ) → SameReplay al (replay al journal now term) (replay_plain al journal now term)
