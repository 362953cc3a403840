-- What is read on and on, as the laws of proofs/Reading.antt say it.
use Rattle.std.specs.Prelude.{ℕ, zero, suc, ◌+◌, ◌*◌, ◌/◌, ◌≤◌, ◌<◌, ◌≡◌, List, [], ◌∷◌, ◌++◌, map, eqb, length, if◌then◌else◌}
use Rattle.journal.specs.Records.{Record, record_bytes}
use Rattle.journal.specs.Replays.{records_of, tail_of}
use Rattle.journal_records.specs.declared.Item.{Item}
use Rattle.journal_records.specs.declared.Item.TheVariants as item
use Rattle.journal_records.specs.Items.{coded, item_at}
use Rattle.journal_reader.specs.Places.{place_in, place_after}

-- where a reader is n records behind a place
unfoldable pub place_behind : List ℕ → (place n : ℕ) → ℕ
place_behind j place zero = place
place_behind j place (suc n) = place_behind j (place_after j place) n

-- the n items that it reads from a place on
unfoldable pub items_from : List ℕ → (place n : ℕ) → List Item
items_from j place zero = []
items_from j place (suc n) = item_at j place ∷ items_from j (place_after j place) n

-- a journal as items: its records, and then "a tail shorter than a record" or the end
abbrev pub item_of : Record → Item
item_of r = item.Record (coded r)

unfoldable pub items_of : List ℕ → List Item
items_of j = map item_of (records_of j) ++ ((if eqb (tail_of j) 0 then item.End else item.Tail) ∷ [])

-- what is so of every journal
pub record ReaderReads (j : List ℕ) : Type 0 where
  -- from the first byte on: every record, and then the tail or the end
  pub all : items_from j 0 (suc (length j / record_bytes)) ≡ items_of j
  -- behind n records it is n records on; over less than one it goes to the end
  pub behind : (n place : ℕ) → place + n * record_bytes ≤ length j → place_behind j place n ≡ place + n * record_bytes
  pub to_the_end : (place : ℕ) → length j < place + record_bytes → place_after j place ≡ length j
  -- past the end it reads what stands at the end
  pub in_place : (place : ℕ) → item_at j (place_in j place) ≡ item_at j place
