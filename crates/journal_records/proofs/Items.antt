-- What is read at a place, over plain values. Assumes nothing.
use Prim.Native.Nat.{ℕ, ◌+◌, ◌-◌, ◌≤◌, ◌<◌}
use mathlib.Core.Path.{◌≡◌}
use mathlib.Core.List.{List, [], ◌∷◌}
use native.Mathlib.Omega.{arith}
use lib.ListN.{length}
use borrow.Author.Tests.{le-leb, lt-leb, lt-ltb, le-ltb}
use Rattle.octets.specs.Octets.{byte_at, number, number_from, number_at}
use Rattle.octets.proofs.Parts.{part-one}
use Rattle.journal.specs.Records.{record_bytes, record_at}
use Rattle.journal_records.specs.declared.Record.{Record}
use Rattle.journal_records.specs.declared.Item.TheVariants as item
use Rattle.journal_records.specs.Items.{as_record, item_at}

-- a number of one byte is the byte
pub one_byte : (j : List ℕ) (at : ℕ) → at < length j → number_at j at 1 ≡ byte_at j at
unfolding number_at number number_from
one_byte j at h = rw (part-one j at h) (first (byte_at j at))
  where
    first : (x : ℕ) → number_from 0 (x ∷ []) ≡ x
    first x = omega arith

module _ (j : List ℕ) (place : ℕ) where
  pub fields : place + record_bytes ≤ length j → (r : Record) → r.time ≡ number_at j place 8 → r.connection ≡ byte_at j (place + 8)
      → r.call ≡ byte_at j (place + 9) → r.kind ≡ byte_at j (place + 10) → r.answer ≡ byte_at j (place + 11)
      → r.charge ≡ number_at j (place + 12) 4 → as_record r ≡ record_at j place
  unfolding record_at
  fields h r t c k y a n =
      rw (
        t,
        c,
        k,
        y,
        a,
        n,
        one_byte j (place + 8) (omega arith),
        one_byte j (place + 9) (omega arith),
        one_byte j (place + 10) (omega arith),
        one_byte j (place + 11) (omega arith),
      )

  pub at_the_end : length j ≤ place → item.End ≡ item_at j place
  unfolding item_at
  at_the_end h = rw (le-leb _ _ h)

  module _ (h : place < length j) where
    pub at_a_tail : length j - place < record_bytes → item.Tail ≡ item_at j place
    unfolding item_at
    at_a_tail k = rw (lt-leb _ _ h, lt-ltb _ _ k)

    pub at_a_record : record_bytes ≤ length j - place → (r : Record) → as_record r ≡ record_at j place → item.Record r ≡ item_at j place
    unfolding item_at
    at_a_record k r e = rw (lt-leb _ _ h, le-ltb _ _ k, ← e)
