-- Reading on and on from the first byte gives a journal's records, and then its tail or the end. Assumes nothing.
use Rattle.std.specs.Prelude.{if◌then◌else◌}
use Prim.Native.Nat.{ℕ, zero, suc, ◌+◌, ◌*◌, ◌/◌, ◌%◌, ◌≤◌, ◌<◌}
use mathlib.Core.Path.{◌≡◌, refl, sym, ap, ◌∙◌}
use mathlib.Core.Logic.{⊎_elim}
use mathlib.Core.List.{List, [], ◌∷◌, ◌++◌, map}
use native.Mathlib.Omega.{arith}
use lib.Dec.{eqb}
use lib.ListN.{length}
use borrow.Author.Tests.{ne_eqb}
use Rattle.octets.proofs.Tests.{le-or-lt}
use Rattle.journal.specs.Records.{record_bytes, record_at}
use Rattle.journal.specs.Replays.{records_from, records_of, tail_of}
use Rattle.journal_records.specs.declared.Item.{Item}
use Rattle.journal_records.specs.declared.Item.TheVariants as item
use Rattle.journal_records.specs.Items.{coded, item_at}
use Rattle.journal_records.proofs.Items.{at_the_end, at_a_tail, at_a_record}
use Rattle.journal_reader.specs.Places.{place_in, place_after}
use Rattle.journal_reader.specs.Reading.{place_behind, items_from, item_of, items_of, ReaderReads}

module _ (j : List ℕ) where
  -- it reads where it is
  reads_in_place : (place : ℕ) → item_at j (place_in j place) ≡ item_at j place
  reads_in_place place =
      ⊎_elim (λ past. sym (at_the_end j (place_in j place) (omega arith)) ∙ at_the_end j place past) (λ before. ap (item_at j) (omega arith)) (le-or-lt (length j) place)

  -- over a record it goes on by 16 bytes, and over less to the end
  over_a_record : (place : ℕ) → place + record_bytes ≤ length j → place_after j place ≡ place + record_bytes
  over_a_record place h = omega arith

  over_less : (place : ℕ) → length j < place + record_bytes → place_after j place ≡ length j
  over_less place h = omega arith

  -- behind n records it is n records on
  behind-records : (n place : ℕ) → place + n * record_bytes ≤ length j → place_behind j place n ≡ place + n * record_bytes
  unfolding place_behind
  behind-records zero place h = omega arith
  behind-records (suc n) place h =
      rw (over_a_record place (omega arith)) (behind-records n (place + record_bytes) (omega arith) ∙ omega arith)

  -- what stands where the m bytes that are left are fewer than a record's
  last_item : (m place : ℕ) → place + m ≡ length j → m < record_bytes → item_at j place ≡ (if eqb m 0 then item.End else item.Tail)
  last_item zero place e h = sym (at_the_end j place (omega arith))
  last_item (suc m) place e h = rw (ne_eqb (suc m) 0 (λ z. omega arith)) (sym (at_a_tail j place (omega arith) (omega arith)))

  -- the n records from a place on, and then what stands behind them
  records-first : (n place behind : ℕ) → place + n * record_bytes ≡ behind → behind ≤ length j
      → items_from j place (suc n) ≡ map item_of (records_from j place n) ++ (item_at j behind ∷ [])
  unfolding items_from records_from
  records-first zero place behind e h = ap (λ (p : ℕ). item_at j p ∷ []) (omega arith)
  records-first (suc n) place behind e h =
      rw (over_a_record place (omega arith), ← at_a_record j place (omega arith) (omega arith) (coded (record_at j place)) refl)
      (ap (λ (rest : List Item). item_of (record_at j place) ∷ rest) (records-first n (place + record_bytes) behind (omega arith) h))

  -- from the first byte on: every record, and then the tail or the end
  reads_all : items_from j 0 (suc (length j / record_bytes)) ≡ items_of j
  unfolding items_of records_of tail_of
  reads_all =
      records-first whole 0 (whole * record_bytes) (omega arith) (omega arith)
      ∙ ap (λ (i : Item). map item_of (records_from j 0 whole) ++ (i ∷ [])) (last_item (length j % record_bytes) (whole * record_bytes) (omega arith) (omega arith))
    where
      whole : ℕ
      whole = length j / record_bytes

pub reader_reads : (j : List ℕ) → ReaderReads j
reader_reads j = record { all = reads_all j; behind = behind-records j; to_the_end = over_less j; in_place = reads_in_place j }
