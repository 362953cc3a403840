-- A table made of levels, read back; and the term, beside stores. Assumes nothing.
use Prim.Native.Nat.{ℕ, zero, suc, ◌+◌, ◌^◌, ◌≤◌, ◌<◌}
use mathlib.Core.Path.{◌≡◌, refl, sym, ap, ap₂, ◌∙◌}
use mathlib.Core.List.{List, [], ◌∷◌, ◌++◌, append_assoc}
use native.Mathlib.Nat.{lt_of_lt_of_le}
use native.Mathlib.Omega.{arith}
use lib.Dec.{lit≤}
use lib.ListN.{length, get_or, take, drop, length-append}
use lib.Seq.{drop-cons, drop-drop, drop-append-add, drop-length}
use Rattle.octets.specs.Octets.{number, big_endian, part, number_at}
use Rattle.octets.proofs.Numbers.{number-big_endian}
use Rattle.octets.proofs.Stores.{number_at-before, number_at-behind}
use Rattle.allowance.specs.Bucket.{capacity, Bucket}
use Rattle.rules.specs.Sizes.{partners, allowance_bytes, allowances_size, time_limit}
use Rattle.rules.specs.Tables.{allowance_at, updated_at, term_at, bucket_of, clock, stored_term, named_term, bucket_bytes, set_bucket, set_clock}
use Rattle.journal.specs.Plain.{Levels, level_records, level_table}

-- a record's bytes: eight of the level, eight of the time
length-bucket : (b : Bucket) → length (bucket_bytes b) ≡ allowance_bytes
unfolding bucket_bytes big_endian
length-bucket b = refl

-- the term stays where a partner's record or the clock is stored
pub term_bucket : (al : List ℕ) (p : ℕ) (b : Bucket) → p < partners → stored_term (set_bucket al p b) ≡ stored_term al
unfolding stored_term
term_bucket al p b h = number_at-behind al (allowance_at p) (bucket_bytes b) term_at 8 (rw (length-bucket b) (omega arith))

pub term_clock : (al : List ℕ) (now : ℕ) → stored_term (set_clock al now) ≡ stored_term al
unfolding stored_term
term_clock al now = number_at-before al (updated_at partners) (big_endian 8 now) term_at 8 (omega arith)

-- the records from the p-th on
records-from : (time : ℕ) (levels rest : List ℕ) (p : ℕ) → p ≤ length levels
    → drop (allowance_at p) (level_records time levels ++ rest) ≡ level_records time (drop p levels) ++ rest
unfolding level_records
records-from time levels rest zero h = refl
records-from time [] rest (suc p) h = absurd (omega arith)
records-from time (level ∷ levels) rest (suc p) h =
    let first : List ℕ = bucket_bytes (record { level = level; updated = time }) in
    let at : allowance_at (suc p) ≡ length first + allowance_at p = omega (arith, length-bucket (record { level = level; updated = time })) in
    rw (at, append_assoc first (level_records time levels) rest, drop-append-add first (level_records time levels ++ rest) (allowance_at p))
    (records-from time levels rest p (omega arith))

pub length-records : (time : ℕ) (levels : List ℕ) → length (level_records time levels) ≡ allowance_at (length levels)
unfolding level_records
length-records time [] = refl
length-records time (level ∷ levels) =
    let b : Bucket = record { level = level; updated = time } in
    length-append (bucket_bytes b) (level_records time levels) ∙ rw (length-bucket b, length-records time levels) (omega arith)

module _ (term : ℕ) (s : Levels) (counted : length s.levels ≡ partners) (timely : s.clock < time_limit) where
  in_cell : s.clock < 256 ^ 8
  in_cell = lt_of_lt_of_le timely (lit≤ tt)

  abbrev ninth : List ℕ
  ninth = big_endian 8 (named_term term) ++ big_endian 8 s.clock

  pub table_size : length (level_table term s) ≡ allowances_size
  unfolding level_table big_endian
  table_size = length-append (level_records s.clock s.levels) ninth ∙ rw (length-records s.clock s.levels, counted)

  from_ninth : drop (allowance_at partners) (level_table term s) ≡ ninth
  unfolding level_table level_records
  from_ninth =
      let none : drop partners s.levels ≡ [] = ap (λ (n : ℕ). drop n s.levels) (sym counted) ∙ drop-length s.levels in
      records-from s.clock s.levels ninth partners (omega arith) ∙ rw none

  pub table_clock : clock (level_table term s) ≡ s.clock
  unfolding clock number_at part big_endian
  table_clock =
      ap (λ (l : List ℕ). number (take 8 l)) (sym (drop-drop 8 (allowance_at partners) (level_table term s)) ∙ ap (drop 8) from_ninth)
      ∙ number-big_endian 8 s.clock in_cell

  pub table_term : named_term term < 256 ^ 8 → stored_term (level_table term s) ≡ named_term term
  unfolding stored_term number_at part big_endian
  table_term c = ap (λ (l : List ℕ). number (take 8 l)) from_ninth ∙ number-big_endian 8 (named_term term) c

  pub table_bucket : (p : ℕ) → p < partners → get_or s.levels p 0 ≤ capacity
      → bucket_of (level_table term s) p ≡ record { level = get_or s.levels p 0; updated = s.clock }
  unfolding level_table level_records bucket_bytes bucket_of number_at part big_endian
  table_bucket p p< c =
      ap₂ (λ (l u : ℕ). record { level = l; updated = u })
      (ap (λ (l : List ℕ). number (take 8 l)) here ∙ number-big_endian 8 (get_or s.levels p 0) (omega arith))
      (ap (λ (l : List ℕ). number (take 8 l)) (sym (drop-drop 8 (allowance_at p) (level_table term s)) ∙ ap (drop 8) here)
      ∙ number-big_endian 8 s.clock in_cell)
    where
      here : drop (allowance_at p) (level_table term s)
          ≡ bucket_bytes (record { level = get_or s.levels p 0; updated = s.clock }) ++ (level_records s.clock (drop (suc p) s.levels) ++ ninth)
      here =
          records-from s.clock s.levels ninth p (omega arith)
          ∙ rw (drop-cons s.levels p 0 (omega arith))
