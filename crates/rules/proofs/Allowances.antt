-- The allowance table: what stands in it after a store, and in a fresh one. Assumes nothing.
use Prim.Native.Nat.{ℕ, zero, suc, ◌+◌, ◌*◌, ◌^◌, ◌≤◌, ◌<◌}
use mathlib.Core.Path.{◌≡◌, refl, sym, ap, ap₂, ◌∙◌}
use mathlib.Core.Logic.{◌≢◌}
use mathlib.Core.List.{List, ◌++◌, append_assoc}
use native.Mathlib.Nat.{mul-zero, zero-add, mul-suc, add_comm, add_assoc, add-zero, lt_of_lt_of_le}
use native.Mathlib.Omega.{arith}
use native.Mathlib.Decide.{dec_lt}
use lib.Dec.{lit<, lit≤}
use lib.ListN.{length, take, drop, length-drop}
use lib.Seq.{take-append-le, drop-append-le, drop-append-add}
use Rattle.octets.specs.Octets.{number, big_endian, part, number_at, put}
use Rattle.octets.proofs.Numbers.{length-big_endian, number-big_endian}
use Rattle.octets.proofs.Stores.{length-put, put-append, number_at-put, number_at-before, number_at-behind}
use Rattle.allowance.specs.Bucket.{capacity, Bucket, full}
use Rattle.rules.specs.Sizes.{partners, allowance_bytes, allowances_size, time_limit}
use Rattle.rules.specs.Tables.{allowance_at, updated_at, bucket_of, clock, stored_term, named_term, bucket_bytes, set_bucket, set_clock, records, fresh}

-- A number that a cell of eight bytes holds.
abbrev Cell : ℕ → Type 0
Cell v = v < 256 ^ 8

-- ---- after a store

length-bucket : (b : Bucket) → length (bucket_bytes b) ≡ allowance_bytes
unfolding bucket_bytes big_endian
length-bucket b = refl

-- A record is stored cell by cell.
set_cells : (al : List ℕ) (p : ℕ) (b : Bucket)
    → set_bucket al p b ≡ put (put al (allowance_at p) (big_endian 8 b.level)) (updated_at p) (big_endian 8 b.updated)
unfolding bucket_bytes
set_cells al p b =
    sym (put-append al (allowance_at p) (big_endian 8 b.level) (big_endian 8 b.updated))
    ∙ rw (length-big_endian 8 b.level)

module _ (al : List ℕ) (size : length al ≡ allowances_size) where
  pub bucket-set : (p : ℕ) (b : Bucket) → p < partners → Cell b.level → Cell b.updated → bucket_of (set_bucket al p b) p ≡ b
  unfolding bucket_of
  bucket-set p b p< hl hu =
      rw (set_cells al p b)
      (ap₂ (λ (l u : ℕ). record { level = l; updated = u })
      (number_at-before _ (updated_at p) (big_endian 8 b.updated) (allowance_at p) 8 (omega arith)
      ∙ number_at-put al (allowance_at p) 8 b.level (omega arith) hl)
      (number_at-put _ (updated_at p) 8 b.updated (rw (length-put al (allowance_at p) (big_endian 8 b.level)) (omega arith)) hu))

  pub clock-set : (now : ℕ) → Cell now → clock (set_clock al now) ≡ now
  unfolding clock
  clock-set now h = number_at-put al (updated_at partners) 8 now (omega arith) h

-- The records of others stay, and so does every record where the clock is stored.
pub bucket-other : (al : List ℕ) (q : ℕ) (b : Bucket) (p : ℕ) → p ≢ q → bucket_of (set_bucket al q b) p ≡ bucket_of al p
unfolding bucket_of
bucket-other al q b p n = go (dec_lt p q)
  where
    cell : (at : ℕ) → allowance_at p ≤ at → at + 8 ≤ allowance_at p + allowance_bytes → Dec (p < q)
        → number_at (set_bucket al q b) at 8 ≡ number_at al at 8
    cell at low high (yes l) = number_at-before al (allowance_at q) (bucket_bytes b) at 8 (omega arith)
    cell at low high (no l) = number_at-behind al (allowance_at q) (bucket_bytes b) at 8 (rw (length-bucket b) (omega arith))

    go : Dec (p < q) → bucket_of (set_bucket al q b) p ≡ bucket_of al p
    go d =
        ap₂ (λ (l u : ℕ). record { level = l; updated = u })
        (cell (allowance_at p) (omega arith) (omega arith) d)
        (cell (updated_at p) (omega arith) (omega arith) d)

pub bucket-clocked : (al : List ℕ) (now p : ℕ) → p < partners → bucket_of (set_clock al now) p ≡ bucket_of al p
unfolding bucket_of
bucket-clocked al now p p< =
    ap₂ (λ (l u : ℕ). record { level = l; updated = u })
    (number_at-before al (updated_at partners) (big_endian 8 now) (allowance_at p) 8 (omega arith))
    (number_at-before al (updated_at partners) (big_endian 8 now) (updated_at p) 8 (omega arith))

-- ---- in a fresh table

part-append : (xs ys : List ℕ) (at n : ℕ) → at + n ≤ length xs → part (xs ++ ys) at n ≡ part xs at n
unfolding part
part-append xs ys at n h = rw (drop-append-le at xs ys (omega arith)) (take-append-le n (drop at xs) ys (simp length-drop (omega arith)))

-- Each of several equal records.
pub part-records : (r rest : List ℕ) (at n : ℕ) → at + n ≤ length r → (count k : ℕ) → k < count
    → part (records count r ++ rest) (length r * k + at) n ≡ part r at n
unfolding records part
part-records r rest at n h zero k l = absurd (omega arith)
part-records r rest at n h (suc count) zero l =
    rw (mul-zero, zero-add, append_assoc) (part-append r (records count r ++ rest) at n h)
part-records r rest at n h (suc count) (suc k) l =
    rw (mul-suc (length r) k, add_comm (length r * k) (length r), add_assoc, append_assoc r (records count r) rest)
    (ap (take n) (drop-append-add r (records count r ++ rest) (length r * k + at)) ∙ part-records r rest at n h count k (omega arith))

in_cell : (now : ℕ) → now < time_limit → Cell now
in_cell now h = lt_of_lt_of_le h (lit≤ tt)

module _ (now term : ℕ) (h : now < time_limit) where
  fresh_cell : (p at : ℕ) → p < partners → at + 8 ≤ allowance_bytes
      → number_at (fresh now term).allowances (allowance_at p + at) 8 ≡ number_at (bucket_bytes (full now)) at 8
  unfolding fresh number_at bucket_bytes big_endian
  fresh_cell p at p< l =
      ap number (part-records (bucket_bytes (full now)) (big_endian 8 (named_term term) ++ big_endian 8 now) at 8 l partners p p<)

  fresh-level : (p : ℕ) → p < partners → number_at (fresh now term).allowances (allowance_at p) 8 ≡ capacity
  unfolding number_at bucket_bytes big_endian part
  fresh-level p p< =
      ap (λ (at : ℕ). number_at (fresh now term).allowances at 8) (sym (add-zero (allowance_at p)))
      ∙ fresh_cell p 0 p< (lit≤ tt)
      ∙ number-big_endian 8 capacity (lit< tt)

  fresh-updated : (p : ℕ) → p < partners → number_at (fresh now term).allowances (updated_at p) 8 ≡ now
  unfolding number_at bucket_bytes big_endian part
  fresh-updated p p< = fresh_cell p 8 p< (lit≤ tt) ∙ number-big_endian 8 now (in_cell now h)

  pub fresh-bucket : (p : ℕ) → p < partners → bucket_of (fresh now term).allowances p ≡ full now
  unfolding bucket_of
  fresh-bucket p p< = ap₂ (λ (l u : ℕ). record { level = l; updated = u }) (fresh-level p p<) (fresh-updated p p<)

  pub fresh_term : Cell (named_term term) → stored_term (fresh now term).allowances ≡ named_term term
  unfolding stored_term fresh number_at records bucket_bytes big_endian part
  fresh_term c = number-big_endian 8 (named_term term) c

  pub fresh-clock : clock (fresh now term).allowances ≡ now
  unfolding clock fresh number_at records bucket_bytes big_endian part
  fresh-clock = number-big_endian 8 now (in_cell now h)
