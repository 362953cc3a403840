-- Records in a row: one more, all of them, and the tables of a fresh relay. Assumes nothing.
use Prim.Native.Nat.{ℕ, zero, suc, ◌+◌, ◌*◌}
use mathlib.Core.Path.{◌≡◌, sym, ap, ◌∙◌}
use mathlib.Core.List.{List, ◌++◌, append_assoc, append-nil}
use native.Mathlib.Nat.{zero-mul, suc-mul}
use native.Mathlib.Numerals.{add-one}
use native.Mathlib.Omega.{arith}
use lib.ListN.{length, length-append}
use Rattle.octets.specs.Octets.{big_endian, put}
use Rattle.octets.proofs.Numbers.{length-big_endian}
use Rattle.octets.proofs.Stores.{put-behind, put_whole, put-none}
use Rattle.allowance.specs.Bucket.{Bucket, capacity, full}
use Rattle.rules.specs.Sizes.{partners, allowance_bytes, allowances_size}
use Rattle.rules.specs.Tables.{updated_at, term_at, named_term, records, bucket_bytes, fresh}

pub length-records : (n : ℕ) (row : List ℕ) → length (records n row) ≡ n * length row
unfolding records
length-records zero row = sym (zero-mul (length row))
length-records (suc n) row = rw (length-append row (records n row), length-records n row, suc-mul n (length row)) (omega arith)

records_snoc : (n : ℕ) (row : List ℕ) → records n row ++ row ≡ row ++ records n row
unfolding records
records_snoc zero row = sym (append-nil row)
records_snoc (suc n) row = append_assoc row (records n row) row ∙ ap (λ (l : List ℕ). row ++ l) (records_snoc n row)

-- one turn
pub no_records : (table row : List ℕ) → table ≡ put table 0 (records 0 row)
unfolding records
no_records table row = sym (put-none table 0)

pub one_more : (table row before after : List ℕ) (i at : ℕ) → at ≡ i * length row → before ≡ put table 0 (records i row) → after ≡ put before at row
    → after ≡ put table 0 (records (i + 1) row)
unfolding records
one_more table row before after i at p e f =
    let len : length (records i row) ≡ at = length-records i row ∙ sym p in
    let from : at ≡ 0 + at = omega arith in
    rw (f, e, add-one i)
    (ap (λ (k : ℕ). put (put table 0 (records i row)) k row) from
    ∙ put-behind table 0 at (records i row) row len
    ∙ ap (put table 0) (records_snoc i row))

-- ---- whole tables

-- records that fill a table take its place
pub filled : (table row after : List ℕ) (count : ℕ) → length table ≡ count * length row → after ≡ put table 0 (records count row) → after ≡ records count row
filled table row after count l e = e ∙ put_whole table (records count row) (length-records count row ∙ sym l)

-- an allowance record, as it is written
bucket-row : (level time : ℕ) (r₀ r₁ r₂ : List ℕ) → length r₀ ≡ allowance_bytes → r₁ ≡ put r₀ 0 (big_endian 8 level) → r₂ ≡ put r₁ 8 (big_endian 8 time)
    → r₂ ≡ bucket_bytes (record { level = level; updated = time })
unfolding bucket_bytes
bucket-row level time r₀ r₁ r₂ l e₁ e₂ =
    let len : length (big_endian 8 level ++ big_endian 8 time) ≡ length r₀ = simp (length-append, length-big_endian) (omega arith) in
    rw (e₂, e₁)
    (put-behind r₀ 0 8 (big_endian 8 level) (big_endian 8 time) (length-big_endian 8 level) ∙ put_whole r₀ (big_endian 8 level ++ big_endian 8 time) len)

length-bucket : (b : Bucket) → length (bucket_bytes b) ≡ allowance_bytes
unfolding bucket_bytes
length-bucket b = simp (length-append, length-big_endian)

-- the allowances: eight full ones, and behind them the term and the clock
pub allowances-filled : (al a₁ a₂ a₃ row₀ row₁ row : List ℕ) (time term kept : ℕ) → length al ≡ allowances_size → length row₀ ≡ allowance_bytes
    → kept ≡ named_term term → row₁ ≡ put row₀ 0 (big_endian 8 capacity) → row ≡ put row₁ 8 (big_endian 8 time) → a₁ ≡ put al 0 (records partners row)
    → a₂ ≡ put a₁ term_at (big_endian 8 kept) → a₃ ≡ put a₂ (updated_at partners) (big_endian 8 time) → a₃ ≡ (fresh time term).allowances
unfolding fresh
allowances-filled al a₁ a₂ a₃ row₀ row₁ row time term kept l l₀ named r₁ r₂ e₁ e₂ e₃ =
    let bucket : row ≡ bucket_bytes (full time) = bucket-row capacity time row₀ row₁ row l₀ r₁ r₂ in
    let rows : length (records partners (bucket_bytes (full time))) ≡ term_at = length-records partners (bucket_bytes (full time)) ∙ rw (length-bucket (full time)) in
    let whole : length (records partners (bucket_bytes (full time)) ++ (big_endian 8 kept ++ big_endian 8 time)) ≡ length al =
    simp (length-append, length-big_endian, rows) (omega arith) in
    rw (← named, e₃, e₂, e₁, bucket)
    (put-behind (put al 0 (records partners (bucket_bytes (full time)))) term_at 8 (big_endian 8 kept) (big_endian 8 time) (length-big_endian 8 kept)
    ∙ put-behind al 0 term_at (records partners (bucket_bytes (full time))) (big_endian 8 kept ++ big_endian 8 time) rows
    ∙ put_whole al (records partners (bucket_bytes (full time)) ++ (big_endian 8 kept ++ big_endian 8 time)) whole)
