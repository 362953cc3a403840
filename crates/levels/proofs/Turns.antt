-- The turns of the loops over levels, and the table that they store. Assumes nothing.
use Prim.Native.Nat.{ℕ, zero, suc, ◌+◌, min, ◌<◌}
use mathlib.Core.Path.{◌≡◌, refl, sym, ap, ◌∙◌}
use mathlib.Core.List.{List, [], ◌∷◌, ◌++◌, append_assoc, append-nil}
use native.Mathlib.Numerals.{add-one}
use native.Mathlib.Omega.{arith}
use Rattle.std.specs.List.{All}
use Rattle.std.proofs.lemmas.List.Elements.{All-get_or}
use lib.ListN.{length, get_or, set, take, drop, length-append}
use lib.Seq.{append_snoc, take-suc, take-suc-set, take-length, drop-cons, drop-length, drop-set-lt, length-take-le}
use Rattle.octets.specs.Octets.{big_endian, put}
use Rattle.octets.proofs.Numbers.{length-big_endian}
use Rattle.octets.proofs.Stores.{put-behind, put_whole, put-none}
use Rattle.allowance.specs.Bucket.{capacity, refill_rate, Bucket}
use Rattle.rules.specs.Sizes.{partners, allowances_size}
use Rattle.rules.specs.Tables.{allowance_at, updated_at, term_at, named_term, set_bucket, bucket_bytes}
use Rattle.journal.specs.Plain.{filled_once, filled, level_records, level_table}
use Rattle.journal.proofs.Filling.{full-stays}
use Rattle.journal.proofs.LevelTables.{length-records}

-- ---- a second for each level: what is left of it

pub fill_turn : (levels : List ℕ) (p v : ℕ) → p < length levels → v ≡ min capacity (get_or levels p 0 + refill_rate)
    → take (p + 1) (set levels p v) ++ filled_once (drop (p + 1) (set levels p v)) ≡ take p levels ++ filled_once (drop p levels)
unfolding filled_once
fill_turn levels p v h e =
    rw (add-one p, take-suc-set levels p v h, drop-set-lt (suc p) levels p v (omega arith), drop-cons levels p 0 h, ← e)
    (append_snoc (take p levels) v (filled_once (drop (suc p) levels)))

pub fill_end : (levels : List ℕ) (p : ℕ) → p ≡ length levels → take p levels ++ filled_once (drop p levels) ≡ levels
unfolding filled_once
fill_end levels p e = rw (e, take-length levels, drop-length levels) (append-nil levels)

-- ---- the seconds that are left

pub one_less : (left rest : ℕ) (levels : List ℕ) → left ≡ rest + 1 → filled rest (filled_once levels) ≡ filled left levels
unfolding filled
one_less left rest levels e = rw (e, add-one rest)

pub none_left : (left : ℕ) (levels : List ℕ) → left ≡ 0 → filled left levels ≡ levels
unfolding filled
none_left left levels e = rw e

-- of one level
pub level_turn : (left rest level next : ℕ) → left ≡ rest + 1 → next ≡ min capacity (level + refill_rate) → filled rest (next ∷ []) ≡ filled left (level ∷ [])
unfolding filled_once
level_turn left rest level next h e = rw e (one_less left rest (level ∷ []) h)

-- full ones stay
pub all-full : (left : ℕ) (levels : List ℕ) → All (λ level. level ≡ capacity) levels → filled left levels ≡ levels
all-full left levels full = full-stays left levels (λ p h. All-get_or (λ level. level ≡ capacity) levels p 0 h full)

pub level-full : (left level : ℕ) → level ≡ capacity → filled left (level ∷ []) ≡ level ∷ []
level-full left level e = full-stays left (level ∷ []) at
  where
    at : (p : ℕ) → p < 1 → get_or (level ∷ []) p 0 ≡ capacity
    at zero h = e
    at (suc p) h = absurd (omega arith)

-- ---- the table

records-append : (time : ℕ) (xs ys : List ℕ) → level_records time (xs ++ ys) ≡ level_records time xs ++ level_records time ys
unfolding level_records
records-append time [] ys = refl
records-append time (x ∷ xs) ys =
    let b : Bucket = record { level = x; updated = time } in
    ap (λ (l : List ℕ). bucket_bytes b ++ l) (records-append time xs ys) ∙ sym (append_assoc (bucket_bytes b) (level_records time xs) (level_records time ys))

pub no_records : (al : List ℕ) (time : ℕ) → al ≡ put al 0 (level_records time [])
unfolding level_records
no_records al time = sym (put-none al 0)

-- one record more
pub store_turn : (al levels before after : List ℕ) (time p : ℕ) → p < length levels → before ≡ put al 0 (level_records time (take p levels))
    → after ≡ set_bucket before p (record { level = get_or levels p 0; updated = time }) → after ≡ put al 0 (level_records time (take (p + 1) levels))
unfolding level_records
store_turn al levels before after time p h e f =
    let b : Bucket = record { level = get_or levels p 0; updated = time } in
    let len : length (level_records time (take p levels)) ≡ allowance_at p = length-records time (take p levels) ∙ rw (length-take-le p levels (omega arith)) in
    let from : allowance_at p ≡ 0 + allowance_at p = omega arith in
    rw (f, e, add-one p, take-suc levels p 0 h, records-append time (take p levels) (get_or levels p 0 ∷ []), append-nil (bucket_bytes b))
    (ap (λ (k : ℕ). put (put al 0 (level_records time (take p levels))) k (bucket_bytes b)) from
    ∙ put-behind al 0 (allowance_at p) (level_records time (take p levels)) (bucket_bytes b) len)

-- behind them the term and the clock
pub table_stored : (al levels a₁ a₂ a₃ : List ℕ) (time term kept : ℕ) → length al ≡ allowances_size → length levels ≡ partners → kept ≡ named_term term
    → a₁ ≡ put al 0 (level_records time levels) → a₂ ≡ put a₁ term_at (big_endian 8 kept) → a₃ ≡ put a₂ (updated_at partners) (big_endian 8 time)
    → a₃ ≡ level_table term (record { clock = time; levels = levels })
unfolding level_table
table_stored al levels a₁ a₂ a₃ time term kept size counted named e₁ e₂ e₃ =
    let rows : length (level_records time levels) ≡ term_at = length-records time levels ∙ rw counted in
    let ninth : List ℕ = big_endian 8 kept ++ big_endian 8 time in
    let whole : length (level_records time levels ++ ninth) ≡ length al = simp (length-append, length-big_endian, rows) (omega arith) in
    rw (← named, e₃, e₂, e₁)
    (put-behind (put al 0 (level_records time levels)) term_at 8 (big_endian 8 kept) (big_endian 8 time) (length-big_endian 8 kept)
    ∙ put-behind al 0 term_at (level_records time levels) ninth rows
    ∙ put_whole al (level_records time levels ++ ninth) whole)
