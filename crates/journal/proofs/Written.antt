-- Records and journals as bytes: what is written reads back, and what is read is written as it was. Assumes nothing.
use Prim.Native.Nat.{ℕ, zero, suc, ◌+◌, ◌*◌, ◌-◌, ◌/◌, ◌%◌, ◌^◌, ◌≤◌, ◌<◌}
use mathlib.Core.Path.{◌≡◌, refl, sym, ap, ap₂, ◌∙◌}
use mathlib.Core.Bool.{true}
use mathlib.Core.List.{List, [], ◌∷◌, ◌++◌, append_assoc}
use native.Mathlib.Nat.{add-zero}
use native.Mathlib.Omega.{arith}
use lib.ListN.{length, take, drop, length-append, take-append-drop}
use lib.Pow.{are_bytes}
use lib.Seq.{drop-append-add}
use Rattle.octets.specs.Octets.{number, big_endian, part, number_at}
use Rattle.octets.proofs.Numbers.{number-big_endian, number_at-lt, big_endian-number_at}
use Rattle.octets.proofs.Parts.{part_join}
use Rattle.journal.specs.Records.{Record, record_bytes, written, record_at}
use Rattle.journal.specs.Replays.{records_from, records_of, tail_of}
use Rattle.journal.specs.Steps.{journal_bytes}
use Rattle.journal.specs.RecordClaims.{Fits, AllFit, RecordsKept, JournalsKept}

-- ---- one record

length-written : (r : Record) → length (written r) ≡ record_bytes
unfolding written big_endian
length-written r = refl

-- a number whose bytes stand at a place of what comes behind others
field_back : (before rest : List ℕ) (at n v : ℕ) → take n (drop at rest) ≡ big_endian n v → v < 256 ^ n
    → number_at (before ++ rest) (length before + at) n ≡ v
unfolding number_at part
field_back before rest at n v e h = ap (λ (l : List ℕ). number (take n l)) (drop-append-add before rest at) ∙ ap number e ∙ number-big_endian n v h

read_back : (r : Record) → Fits r → (before behind : List ℕ) → record_at (before ++ (written r ++ behind)) (length before) ≡ r
unfolding record_at written big_endian
read_back r f before behind = λ i. record {
  time = (ap (λ (at : ℕ). number_at (before ++ rest) at 8) (sym (add-zero (length before))) ∙ field_back before rest 0 8 r.time refl f.time) i;
  connection = field_back before rest 8 1 r.connection refl f.connection i;
  call = field_back before rest 9 1 r.call refl f.call i;
  kind = field_back before rest 10 1 r.kind refl f.kind i;
  answer = field_back before rest 11 1 r.answer refl f.answer i;
  charge = field_back before rest 12 4 r.charge refl f.charge i;
}
  where
    rest : List ℕ
    rest = written r ++ behind

module _ (j : List ℕ) (place : ℕ) (b : are_bytes j ≡ true) (h : place + record_bytes ≤ length j) where
  read_fits : Fits (record_at j place)
  unfolding record_at
  read_fits = record {
    time = number_at-lt j place 8 b (omega arith);
    connection = number_at-lt j (place + 8) 1 b (omega arith);
    call = number_at-lt j (place + 9) 1 b (omega arith);
    kind = number_at-lt j (place + 10) 1 b (omega arith);
    answer = number_at-lt j (place + 11) 1 b (omega arith);
    charge = number_at-lt j (place + 12) 4 b (omega arith);
  }

  -- a field, in front of what is written behind it
  field_in_front : (at n next k : ℕ) (rest : List ℕ) → at + n ≤ length j → at + n ≡ next → rest ≡ part j next k
      → big_endian n (number_at j at n) ++ rest ≡ part j at (n + k)
  field_in_front at n next k rest l e r = rw (big_endian-number_at j at n b l, r, ← e) (part_join j at n k)

  write_back : written (record_at j place) ≡ part j place record_bytes
  unfolding written record_at
  write_back =
      field_in_front place 8 (place + 8) 8 _ (omega arith) refl
      (field_in_front (place + 8) 1 (place + 9) 7 _ (omega arith) (omega arith)
      (field_in_front (place + 9) 1 (place + 10) 6 _ (omega arith) (omega arith)
      (field_in_front (place + 10) 1 (place + 11) 5 _ (omega arith) (omega arith)
      (field_in_front (place + 11) 1 (place + 12) 4 _ (omega arith) (omega arith) (big_endian-number_at j (place + 12) 4 b (omega arith))))))

pub records-kept : RecordsKept
records-kept = record { sized = length-written; read_back = read_back; fits = read_fits; write_back = write_back }

-- ---- a journal

length_journal : (rs : List Record) → length (journal_bytes rs) ≡ record_bytes * length rs
unfolding journal_bytes
length_journal [] = refl
length_journal (r ∷ rs) = length-append (written r) (journal_bytes rs) ∙ rw (length-written r, length_journal rs) (omega arith)

records-back : (rs : List Record) → AllFit rs → (before : List ℕ) → records_from (before ++ journal_bytes rs) (length before) (length rs) ≡ rs
unfolding records_from journal_bytes
records-back [] f before = refl
records-back (r ∷ rs) f before =
    let next : length (before ++ written r) ≡ length before + record_bytes = length-append before (written r) ∙ rw (length-written r) in
    ap₂ ◌∷◌ (read_back r f.0 before (journal_bytes rs))
    (ap (λ (j : List ℕ). records_from j (length before + record_bytes) (length rs)) (sym (append_assoc before (written r) (journal_bytes rs)))
    ∙ ap (λ (place : ℕ). records_from ((before ++ written r) ++ journal_bytes rs) place (length rs)) (sym next)
    ∙ records-back rs f.1 (before ++ written r))

bytes_back : (j : List ℕ) → are_bytes j ≡ true → (n place : ℕ) → place + record_bytes * n ≤ length j
    → journal_bytes (records_from j place n) ≡ part j place (record_bytes * n)
unfolding records_from journal_bytes part
bytes_back j b zero place h = refl
bytes_back j b (suc n) place h =
    let e : record_bytes * suc n ≡ record_bytes + record_bytes * n = omega arith in
    rw (write_back j place b (omega arith), bytes_back j b n (place + record_bytes) (omega arith), e) (part_join j place record_bytes (record_bytes * n))

pub journals_kept : JournalsKept
unfolding records_of tail_of part
journals_kept = record {
  sized = length_journal;
  read_back = λ rs f.
      let n : length (journal_bytes rs) / record_bytes ≡ length rs = omega (arith, length_journal rs) in
      rw n (records-back rs f []);
  no_tail = λ rs. omega (arith, length_journal rs);
  write_back = λ j b.
      let whole : length j - length j % record_bytes ≡ record_bytes * (length j / record_bytes) = omega arith in
      rw (bytes_back j b (length j / record_bytes) 0 (omega arith), whole) (take-append-drop (record_bytes * (length j / record_bytes)) j);
}
