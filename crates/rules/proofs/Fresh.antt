-- Fresh tables as 01 draws them, byte by byte. Assumes nothing.
use Rattle.std.specs.Prelude.{if◌then◌else◌}
use Prim.Native.Nat.{ℕ, zero, suc, ◌+◌, ◌*◌, ◌^◌, ◌<◌}
use mathlib.Core.Path.{◌≡◌, refl, sym, ap, ◌∙◌}
use mathlib.Core.Bool.{Bool, true, false}
use mathlib.Core.List.{List, [], ◌∷◌, ◌++◌, append-nil}
use native.Mathlib.Omega.{arith}
use native.Mathlib.Decide.{ℕ_discrete}
use lib.Dec.{eqb, lit<}
use lib.ListN.{length, replicate}
use borrow.Author.Tests.{eq-eqb, ne_eqb}
use Rattle.octets.specs.Octets.{byte_at, part, big_endian}
use Rattle.rules.specs.Sizes.{partners, connection_count, row_count, lease_bytes, time_limit}
use Rattle.rules.specs.Tables.{lease_at, bucket_of, clock, stored_term, named_term, records, fresh_connection, fresh_lease, bucket_bytes, fresh}
use Rattle.rules.specs.Effects.{FreshBut}
use Rattle.rules.specs.Refusals.{RightSizes}
use Rattle.rules.specs.Bytes.{connection_record}
use Rattle.rules.proofs.Records.{byte_part}
use Rattle.rules.proofs.Connections.{fresh_record}
use Rattle.rules.proofs.Allowances.{part-records, fresh-bucket, fresh_term, fresh-clock}

-- each of several equal records, with nothing behind them
whole_record : (r : List ℕ) (count k : ℕ) → k < count → part (records count r) (length r * k) (length r) ≡ part r 0 (length r)
whole_record r count k h =
    let z : length r * k + 0 ≡ length r * k = omega arith in
    rw (z, append-nil (records count r)) at (part-records r [] 0 (length r) (omega arith) count k h)

pub fresh-whole : (now term c : ℕ) → c < connection_count → connection_record (fresh now term).connections c ≡ fresh_connection
unfolding fresh part
fresh-whole now term c h = whole_record fresh_connection connection_count c h

-- "connections all zero but byte 1 = 255"
pub fresh-connection : (now term c : ℕ) → c < connection_count → FreshBut 0 (fresh now term).connections c
fresh-connection now term c h = fresh_record _ c (fresh-whole now term c h)

-- all zero, and all zero but one byte
pub zeros : (k i : ℕ) → byte_at (replicate k 0) i ≡ 0
zeros zero i = refl
zeros (suc k) zero = refl
zeros (suc k) (suc i) = zeros k i

one_byte : (n v k i : ℕ) → byte_at (replicate n 0 ++ (v ∷ replicate k 0)) i ≡ (if eqb i n then v else 0)
one_byte zero v k zero = refl
one_byte zero v k (suc i) = rw (ne_eqb (suc i) 0 (λ e. omega arith)) (zeros k i)
one_byte (suc n) v k zero = rw (ne_eqb 0 (suc n) (λ e. omega arith))
one_byte (suc n) v k (suc i) = one_byte n v k i ∙ go (ℕ_discrete i n)
  where
    go : Dec (i ≡ n) → (if eqb i n then v else 0) ≡ (if eqb (suc i) (suc n) then v else 0)
    go (yes e) = rw (eq-eqb i n e, eq-eqb (suc i) (suc n) (ap suc e))
    go (no d) = rw (ne_eqb i n d, ne_eqb (suc i) (suc n) (λ e. d (omega arith)))

-- "leases all zero but byte 12 = 255"
pub fresh-row : (now term r : ℕ) → r < row_count → (i : ℕ) → i < lease_bytes
    → byte_at (fresh now term).leases (lease_at r + i) ≡ (if eqb i 12 then 255 else 0)
unfolding fresh part
fresh-row now term r h i l =
    sym (byte_part (records row_count fresh_lease) (lease_at r) lease_bytes i l)
    ∙ ap (λ (x : List ℕ). byte_at x i) (whole_record fresh_lease row_count r h)
    ∙ one_byte 12 255 27 i

-- "the eight partners' levels 262,144, .. every moment t"
pub fresh_allowance : (now term p : ℕ) → now < time_limit → p < partners
    → bucket_of (fresh now term).allowances p ≡ record { level = 262144; updated = now }
fresh_allowance now term p t h = fresh-bucket now term t p h

-- the ninth: the term, "naming 0 means 600", and the time
pub fresh_ninth : (now term : ℕ) → now < time_limit → term < 2 ^ 64
    → (stored_term (fresh now term).allowances ≡ (if eqb term 0 then 600 else term)) × (clock (fresh now term).allowances ≡ now)
unfolding named_term
fresh_ninth now term h t = (fresh_term now term h (in_cell (eqb term 0)), fresh-clock now term h)
  where
    in_cell : (b : Bool) → (if b then 600 else term) < 256 ^ 8
    in_cell true = lit< tt
    in_cell false = omega arith

-- and no byte more
pub fresh-sizes : (now term : ℕ) → RightSizes (fresh now term)
unfolding fresh records bucket_bytes big_endian
fresh-sizes now term = record { connections = refl; leases = refl; allowances = refl }
