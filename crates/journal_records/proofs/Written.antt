-- The sixteen bytes of a record, over plain values. Assumes nothing.
use Prim.Native.Nat.{ℕ, ◌%◌, ◌<◌}
use mathlib.Core.Path.{◌≡◌, ap, ◌∙◌}
use mathlib.Core.List.{List, [], ◌∷◌, ◌++◌}
use native.Mathlib.Omega.{arith}
use lib.ListN.{get_or}
use Rattle.octets.specs.Octets.{big_endian}
use Rattle.journal.specs.Records.{Record, written}

-- a number of one byte
byte_of : (v : ℕ) → big_endian 1 v ≡ v % 256 ∷ []
unfolding big_endian
byte_of v = ap (λ (x : ℕ). x ∷ []) (omega arith)

byte_is : (v : ℕ) → v < 256 → big_endian 1 v ≡ v ∷ []
unfolding big_endian
byte_is v h = ap (λ (x : ℕ). x ∷ []) (omega arith)

-- eight bytes, one by one, before others
eight : (v : ℕ) (xs rest : List ℕ) → xs ≡ big_endian 8 v
    → get_or xs 0 0
    ∷ get_or xs 1 0
    ∷ get_or xs 2 0
    ∷ get_or xs 3 0
    ∷ get_or xs 4 0
    ∷ get_or xs 5 0
    ∷ get_or xs 6 0
    ∷ get_or xs 7 0
    ∷ rest
    ≡ big_endian 8 v ++ rest
unfolding big_endian
eight v xs rest h = rw h

-- the lowest four bytes of a number's eight are its four
low : (v : ℕ) (xs : List ℕ) → xs ≡ big_endian 8 v → get_or xs 4 0 ∷ get_or xs 5 0 ∷ get_or xs 6 0 ∷ get_or xs 7 0 ∷ [] ≡ big_endian 4 v
unfolding big_endian
low v xs h = rw h

pub assembled : (r : Record) (t p : List ℕ) → t ≡ big_endian 8 r.time → p ≡ big_endian 8 r.charge → r.call < 256 → r.kind < 256
    → get_or t 0 0
    ∷ get_or t 1 0
    ∷ get_or t 2 0
    ∷ get_or t 3 0
    ∷ get_or t 4 0
    ∷ get_or t 5 0
    ∷ get_or t 6 0
    ∷ get_or t 7 0
    ∷ r.connection % 256
    ∷ r.call
    ∷ r.kind
    ∷ r.answer % 256
    ∷ get_or p 4 0
    ∷ get_or p 5 0
    ∷ get_or p 6 0
    ∷ get_or p 7 0
    ∷ []
    ≡ written r
unfolding written
assembled r t p ht hp hc hk =
    eight r.time t _ ht
    ∙ rw (low r.charge p hp, byte_of r.connection, byte_is r.call hc, byte_is r.kind hk, byte_of r.answer)
