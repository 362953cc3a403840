-- The words of the laws on bytes: the bytes of a record, which bytes of a table are the same, and which alone may have changed.
use Rattle.std.specs.Prelude.{ℕ, ◌+◌, ◌*◌, ◌≤◌, ◌<◌, ◌≡◌, List, length}
use Rattle.octets.specs.Octets.{byte_at, part}
use Rattle.rules.specs.Sizes.{connection_bytes, lease_bytes}
use Rattle.rules.specs.Tables.{connection_at, lease_at}

-- Two lists are as long, and have the same bytes at the places of which P holds.
pub record SameAt (P : ℕ → Type 0) (xs ys : List ℕ) : Type 0 where
  pub long : length xs ≡ length ys
  pub at : (i : ℕ) → P i → byte_at xs i ≡ byte_at ys i

-- "bytes that it doesn't name stay": the second is the first but for bytes at places of which P holds.
abbrev pub ChangedOnly : (ℕ → Type 0) → List ℕ → List ℕ → Type 0
ChangedOnly P xs ys = SameAt (λ i. P i → ⊥) xs ys

-- Place i of a table is one of the n bytes from byte `from` on of record k, where a record has so many bytes.
abbrev pub InField : (size k from n : ℕ) → ℕ → Type 0
InField size k from n i = (size * k + from ≤ i) × (i < size * k + from + n)

-- the bytes of a record
abbrev pub connection_record : List ℕ → ℕ → List ℕ
connection_record cs c = part cs (connection_at c) connection_bytes

abbrev pub lease_record : List ℕ → ℕ → List ℕ
lease_record ls r = part ls (lease_at r) lease_bytes
