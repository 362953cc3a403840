-- How many bytes of a chunk are a header's. Assumes nothing.
use Rattle.std.specs.Prelude.{if◌then◌else◌, Ok, Err}
use Prim.Native.Nat.{ℕ, ◌+◌, ◌≤◌}
use mathlib.Core.Path.{◌≡◌, refl}
use mathlib.Core.Bool.{Bool, true, false}
use mathlib.Core.List.{List, [], ◌∷◌}
use native.Mathlib.Omega.{arith}
use lib.Dec.{eqb}
use borrow.Author.Tests.{ne_eqb}
use Rattle.framing.specs.Frames.{frame_type}
use Rattle.frame_headers.specs.Headers.{Read, reached, refused_byte, behind, used, read_type, read_low, read_header}

-- ---- how many bytes are taken at most

used_behind : (r : Read) → used (behind r) ≡ 1 + used r
used_behind (Ok h) = refl
used_behind (Err bad) = refl

pub type_used : (size : ℕ) (xs : List ℕ) → used (read_type size xs) ≤ 1
unfolding read_type
type_used size [] = omega arith
type_used size (x ∷ xs) = go (eqb x frame_type)
  where
    go : (t : Bool) → used (if t then reached 1 3 size else refused_byte) ≤ 1
    go true = omega arith
    go false = omega arith

pub low_used : (size : ℕ) (xs : List ℕ) → used (read_low size xs) ≤ 2
unfolding read_low
low_used size [] = omega arith
low_used size (x ∷ xs) = go (eqb (size + x) 0)
  where
    go : (t : Bool) → used (if t then refused_byte else behind (read_type (size + x) xs)) ≤ 2
    go true = omega arith
    go false = omega (arith, type_used (size + x) xs, used_behind (read_type (size + x) xs))

-- with the header there, nothing is missing
pub from-header : (taken size : ℕ) (chunk : List ℕ) → 3 ≤ taken → reached 0 taken size ≡ read_header taken size chunk
unfolding read_header
from-header taken size chunk l = rw (ne_eqb taken 0 (λ e. absurd (omega (arith, e, l))), ne_eqb taken 1 (λ e. absurd (omega (arith, e, l))), ne_eqb taken 2 (λ e. absurd (omega (arith, e, l))))
