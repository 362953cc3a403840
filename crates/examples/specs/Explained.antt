-- Reasons worked out by hand (02, Item 1), as C has them: a row has what the definitions give and what must be said.
use Rattle.std.specs.Prelude.{ℕ, ◌≡◌, List, [], ◌∷◌, ◌++◌, map, replicate, ℤ, pos, negsuc}
use Rattle.octets.specs.Octets.{big_endian}
use Rattle.rules.specs.Sizes.{row_count}
use Rattle.rules.specs.Tables.{Tables, lent, records, fresh}
use Rattle.rules.specs.Calls.{Call, opening, message, closing, keepalive}
use Rattle.rules.specs.Reasons.{asked, decided, headroom, explain}
use Rattle.reasons.specs.declared.Reason.{Reason}
use Rattle.reasons.specs.Coded.{coded}
use Rattle.examples.specs.Computed.{computed}
use Rattle.examples.specs.Examples.{buffer, random, free, leased, joined, with_level}

pub record Row : Type 0 where
  pub given : Reason
  pub said : Reason

-- in every row, what is given is what is said
abbrev pub Told : List Row → Type 0
Told table = map (λ (r : Row). r.given) table ≡ map (λ (r : Row). r.said) table

abbrev row : Tables → Call → ℕ → ℕ → ℕ → ℕ → ℤ → Row
row tables call check request condition charged headroom = record {
  given = coded (explain tables call);
  said = record { check = check; request = request; condition = condition; charged = charged; headroom = headroom };
}

-- connection c sends m, with such a cookie among its random bytes, and every candidate is id 1
unfoldable pub candidates : List ℕ
unfolding computed
candidates = records 14 (big_endian 4 1)

abbrev asks : ℕ → List ℕ → List ℕ → Call
asks c cookie m = message 100 c m (cookie ++ candidates) buffer buffer

-- connection 0 has leased id 1, with a cookie of nines (`leased`); another cookie
abbrev nines : List ℕ
nines = replicate 24 9

abbrev eights : List ℕ
eights = replicate 24 8

-- connections 0 and 1 are open, and every row is live
unfoldable pub full : Tables
unfolding computed random free
full = lent free.connections (records row_count (big_endian 8 200 ++ replicate 32 7)) free.allowances

unfoldable pub explained : List Row
unfolding computed random free leased joined with_level candidates full asked decided headroom explain
explained =
    -- Fresh at 100: an open has headroom 262,099.
    row (fresh 100 0) (opening 100 0 buffer) 0 0 0 1 (pos 262099)
    -- Level 20: an open is 25 short; level 10: a lease without cookie, which would be granted, is 62 short, and has decided nothing.
    ∷ row (with_level (fresh 100 0) 20 100) (opening 100 0 buffer) 9 0 0 1 (negsuc 24)
    ∷ row (with_level free 10 100) (asks 0 eights (2 ∷ 0 ∷ [])) 9 0 0 1 (negsuc 61)
    -- A row held live by the caller, and the drawn cookie and every candidate live too: condition 1; the same for another caller of the
    -- partner: 3; with a new cookie: 4; all sixteen rows live: 2. What is left: opens of 45, answers of 34, a lease of 72; refused leases
    -- cost 36.
    ∷ row leased (asks 0 nines (2 ∷ 0 ∷ [])) 0 1 1 1 (pos 261878)
    ∷ row leased (asks 1 nines (2 ∷ 0 ∷ [])) 0 1 3 1 (pos 261878)
    ∷ row leased (asks 1 eights (2 ∷ 0 ∷ [])) 0 1 4 1 (pos 261878)
    ∷ row full (asks 0 eights (2 ∷ 0 ∷ [])) 0 1 2 1 (pos 261950)
    -- All held.
    ∷ row free (asks 0 nines (2 ∷ 0 ∷ [])) 0 1 0 1 (pos 261914)
    -- An id that is leased to nobody, the caller's own, another's, and one asked for in session.
    ∷ row leased (asks 0 nines (6 ∷ 0 ∷ 0 ∷ 0 ∷ 5 ∷ [])) 0 2 1 1 (pos 261871)
    ∷ row leased (asks 0 nines (6 ∷ 0 ∷ 0 ∷ 0 ∷ 1 ∷ [])) 0 2 5 1 (pos 261871)
    ∷ row leased (asks 1 nines (6 ∷ 0 ∷ 0 ∷ 0 ∷ 1 ∷ [])) 0 2 0 1 (pos 261774)
    ∷ row joined (asks 0 nines (6 ∷ 0 ∷ 0 ∷ 0 ∷ 5 ∷ [])) 0 2 4 1 (pos 261731)
    -- Free calls have no headroom, and neither has what an earlier check stops.
    ∷ row joined (asks 0 nines (9 ∷ [])) 0 0 0 0 (pos 0)
    ∷ row joined (closing 100 0 buffer) 0 0 0 0 (pos 0)
    ∷ row joined (keepalive 100 0 buffer buffer) 0 0 0 0 (pos 0)
    ∷ row joined (keepalive 100 2 buffer buffer) 4 0 0 0 (pos 0)
    ∷ row joined (keepalive 100 0 (replicate 63 0) buffer) 5 0 0 0 (pos 0)
    ∷ row joined (asks 0 nines []) 6 0 0 0 (pos 0)
    ∷ row leased (asks 0 nines (11 ∷ [])) 8 0 0 0 (pos 0)
    ∷ []
