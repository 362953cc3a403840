-- The term of leases (02, Item 6), worked out by hand: a row has the term that is named, or the number that the tables keep, what the definitions
-- give and what must come of it.
use Rattle.std.specs.Prelude.{ℕ, ◌+◌, ◌-◌, ◌^◌, List, [], ◌∷◌, replicate}
use Rattle.octets.specs.Octets.{big_endian, put}
use Rattle.rules.specs.Tables.{Tables, lent, fresh, live, expiry, set_expiry, term_at, stored_term}
use Rattle.rules.specs.Calls.{Call, message, closing}
use Rattle.rules.specs.Step.{step, start}
use Rattle.rules.specs.Runs.{after}
use Rattle.examples.specs.Computed.{computed}
use Rattle.examples.specs.Examples.{Example, row, buffer, truth, random, free_with, leased_with, free, leased, leased_for_an_hour}

-- ---- fresh starts

-- the answer, and the term that the tables keep then; before they kept 1,234
unfoldable pub starts : ℕ → ℕ → List ℕ → Example
unfolding computed
starts now term said =
    let o = start (fresh 5 1234) now term in
    row term (o.answer.number ∷ stored_term o.tables.allowances ∷ []) said

unfoldable pub named : List Example
unfolding computed starts
named =
    -- "Term 0 stores 600."
    starts 100 0 (0 ∷ 600 ∷ [])
    -- "1, 599, 86,401: 6."
    ∷ starts 100 1 (6 ∷ 1234 ∷ [])
    ∷ starts 100 599 (6 ∷ 1234 ∷ [])
    ∷ starts 100 600 (0 ∷ 600 ∷ [])
    ∷ starts 100 601 (0 ∷ 601 ∷ [])
    ∷ starts 100 86400 (0 ∷ 86400 ∷ [])
    ∷ starts 100 86401 (6 ∷ 1234 ∷ [])
    -- "The term has 64 bits: 2^32 + 600 is 6."
    ∷ starts 100 (2 ^ 32 + 600) (6 ∷ 1234 ∷ [])
    -- "time 2^40 with term 599 is 2", and on tables of another size 1
    ∷ starts (2 ^ 40) 599 (2 ∷ 1234 ∷ [])
    ∷ row 599 ((start (lent [] [] []) (2 ^ 40) 599).answer.number ∷ []) (1 ∷ [])
    ∷ []

-- ---- leases

-- leased at 100: live, and no more
abbrev lives : ℕ → Tables → ℕ → ℕ → Example
lives term tables last first = row term (truth (live tables.leases last 0) ∷ truth (live tables.leases first 0) ∷ []) (1 ∷ 0 ∷ [])

unfoldable pub leased_for_ten_minutes : Tables
unfolding computed random free_with leased_with
leased_for_ten_minutes = leased_with 600

unfoldable pub leased_for_aday : Tables
unfolding computed random free_with leased_with
leased_for_aday = leased_with 86400

unfoldable pub lasting : List Example
unfolding computed random leased_for_ten_minutes leased_for_an_hour leased_for_aday
lasting = lives 600 leased_for_ten_minutes 699 700 ∷ lives 3600 leased_for_an_hour 3699 3700 ∷ lives 86400 leased_for_aday 86499 86500 ∷ []

-- the tables with another number where the term is kept
abbrev keeping : ℕ → Tables → Tables
keeping stored tables = lent tables.connections tables.leases (put tables.allowances term_at (big_endian 8 stored))

-- the cookie of the lease at 100, and random bytes that give another
abbrev cookie : List ℕ
cookie = replicate 24 9

unfoldable pub others : List ℕ
unfolding computed random
others = put random 0 (replicate 24 8)

-- connection c asks by m at 300
abbrev asks : ℕ → List ℕ → Call
asks c m = message 300 c m others buffer buffer

-- how long row 0 lasts from 300 on, and what the tables keep then
abbrev lasts : ℕ → Tables → ℕ → Example
lasts stored tables seconds = row stored ((expiry tables.leases 0 - 300) ∷ stored_term tables.allowances ∷ []) (seconds ∷ stored ∷ [])

-- a new lease: "Ninth level 0, 1, 599, 601, 86,400, 86,401: leases last 3,600, 600, 600, 601, 86,400, 600."
unfoldable pub new_ones : List Example
unfolding computed random free others
new_ones =
    let of : ℕ → ℕ → Example = λ stored. lasts stored (step (keeping stored free) (asks 0 (2 ∷ 0 ∷ []))).tables in
    of 0 3600 ∷ of 1 600 ∷ of 599 600 ∷ of 600 600 ∷ of 601 601 ∷ of 86400 86400 ∷ of 86401 600 ∷ of (2 ^ 64 - 1) 600 ∷ []

-- one that is extended, and one that is renewed, whose holder is gone
unfoldable pub extended_ones : List Example
unfolding computed random leased others
extended_ones =
    let of : ℕ → ℕ → Example = λ stored. lasts stored (step (keeping stored leased) (asks 0 (4 ∷ cookie))).tables in
    of 0 3600 ∷ of 601 601 ∷ of 86401 600 ∷ []

unfoldable pub abandoned : Tables
unfolding computed random leased
abandoned = after leased (closing 200 0 buffer ∷ [])

unfoldable pub renewed_ones : List Example
unfolding computed random leased others abandoned
renewed_ones =
    let of : ℕ → ℕ → Example = λ stored. lasts stored (step (keeping stored abandoned) (asks 1 (2 ∷ 1 ∷ cookie))).tables in
    of 0 3600 ∷ of 601 601 ∷ of 86401 600 ∷ []

-- "Extension sets reading + term, also where that is earlier than before": a row that would end at 9,000
unfoldable pub shortened : List Example
unfolding computed random leased others
shortened =
    let late = lent leased.connections (set_expiry leased.leases 0 9000) leased.allowances in
    row 600 (expiry (step late (asks 0 (4 ∷ cookie))).tables.leases 0 ∷ []) (900 ∷ []) ∷ []
