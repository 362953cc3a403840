-- What each kind of call costs (02, Item 5), worked out by hand: a row has what the definitions give and what must come of it.
use Rattle.std.specs.Prelude.{ℕ, List, [], ◌∷◌, ◌++◌, replicate}
use Rattle.octets.specs.Octets.{big_endian}
use Rattle.allowance.specs.Bucket.{level_now}
use Rattle.rules.specs.Sizes.{connections_per_partner}
use Rattle.rules.specs.Tables.{Tables, records, fresh, bucket_of}
use Rattle.rules.specs.Calls.{Call, opening, message, closing, keepalive, Outcome, time_of}
use Rattle.rules.specs.Charges.{cost, price}
use Rattle.rules.specs.Step.{step}
use Rattle.rules.specs.Runs.{after}
use Rattle.examples.specs.Computed.{computed}
use Rattle.examples.specs.Examples.{Example, buffer, sends, longest, random, free, leased, joined, with_level}

-- the number is the request's
abbrev row : List ℕ → List ℕ → Example
row given said = record { number = 5; given = given; said = said }

-- the answer, the price, and the cost of a call as history has it
abbrev told : Tables → Call → Outcome → List ℕ
told tables call o = o.answer.number ∷ price tables call ∷ cost call o.answer ∷ []

-- a call that is done, and what it costs
abbrev costs : Tables → Call → ℕ → Example
costs tables call n = row (told tables call (step tables call)) (0 ∷ n ∷ n ∷ [])

-- connection 0 awaits its version answer
unfoldable pub waiting : Tables
unfolding computed
waiting = after (fresh 100 0) (opening 100 0 buffer ∷ [])

-- the cookie of the lease of connection 0 (`leased`), and another
abbrev nines : List ℕ
nines = replicate 24 9

abbrev eights : List ℕ
eights = replicate 24 8

-- ---- the table of the request, in its order

unfoldable pub opens : List Example
unfolding computed random waiting
opens =
    costs (fresh 100 0) (opening 100 0 buffer) 45
    -- type 1, ok 1 and ok 0
    ∷ costs waiting (sends 100 0 (1 ∷ 1 ∷ [])) 34
    ∷ costs waiting (sends 100 0 (1 ∷ 0 ∷ [])) 34
    ∷ []

-- a lease, refused and granted; with a cookie, refused and granted
unfoldable pub leases : List Example
unfolding computed random free leased
leases = costs leased (sends 100 0 (2 ∷ 0 ∷ [])) 36 ∷ costs free (sends 100 0 (2 ∷ 0 ∷ [])) 72 ∷ []

unfoldable pub cookies : List Example
unfolding computed random free leased
cookies = costs leased (sends 100 0 (2 ∷ 1 ∷ nines)) 60 ∷ costs free (sends 100 0 (2 ∷ 1 ∷ nines)) 96 ∷ []

-- an extension, refused and done
unfoldable pub extensions : List Example
unfolding computed random free leased
extensions = costs leased (sends 100 0 (4 ∷ eights)) 59 ∷ costs leased (sends 100 0 (4 ∷ nines)) 67 ∷ []

-- an establish, refused and done
unfoldable pub sessions : List Example
unfolding computed random free leased
sessions =
    costs leased (sends 100 1 (6 ∷ 0 ∷ 0 ∷ 0 ∷ 5 ∷ [])) 43 ∷ costs leased (sends 100 1 (6 ∷ 0 ∷ 0 ∷ 0 ∷ 1 ∷ [])) 140 ∷ []

-- a send of a message of n bytes, 32 + 2n (the longest: `left`), and a keepalive message
unfoldable pub sent : List Example
unfolding computed random free leased joined
sent =
    costs joined (sends 100 0 (11 ∷ [])) 34
    ∷ costs joined (sends 100 0 (11 ∷ 1 ∷ 2 ∷ 3 ∷ [])) 40
    ∷ costs joined (sends 100 0 (13 ∷ [])) 33
    ∷ []

-- free, though they tell a connection something: SessionEnd, a close and a keepalive that is due
unfoldable pub unpaid : List Example
unfolding computed random free leased joined
unpaid =
    costs joined (sends 100 0 (9 ∷ [])) 0 ∷ costs joined (closing 100 0 buffer) 0 ∷ costs joined (keepalive 130 0 buffer buffer) 0 ∷ []

-- ---- what is left

-- the answer, and what partner 0 has then
abbrev level : Call → Outcome → List ℕ
level call o = o.answer.number ∷ level_now (bucket_of o.tables.allowances 0) (time_of call) ∷ []

abbrev leaves : Tables → Call → List ℕ → Example
leaves tables call said = row (level call (step tables call)) said

-- the longest send, in a buffer of its length
abbrev sends_longest : ℕ → Call
sends_longest now = message now 0 longest random buffer longest

-- every candidate is id 1, with a cookie that no row has
unfoldable pub ones : List ℕ
unfolding computed
ones = replicate 24 7 ++ records 14 (big_endian 4 1)

abbrev asks_for_one : Call
asks_for_one = message 100 0 (2 ∷ 0 ∷ []) ones buffer buffer

-- partner 1 has leased id 1, partner 0 nothing
unfoldable pub elsewhere : Tables
unfolding computed random free
elsewhere =
    after
    free
    (opening 100 connections_per_partner buffer
    ∷ sends 100 connections_per_partner (1 ∷ 1 ∷ [])
    ∷ sends 100 connections_per_partner (2 ∷ 0 ∷ [])
    ∷ [])

-- connections 0 and 1 in session, at 10
unfoldable pub early : Tables
unfolding computed random
early =
    after
    (fresh 10 0)
    (opening 10 0 buffer
    ∷ sends 10 0 (1 ∷ 1 ∷ [])
    ∷ opening 10 1 buffer
    ∷ sends 10 1 (1 ∷ 1 ∷ [])
    ∷ sends 10 0 (2 ∷ 0 ∷ [])
    ∷ sends 10 1 (6 ∷ 0 ∷ 0 ∷ 0 ∷ 1 ∷ [])
    ∷ [])

unfoldable pub left : List Example
unfolding computed random free leased joined with_level ones elsewhere early
left =
    -- "Level 0 at 10, longest send: 9 at 12; at 13 it leaves 65,508."
    leaves (with_level early 0 10) (sends_longest 12) (9 ∷ 131072 ∷ [])
    ∷ leaves (with_level early 0 10) (sends_longest 13) (0 ∷ 65508 ∷ [])
    -- "Level 50, lease: its only candidate live elsewhere: done, 14 left; not live there: 9."
    ∷ leaves (with_level elsewhere 50 100) asks_for_one (0 ∷ 14 ∷ [])
    ∷ leaves (with_level free 50 100) asks_for_one (9 ∷ 50 ∷ [])
    -- a level of exactly a done establish, and one below
    ∷ leaves (with_level leased 140 100) (sends 100 1 (6 ∷ 0 ∷ 0 ∷ 0 ∷ 1 ∷ [])) (0 ∷ 0 ∷ [])
    ∷ leaves (with_level leased 139 100) (sends 100 1 (6 ∷ 0 ∷ 0 ∷ 0 ∷ 1 ∷ [])) (9 ∷ 139 ∷ [])
    ∷ []

-- all of it
abbrev pub prices : List Example
prices = opens ++ (leases ++ (cookies ++ (extensions ++ (sessions ++ (sent ++ (unpaid ++ left))))))
