-- Leases that are renewed, or not, and the rows of new ones (02, Item 2), worked out by hand: a row has what the definitions give and what
-- must come of it.
use Rattle.std.specs.Prelude.{ℕ, ◌≡◌, List, [], ◌∷◌, ◌++◌, map, drop, take, replicate}
use Rattle.octets.specs.Octets.{big_endian}
use Rattle.rules.specs.Sizes.{rows_per_partner, nobody}
use Rattle.rules.specs.Tables.{Tables, awaiting, opened, set_state, lease_at, records, fresh}
use Rattle.rules.specs.Leases.{LeaseDecision, holds_lease, no_spare_row, cookie_in_use, no_free_id, renewed, granted, decide_lease, grant}
use Rattle.rules.specs.Calls.{Call, message, closing, Outcome}
use Rattle.rules.specs.Step.{step}
use Rattle.rules.specs.Runs.{after}
use Rattle.examples.specs.Computed.{computed}
use Rattle.examples.specs.Examples.{buffer, random, free_with}

pub record Renewal : Type 0 where
  pub given : List ℕ
  pub said : List ℕ

-- in every row, what is given is what is said
abbrev pub Comes : List Renewal → Type 0
Comes table = map (λ (r : Renewal). r.given) table ≡ map (λ (r : Renewal). r.said) table

abbrev row : List ℕ → List ℕ → Renewal
row given said = record { given = given; said = said }

-- ---- a power cut: "Leased at 100 as id 7 with cookie K, closed at 200; connection 1 asks with K at 9,000"

-- K, and random bytes that give it and id 7; and others, whose first candidate is id 5
abbrev kept : List ℕ
kept = replicate 24 9

unfoldable pub first : List ℕ
unfolding computed
first = kept ++ (big_endian 4 7 ++ replicate 52 3)

unfoldable pub second : List ℕ
unfolding computed
second = replicate 24 8 ++ (big_endian 4 5 ++ replicate 52 3)

abbrev asks_at : ℕ → Call
asks_at now = message now 1 (2 ∷ 1 ∷ kept) second buffer buffer

-- of a relay with leases of an hour
unfoldable pub free : Tables
unfolding computed random free_with
free = free_with 3600

unfoldable pub held : Tables
unfolding computed random free first
held = after free (message 100 0 (2 ∷ 0 ∷ []) first buffer buffer ∷ [])

unfoldable pub cut : Tables
unfolding computed random free first held
cut = after held (closing 200 0 buffer ∷ [])

unfoldable pub back : Outcome
unfolding computed random free first second held cut
back = step cut (asks_at 9000)

-- back while its lease still runs
unfoldable pub soon : Outcome
unfolding computed random free first second held cut
soon = step cut (asks_at 300)

unfoldable pub beside : Outcome
unfolding computed random free first second held
beside = step held (asks_at 300)

-- ---- rows made by hand: connections 0 and 1 are open, and connection 1 asks with K at 300

-- 1 and the row that is renewed, or 2 and the row and the id of a new lease
abbrev shown : LeaseDecision → List ℕ
shown holds_lease = 0 ∷ []
shown no_spare_row = 0 ∷ []
shown cookie_in_use = 0 ∷ []
shown no_free_id = 0 ∷ []
shown (renewed r) = 1 ∷ r ∷ []
shown (granted r id cookie) = 2 ∷ r ∷ id ∷ []

-- a row with K
abbrev with_kept : List ℕ → ℕ → ℕ → ℕ → ℕ → List ℕ
with_kept ls r until id holder = grant ls r until id kept holder

-- a row with another cookie
abbrev other : List ℕ → ℕ → ℕ → ℕ → List ℕ
other ls r until id = grant ls r until id (replicate 24 4) nobody

unfoldable pub rows : List ℕ
unfolding computed
rows = (fresh 100 3600).leases

-- row 0 (K, expiry 50, id 7), and id 7 in row 127 too
unfoldable pub doubled : ℕ → List ℕ
unfolding computed rows
doubled until = other (with_kept rows 0 50 7 nobody) 127 until 7

-- K in rows 2 (expiry 0), 4 (live, held), 6 (not live) and 7 (live, free), with four ids
unfoldable pub several : List ℕ
unfolding computed rows
several = with_kept (with_kept (with_kept (with_kept rows 2 0 12 nobody) 4 900 14 0) 6 200 16 nobody) 7 900 17 nobody

-- "Only row 1 live, rows 3 and 9 expired at 40, the others at 60"
abbrev until : ℕ → List ℕ
until time = big_endian 8 time ++ (big_endian 4 11 ++ (nobody ∷ 0 ∷ 0 ∷ 0 ∷ replicate 24 4))

unfoldable pub aged : List ℕ
unfolding computed rows
aged =
    until 60 ++ (until 900 ++ (until 60 ++ (until 40 ++ (records 5 (until 60) ++ (until 40 ++ (records 6 (until 60) ++ drop (lease_at rows_per_partner) rows))))))

-- all rows of the partner live, K in row 0
unfoldable pub full : List ℕ
unfolding computed rows
full = with_kept (records rows_per_partner (until 900) ++ drop (lease_at rows_per_partner) rows) 0 900 7 nobody

-- a row from elsewhere: an id of 2^26 or more, 1, 2 and 3 in bytes 13 to 15, and an end later than an hour from now
unfoldable pub foreign : Outcome
unfolding computed random free second rows
foreign =
    step
    (record {
      connections = free.connections;
      leases = (big_endian 8 9000 ++ (4 ∷ 0 ∷ 0 ∷ 7 ∷ nobody ∷ 1 ∷ 2 ∷ 3 ∷ kept)) ++ drop 40 rows;
      allowances = free.allowances;
    })
    (asks_at 300)

-- by a live row with K in which this holder stands: connection 2 is closed, 3 awaits the version answer, 8 is another partner's and open
unfoldable pub named : ℕ → List ℕ
unfolding computed random free second rows
named holder =
    shown
    (decide_lease (set_state (set_state free.connections 3 awaiting) 8 opened) (with_kept rows 0 900 7 holder) 300 1 second kept)

abbrev decides : List ℕ → ℕ → List ℕ → List ℕ
decides ls now cookie = shown (decide_lease free.connections ls now 1 second cookie)

unfoldable pub renewals : List Renewal
unfolding computed random free first second held cut back beside rows doubled several aged
renewals =
    -- "id 7, K, expiry 12,600, no other row touched"
    row (take back.answer.reply_length back.reply) (3 ∷ 1 ∷ 0 ∷ 0 ∷ 0 ∷ 7 ∷ kept ++ big_endian 8 12600)
    ∷ row (take 40 back.tables.leases) (big_endian 8 12600 ++ (0 ∷ 0 ∷ 0 ∷ 7 ∷ 1 ∷ 0 ∷ 0 ∷ 0 ∷ kept))
    ∷ row (drop 40 back.tables.leases) (drop 40 (fresh 100 3600).leases)
    -- "The holder still open, asked by connection 1 at 300: a new row."
    ∷ row (take beside.answer.reply_length beside.reply) (3 ∷ 1 ∷ 0 ∷ 0 ∷ 0 ∷ 5 ∷ replicate 24 8 ++ big_endian 8 3900)
    ∷ row (take 40 beside.tables.leases) (take 40 held.leases)
    -- "Expiry 300, holder open, asked at 300: renewed."
    ∷ row (decides (with_kept rows 0 300 7 0) 300 kept) (1 ∷ 0 ∷ [])
    -- "Row 0 (K, expiry 50, id 7) and row 127 live with id 7: a new row; row 127 expiring at that moment: renewed."
    ∷ row (decides (doubled 301) 300 kept) (2 ∷ 1 ∷ 5 ∷ [])
    ∷ row (decides (doubled 300) 300 kept) (1 ∷ 0 ∷ [])
    -- "K in rows 2 (expiry 0), 4 (live, held), 6 (not live), 7 (live, free), four different ids, the caller holding none: row 6."
    ∷ row (decides several 300 kept) (1 ∷ 6 ∷ [])
    -- "Only row 1 live, rows 3 and 9 expired at 40, the others at 60: a new lease takes row 3."
    ∷ row (decides aged 300 []) (2 ∷ 3 ∷ 5 ∷ [])
    ∷ []

-- ---- rows that are live, or from elsewhere; and requests that are refused, or renew nothing

unfoldable pub others : List Renewal
unfolding computed random free first second held cut soon rows foreign named
others =
    -- back at 300, while the lease runs: the same, with expiry 3,900
    row (take soon.answer.reply_length soon.reply) (3 ∷ 1 ∷ 0 ∷ 0 ∷ 0 ∷ 7 ∷ kept ++ big_endian 8 3900)
    ∷ row (take 40 soon.tables.leases) (big_endian 8 3900 ++ (0 ∷ 0 ∷ 0 ∷ 7 ∷ 1 ∷ 0 ∷ 0 ∷ 0 ∷ kept))
    -- "Ids of 2^26 or more in foreign tables are renewed as they stand"; bytes 13 to 15 stay
    ∷ row (take 40 foreign.tables.leases) (big_endian 8 3900 ++ (4 ∷ 0 ∷ 0 ∷ 7 ∷ 1 ∷ 1 ∷ 2 ∷ 3 ∷ kept))
    -- "A holder that is closed, awaiting, of another partner, 64 or more, or 255 doesn't count."
    ∷ row (named 0) (2 ∷ 1 ∷ 5 ∷ [])
    ∷ row (named 2) (1 ∷ 0 ∷ [])
    ∷ row (named 3) (1 ∷ 0 ∷ [])
    ∷ row (named 8) (1 ∷ 0 ∷ [])
    ∷ row (named 64) (1 ∷ 0 ∷ [])
    ∷ []

unfoldable pub refused : List Renewal
unfolding computed random free second rows full
refused =
    -- "sixteen live rows give accepted 0 also to the owner of one of them", and so does a live row that the caller holds
    row (decides full 300 kept) (0 ∷ [])
    ∷ row (decides (grant (with_kept rows 0 200 7 nobody) 3 900 11 (replicate 24 4) 1) 300 kept) (0 ∷ [])
    -- K but for its last byte, and K in a row of another partner: a new row
    ∷ row (decides (with_kept rows 0 200 7 nobody) 300 (replicate 23 9 ++ (8 ∷ []))) (2 ∷ 1 ∷ 5 ∷ [])
    ∷ row (decides (with_kept rows rows_per_partner 200 7 nobody) 300 kept) (2 ∷ 0 ∷ 5 ∷ [])
    ∷ []
