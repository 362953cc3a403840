-- The twelve worked examples (01, "Marked cases, to be proved") in one table: a row has the example's number, what the definitions give
-- and what 01 says. A second table fixes the order of the checks.
use Rattle.std.specs.Prelude.{ℕ, ◌-◌, ◌^◌, Bool, false, ◌≡◌, List, [], ◌∷◌, ◌++◌, map, take, replicate, get_or, if◌then◌else◌}
use Rattle.octets.specs.Octets.{big_endian}
use Rattle.svsc.specs.Messages.{longest_message}
use Rattle.allowance.specs.Bucket.{level_now}
use Rattle.rules.specs.Sizes.{least_buffer, connection_count}
use Rattle.rules.specs.Tables.{Tables, lent, fresh, live, bucket_of, set_bucket}
use Rattle.rules.specs.Calls.{Call, opening, message, Outcome}
use Rattle.rules.specs.Leases.{candidate}
use Rattle.rules.specs.Charges.{cost}
use Rattle.rules.specs.Checks.{checks}
use Rattle.rules.specs.Step.{step}
use Rattle.rules.specs.Runs.{after}
use Rattle.examples.specs.Computed.{computed}

pub record Example : Type 0 where
  pub number : ℕ
  pub given : List ℕ
  pub said : List ℕ

-- "a single table carried by a single statement": in every row, what is given is what is said
abbrev pub Holds : List Example → Type 0
Holds table = map (λ (e : Example). e.given) table ≡ map (λ (e : Example). e.said) table

-- the rows' numbers
abbrev pub numbers : List Example → List ℕ
numbers table = map (λ (e : Example). e.number) table

abbrev pub row : ℕ → List ℕ → List ℕ → Example
row number given said = record { number = number; given = given; said = said }

-- ---- calls and tables that the examples use

abbrev pub buffer : List ℕ
buffer = replicate least_buffer 0

-- random bytes whose first candidate is 0x04000001
unfoldable pub random : List ℕ
unfolding computed
random = replicate 24 9 ++ (big_endian 4 0x04000001 ++ replicate 52 3)

-- connection c sends m
abbrev pub sends : ℕ → ℕ → List ℕ → Call
sends now c m = message now c m random buffer buffer

-- the same, with a relay buffer of the length of m
abbrev sends_long : ℕ → ℕ → List ℕ → Call
sends_long now c m = message now c m random buffer m

abbrev pub longest : List ℕ
longest = 11 ∷ replicate (longest_message - 1) 0

-- a relay with a term: connections 0 and 1 open and free; then a lease of connection 0 at 100
unfoldable pub free_with : ℕ → Tables
unfolding computed random
free_with term = after (fresh 100 term) (opening 100 0 buffer ∷ sends 100 0 (1 ∷ 1 ∷ []) ∷ opening 100 1 buffer ∷ sends 100 1 (1 ∷ 1 ∷ []) ∷ [])

unfoldable pub leased_with : ℕ → Tables
unfolding computed random free_with
leased_with term = after (free_with term) (sends 100 0 (2 ∷ 0 ∷ []) ∷ [])

-- where no term is named; and then the two in session
unfoldable pub free : Tables
unfolding computed random free_with
free = free_with 0

unfoldable pub leased : Tables
unfolding computed random free_with leased_with
leased = leased_with 0

unfoldable pub leased_for_an_hour : Tables
unfolding computed random free_with leased_with
leased_for_an_hour = leased_with 3600

unfoldable pub joined : Tables
unfolding computed random leased
joined = after leased (sends 100 1 (6 ∷ 0 ∷ 0 ∷ 0 ∷ 1 ∷ []) ∷ [])

-- the tables with another level of partner 0
unfoldable pub with_level : Tables → ℕ → ℕ → Tables
unfolding computed
with_level tables level updated = record {
  connections = tables.connections;
  leases = tables.leases;
  allowances = set_bucket tables.allowances 0 (record { level = level; updated = updated });
}

unfoldable pub exactly : Outcome
unfolding computed random joined with_level
exactly = step (with_level joined 131100 100) (sends_long 100 0 longest)

-- ---- what is shown of an outcome

abbrev answered : Outcome → List ℕ
answered o = o.answer.number ∷ []

abbrev replied : Outcome → List ℕ
replied o = take o.answer.reply_length o.reply

abbrev relayed : Outcome → List ℕ
relayed o = take o.answer.relay_length o.relay

abbrev pub truth : Bool → ℕ
truth b = if b then 1 else 0

abbrev level_at : Tables → ℕ → ℕ
level_at tables now = level_now (bucket_of tables.allowances 0) now

unfoldable pub examples : List Example
unfolding computed random free leased leased_for_an_hour joined with_level exactly
examples =
    -- 1. Empty message: 6.
    row 1 (answered (step free (sends 100 0 []))) (6 ∷ [])
    -- 2. Type 2, has-cookie 0, 26 bytes: 6.
    ∷ row 2 (answered (step free (sends 100 0 (2 ∷ 0 ∷ replicate 24 0)))) (6 ∷ [])
    -- 3. Has-cookie 2: 6.
    ∷ row 3 (answered (step free (sends 100 0 (2 ∷ 2 ∷ []))) ++ answered (step free (sends 100 0 (2 ∷ 2 ∷ replicate 24 0)))) (6 ∷ 6 ∷ [])
    -- 4. Type 11 alone, in session: relay is the one byte 12.
    ∷ row 4 (relayed (step joined (sends 100 0 (11 ∷ [])))) (12 ∷ [])
    -- 5. Candidate 0x04000001 is id 1.
    ∷ row 5 (candidate random 0 ∷ []) (1 ∷ [])
    -- 6. 02, Item 6: "restated for 600 and 3,600 seconds": leased at 100, live at 699, not at 700; at 3,699, not at 3,700.
    ∷ row 6 (truth (live leased.leases 699 0) ∷ truth (live leased.leases 700 0) ∷ []) (1 ∷ 0 ∷ [])
    ∷ row 6 (truth (live leased_for_an_hour.leases 3699 0) ∷ truth (live leased_for_an_hour.leases 3700 0) ∷ []) (1 ∷ 0 ∷ [])
    -- 7. Level 0 at 10: 196,608 at 13, 262,144 at 14 and at 15.
    ∷ row 7
    (level_at (with_level free 0 10) 13 ∷ level_at (with_level free 0 10) 14 ∷ level_at (with_level free 0 10) 15 ∷ [])
    (196608 ∷ 262144 ∷ 262144 ∷ [])
    -- 8. 02, Item 5: the longest send costs 131,100: level 131,099 refuses, 131,100 leaves 0.
    ∷ row 8 (cost (sends_long 100 0 longest) exactly.answer ∷ []) (131100 ∷ [])
    ∷ row 8 (answered (step (with_level joined 131099 100) (sends_long 100 0 longest))) (9 ∷ [])
    ∷ row 8 (exactly.answer.number ∷ level_at exactly.tables 100 ∷ []) (0 ∷ 0 ∷ [])
    -- 9. Reading 2^40 - 1 may pass, 2^40 is 2.
    ∷ row 9 (answered (step free (sends (2 ^ 40 - 1) 0 (13 ∷ []))) ++ answered (step free (sends (2 ^ 40) 0 (13 ∷ [])))) (0 ∷ 2 ∷ [])
    -- 10. The opening reply is 0,83,86,83,67,32,48,48,49,46,48,48,48.
    ∷ row 10 (replied (step (fresh 100 0) (opening 100 0 buffer))) (0 ∷ 83 ∷ 86 ∷ 83 ∷ 67 ∷ 32 ∷ 48 ∷ 48 ∷ 49 ∷ 46 ∷ 48 ∷ 48 ∷ 48 ∷ [])
    -- 11. Id 5 leased to nobody, caller free: 7,0,0,0,5,1.
    ∷ row 11 (replied (step leased (sends 100 0 (6 ∷ 0 ∷ 0 ∷ 0 ∷ 5 ∷ [])))) (7 ∷ 0 ∷ 0 ∷ 0 ∷ 5 ∷ 1 ∷ [])
    -- 12. Own id: 5 if free, 4 if in session.
    ∷ row 12 (replied (step leased (sends 100 0 (6 ∷ 0 ∷ 0 ∷ 0 ∷ 1 ∷ [])))) (7 ∷ 0 ∷ 0 ∷ 0 ∷ 1 ∷ 5 ∷ [])
    ∷ row 12 (replied (step joined (sends 100 0 (6 ∷ 0 ∷ 0 ∷ 0 ∷ 1 ∷ [])))) (7 ∷ 0 ∷ 0 ∷ 0 ∷ 1 ∷ 4 ∷ [])
    ∷ []

-- ---- the order of the checks: "Checks run in this order; the first that applies decides."

-- partner 0 has used up its level; connection 0 awaits its version answer
unfoldable pub spent : Tables
unfolding computed random free with_level
spent = with_level free 0 100

unfoldable pub waiting : Tables
unfolding computed
waiting = after (fresh 100 0) (opening 100 0 buffer ∷ [])

-- check k applies to the call, and so does the next one: the answer is k
abbrev both : ℕ → Tables → Call → Example
both k tables call =
    row k
    ((step tables call).answer.number
    ∷ truth (get_or (checks tables call) (k - 1) false)
    ∷ truth (get_or (checks tables call) k false)
    ∷ [])
    (k ∷ 1 ∷ 1 ∷ [])

unfoldable pub order : List Example
unfolding computed random free with_level spent waiting
order =
    -- no tables at all, at a time past the limit
    both 1 (lent [] [] []) (sends (2 ^ 40) 0 (13 ∷ []))
    -- a time below the latest, on a connection number past the last
    ∷ both 2 free (sends 99 connection_count (13 ∷ []))
    -- that number, which reads as closed
    ∷ both 3 free (sends 100 connection_count (13 ∷ []))
    -- a closed connection, without room for an answer
    ∷ both 4 free (message 100 2 (13 ∷ []) random [] [])
    -- no room, and no message
    ∷ both 5 free (message 100 0 [] random [] [])
    -- a message that peers don't send, and that no state permits
    ∷ both 6 free (sends 100 0 (3 ∷ 0 ∷ []))
    -- an end before the version answer, and without a session
    ∷ both 7 waiting (sends 100 0 (9 ∷ []))
    -- data without a session, and without allowance
    ∷ both 8 spent (sends 100 0 (11 ∷ []))
    ∷ []
