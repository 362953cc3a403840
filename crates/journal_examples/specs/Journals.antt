-- The journal (02, Item 8), worked out by hand: records of calls, and journals with what both replays answer.
use Rattle.std.specs.Prelude.{ℕ, ◌-◌, ◌^◌, List, [], ◌∷◌, ◌++◌, replicate, length}
use Rattle.octets.specs.Octets.{big_endian}
use Rattle.allowance.specs.Bucket.{level_now}
use Rattle.rules.specs.Sizes.{allowances_size}
use Rattle.rules.specs.Tables.{Tables, lent, fresh, bucket_of, clock, stored_term, set_bucket}
use Rattle.rules.specs.Calls.{Call, opening, message, closing, keepalive}
use Rattle.rules.specs.Runs.{after}
use Rattle.journal.specs.Records.{written, record_at, record_with, answer_record}
use Rattle.journal.specs.Contradictions.{contradicts}
use Rattle.journal.specs.Replays.{Replayed, records_from, records_of, tail_of, is_contradicted, advance, judge, replay_from, settled, check_replay, replay}
use Rattle.journal.specs.Plain.{filled_once, filled, levels_at, level_records, level_table, replay_plain}
use Rattle.journal.specs.Steps.{step_recorded, start_recorded}
use Rattle.examples.specs.Computed.{computed}
use Rattle.examples.specs.Examples.{Example, row, buffer, random, sends}

-- opens the definitions of the journal, as `computed` does those of the rules
unfoldable pub journalled : Unit {0}
unfolding written record_at record_with answer_record contradicts records_from records_of tail_of is_contradicted advance judge replay_from settled check_replay replay filled_once filled levels_at level_records level_table replay_plain step_recorded start_recorded
journalled = tt

-- ---- records

abbrev records : ℕ → Tables → Call → List ℕ → Example
records c tables call said = row c (step_recorded tables 0 call).bytes said

abbrev none : List ℕ
none = replicate 16 0

unfoldable pub opened : Tables
unfolding computed
opened = after (fresh 100 0) (opening 100 5 buffer ∷ [])

-- and its version answer
unfoldable pub accepted : Tables
unfolding computed opened random
accepted = after opened (sends 100 5 (1 ∷ 1 ∷ []) ∷ [])

-- the same, where partner 0 has 44 units
unfoldable pub poor : Tables
unfolding computed opened
poor = lent opened.connections opened.leases (set_bucket opened.allowances 0 (record { level = 44; updated = 100 }))

unfoldable pub recorded : List Example
unfolding computed random opened accepted poor journalled
recorded =
    -- "Open of connection 5 at 100, done, cost 45"
    records 5 (fresh 100 0) (opening 100 5 buffer) (0 ∷ 0 ∷ 0 ∷ 0 ∷ 0 ∷ 0 ∷ 0 ∷ 0x64 ∷ 5 ∷ 0 ∷ 0 ∷ 0 ∷ 0 ∷ 0 ∷ 0 ∷ 0x2d ∷ [])
    -- "An empty message of it, answer 6"
    ∷ records 5 opened (sends 100 5 []) (0 ∷ 0 ∷ 0 ∷ 0 ∷ 0 ∷ 0 ∷ 0 ∷ 0x64 ∷ 5 ∷ 1 ∷ 0 ∷ 6 ∷ 0 ∷ 0 ∷ 0 ∷ 0 ∷ [])
    -- a type that peers don't send, and one that may not come yet: the byte as it came, no charge
    ∷ records 5 opened (sends 100 5 (200 ∷ [])) (0 ∷ 0 ∷ 0 ∷ 0 ∷ 0 ∷ 0 ∷ 0 ∷ 0x64 ∷ 5 ∷ 1 ∷ 200 ∷ 6 ∷ 0 ∷ 0 ∷ 0 ∷ 0 ∷ [])
    ∷ records 5 opened (sends 100 5 (13 ∷ [])) (0 ∷ 0 ∷ 0 ∷ 0 ∷ 0 ∷ 0 ∷ 0 ∷ 0x64 ∷ 5 ∷ 1 ∷ 13 ∷ 7 ∷ 0 ∷ 0 ∷ 0 ∷ 0 ∷ [])
    -- done messages, a close and a keepalive
    ∷ records 5 opened (sends 100 5 (1 ∷ 1 ∷ [])) (0 ∷ 0 ∷ 0 ∷ 0 ∷ 0 ∷ 0 ∷ 0 ∷ 0x64 ∷ 5 ∷ 1 ∷ 1 ∷ 0 ∷ 0 ∷ 0 ∷ 0 ∷ 34 ∷ [])
    ∷ records 5 opened (closing 0x102 5 buffer) (0 ∷ 0 ∷ 0 ∷ 0 ∷ 0 ∷ 0 ∷ 1 ∷ 2 ∷ 5 ∷ 2 ∷ 0 ∷ 0 ∷ 0 ∷ 0 ∷ 0 ∷ 0 ∷ [])
    ∷ records 5 opened (keepalive 100 5 buffer buffer) (0 ∷ 0 ∷ 0 ∷ 0 ∷ 0 ∷ 0 ∷ 0 ∷ 0x64 ∷ 5 ∷ 3 ∷ 0 ∷ 0 ∷ 0 ∷ 0 ∷ 0 ∷ 0 ∷ [])
    -- an open of an open connection, answer 4
    ∷ records 5 opened (opening 100 5 buffer) (0 ∷ 0 ∷ 0 ∷ 0 ∷ 0 ∷ 0 ∷ 0 ∷ 0x64 ∷ 5 ∷ 0 ∷ 0 ∷ 4 ∷ 0 ∷ 0 ∷ 0 ∷ 0 ∷ [])
    -- answer 9, with what it would have cost
    ∷ records 6 poor (opening 100 6 buffer) (0 ∷ 0 ∷ 0 ∷ 0 ∷ 0 ∷ 0 ∷ 0 ∷ 0x64 ∷ 6 ∷ 0 ∷ 0 ∷ 9 ∷ 0 ∷ 0 ∷ 0 ∷ 45 ∷ [])
    -- the type as it came on 4, 5 and 8 too
    ∷ records 6 opened (sends 100 6 (11 ∷ [])) (0 ∷ 0 ∷ 0 ∷ 0 ∷ 0 ∷ 0 ∷ 0 ∷ 0x64 ∷ 6 ∷ 1 ∷ 11 ∷ 4 ∷ 0 ∷ 0 ∷ 0 ∷ 0 ∷ [])
    ∷ records 5 opened (message 100 5 (13 ∷ []) random [] buffer) (0 ∷ 0 ∷ 0 ∷ 0 ∷ 0 ∷ 0 ∷ 0 ∷ 0x64 ∷ 5 ∷ 1 ∷ 13 ∷ 5 ∷ 0 ∷ 0 ∷ 0 ∷ 0 ∷ [])
    ∷ records 5 accepted (sends 100 5 (9 ∷ [])) (0 ∷ 0 ∷ 0 ∷ 0 ∷ 0 ∷ 0 ∷ 0 ∷ 0x64 ∷ 5 ∷ 1 ∷ 9 ∷ 8 ∷ 0 ∷ 0 ∷ 0 ∷ 0 ∷ [])
    -- answers 1, 2 and 3: no record
    ∷ records 5 (lent [] [] []) (opening 100 5 buffer) none
    ∷ records 5 opened (opening 99 6 buffer) none
    ∷ records 64 opened (opening 100 64 buffer) none
    -- a fresh start, done and refused: no record
    ∷ row 0 (start_recorded (fresh 5 0) 0 100 0).bytes none
    ∷ row 0 (start_recorded (fresh 5 0) 0 100 1).bytes none
    ∷ []

-- ---- journals

-- a record as bytes: time, connection, call, type, answer and charge
abbrev line : ℕ → ℕ → ℕ → ℕ → ℕ → ℕ → List ℕ
line time c call kind answer charge = big_endian 8 time ++ (c ∷ call ∷ kind ∷ answer ∷ big_endian 4 charge)

-- the answer, and for a journal that agrees the latest done time, what partners 0 and 1 have then, and the term
abbrev told : Replayed → List ℕ
told a =
    let al = a.allowances in
    a.number ∷ a.contradicted ∷ a.place ∷ clock al ∷ level_now (bucket_of al 0) (clock al) ∷ level_now (bucket_of al 1) (clock al) ∷ stored_term al ∷ []

-- from a start at a time with a term, on a table of zeros: by both replays
abbrev judges : ℕ → ℕ → List ℕ → List ℕ → List Example → List Example
judges now term j said rest =
    row (length j) (told (replay (replicate allowances_size 0) j now term)) said
    ∷ row (length j) (told (replay_plain (replicate allowances_size 0) j now term)) said
    ∷ rest

-- a journal that agrees, and one that is contradicted at a place
abbrev agreeing : ℕ → ℕ → ℕ → List ℕ
agreeing time level other = 0 ∷ 0 ∷ 0 ∷ time ∷ level ∷ other ∷ 600 ∷ []

abbrev wrong_at : ℕ → List ℕ
wrong_at place = 0 ∷ 1 ∷ place ∷ 0 ∷ 0 ∷ 0 ∷ 0 ∷ []

abbrev refused_as : ℕ → List ℕ
refused_as n = n ∷ 0 ∷ 0 ∷ 0 ∷ 0 ∷ 0 ∷ 0 ∷ []

abbrev full : ℕ
full = 262144

-- "Start 10, (10, connection 0, type 11, done, 262,144)"
abbrev spent : List ℕ
spent = line 10 0 1 11 0 262144

unfoldable pub judged_journals : List Example
unfolding computed journalled
judged_journals =
    -- "Empty journal: the fresh table, ninth level 600."
    judges 100 0 [] (agreeing 100 full full)
    -- "16 zero bytes: place 0; from a start at 0 they pass."
    (judges 100 0 (replicate 16 0) (wrong_at 0)
    (judges 0 0 (replicate 16 0) (agreeing 0 full full)
    -- "A good record and 1 byte: place 16; a bad first record and 3 bytes: 0."
    (judges 100 0 (line 100 5 0 0 0 45 ++ (0 ∷ [])) (wrong_at 16)
    (judges 100 0 (line 100 64 0 0 0 45 ++ (0 ∷ 0 ∷ 0 ∷ [])) (wrong_at 0)
    -- "then at 13 done 196,608 passes, 196,609 is place 16; with answer 9 the other way round"
    (judges 10 0 (spent ++ line 13 0 1 11 0 196608) (agreeing 13 0 full)
    (judges 10 0 (spent ++ line 13 0 1 11 0 196609) (wrong_at 16)
    (judges 10 0 (spent ++ line 13 0 1 11 9 196608) (wrong_at 16)
    (judges 10 0 (spent ++ line 13 0 1 11 9 196609) (agreeing 10 0 full)
    -- "The same first, a refusal with 4 at 13, then at 11 done 65,536 passes, 65,537 is place 32."
    (judges 10 0 (spent ++ (line 13 0 0 0 4 0 ++ line 11 0 1 11 0 65536)) (agreeing 11 0 full)
    (judges 10 0 (spent ++ (line 13 0 0 0 4 0 ++ line 11 0 1 11 0 65537)) (wrong_at 32)
    -- "(100, connection 0, close, answer 9, 0): place 0."
    (judges 100 0 (line 100 0 2 0 9 0) (wrong_at 0)
    -- each other reason by itself: call number, answers, time, a charge of a free call, and with another answer
    (judges 100 0 (line 100 0 4 0 0 0) (wrong_at 0)
    (judges 100 0 (line 100 0 1 0 3 0) (wrong_at 0)
    (judges 100 0 (line 100 0 1 0 10 0) (wrong_at 0)
    (judges 100 0 (line (2 ^ 40) 0 2 0 0 0) (wrong_at 0)
    (judges 100 0 (line 99 0 2 0 4 0) (wrong_at 0)
    (judges 100 0 (line 100 0 1 9 0 1) (wrong_at 0)
    (judges 100 0 (line 100 0 3 0 0 1) (wrong_at 0)
    (judges 100 0 (line 100 0 2 0 0 1) (wrong_at 0)
    (judges 100 0 (line 100 0 1 0 1 0) (wrong_at 0)
    (judges 100 0 (line 100 0 1 0 2 0) (wrong_at 0)
    (judges 100 0 (line 100 0 1 11 4 1) (wrong_at 0)
    (judges 100 0 (line 100 0 1 11 8 1) (wrong_at 0)
    (judges (2 ^ 40 - 2) 0 (line (2 ^ 40 - 1) 0 2 0 0 0) (agreeing (2 ^ 40 - 1) full full)
    (judges 100 0 (line 100 0 1 11 6 1) (wrong_at 0)
    -- "the type byte of calls 0, 2 and 3 is not looked at"; "an open answered 7" doesn't contradict
    (judges 100 0 (line 100 0 0 9 0 45) (agreeing 100 262099 full)
    (judges 100 0 (line 100 0 0 0 7 0) (agreeing 100 full full)
    -- "A done record of charge 0 moves only the clock"
    (judges 10 0 (spent ++ line 12 63 2 0 0 0) (agreeing 12 131072 full)
    -- "refused as there", before the journal is looked at
    (judges (2 ^ 40) 1 (0 ∷ []) (refused_as 2)
    (judges 100 1 (0 ∷ []) (refused_as 6)
    -- a table of another size, before the time and the term
    (row 143 (told (replay (replicate 143 0) [] (2 ^ 40) 1)) (refused_as 1) ∷ row 143 (told (replay_plain (replicate 143 0) [] (2 ^ 40) 1)) (refused_as 1) ∷
    [])))))))))))))))))))))))))))))))
