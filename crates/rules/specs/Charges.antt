-- What a call costs, what it is charged, and the allowances after it (01, "Charges"; 02, Item 5).
use Rattle.std.specs.Prelude.{ℕ, ◌+◌, Bool, true, false, not, List, length, eqb, if◌then◌else◌}
use Rattle.svsc.specs.Messages.{type_of}
use Rattle.allowance.specs.Bucket.{level_now, spend}
use Rattle.rules.specs.Sizes.{call_cost}
use Rattle.rules.specs.Tables.{Tables, bucket_of, set_bucket}
use Rattle.rules.specs.Calls.{Call, opening, message, closing, keepalive, caller_of, time_of, Answer}
use Rattle.rules.specs.Plans.{plan}

-- "Opens and messages other than SessionEnd are charged, each by its cost"; 02, Item 3: "A new host call .., free of charge"
abbrev pub charged : Call → Bool
charged (opening now c reply) = true
charged (message now c m random reply relay) = not (eqb (type_of m) 9)
charged (closing now c relay) = false
charged (keepalive now c reply relay) = false

-- the bytes received
abbrev pub received : Call → ℕ
received (opening now c reply) = 0
received (message now c m random reply relay) = length m
received (closing now c relay) = 0
received (keepalive now c reply relay) = 0

-- 02, Item 5: "The cost of a charged call becomes 32 plus the bytes received plus the bytes that it puts into both trays if done." "SessionEnd,
-- close and Item 3's call stay free."
abbrev pub cost_with : Call → ℕ → ℕ → ℕ
cost_with call replied relayed = if charged call then call_cost + received call + replied + relayed else 0

-- in history, which sees no table: by the two byte counts of the answer
unfoldable pub cost : Call → Answer → ℕ
cost call answer = cost_with call answer.reply_length answer.relay_length

-- before the call is done, by its plan: what check 9 compares with the level, and what a done call is charged. It is the cost of every call that
-- is done (law `price_is_cost`).
unfoldable pub price : Tables → Call → ℕ
price tables call = cost_with call (length (plan tables call).reply) (length (plan tables call).relay)

-- what the caller's partner has at the time of the call
unfoldable pub caller_level : List ℕ → Call → ℕ
caller_level al call = level_now (bucket_of al (caller_of call)) (time_of call)

-- "A done charged call stores the level left and its reading as moment."
unfoldable pub charge : List ℕ → Call → ℕ → List ℕ
charge al call amount =
    if charged call then set_bucket al (caller_of call) (spend (bucket_of al (caller_of call)) (time_of call) amount) else al
