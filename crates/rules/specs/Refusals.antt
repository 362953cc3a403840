-- The sentences of 01's checks, and of 02, Items 3 and 6, as statements: what each check of a call is proved to be, in both directions.
use Rattle.std.specs.Prelude.{ℕ, ◌-◌, ◌≤◌, ◌<◌, max, ◌≡◌, ◌≢◌, ◌⊎◌, ◌↔◌, Bool, true, false, ◌||◌, List, [], ◌∷◌, eqb, length, get_or, if◌then◌else◌}
use Rattle.std.proofs.Math.Option.{some}
use Rattle.svsc.specs.Messages.{Message, type_of, decode}
use Rattle.allowance.specs.Bucket.{level_now}
use Rattle.rules.specs.Sizes.{connection_count, connections_size, leases_size, allowances_size, time_limit, random_bytes, least_buffer}
use Rattle.rules.specs.Tables.{Tables, closed, state, in_session, bucket_of, clock}
use Rattle.rules.specs.Calls.{Call, opening, message, closing, keepalive, time_of, connection_of, caller_of, Answer}
use Rattle.rules.specs.Charges.{price}
use Rattle.rules.specs.Checks.{checks}

-- check n applies to the call, n from 1 to 9
abbrev pub Applies : ℕ → Tables → Call → Type 0
Applies n tables call = get_or (checks tables call) (n - 1) false ≡ true

pub record RightSizes (tables : Tables) : Type 0 where
  pub connections : length tables.connections ≡ connections_size
  pub leases : length tables.leases ≡ leases_size
  pub allowances : length tables.allowances ≡ allowances_size

-- 4: "open on a connection not closed; message or close on a closed one"; 02, Item 3: "Checks 1 to 5 apply as for close"
abbrev pub InWrongState : List ℕ → Call → Type 0
InWrongState cs (opening now c reply) = state cs c ≢ closed
InWrongState cs (message now c m random reply relay) = state cs c ≡ closed
InWrongState cs (closing now c relay) = state cs c ≡ closed
InWrongState cs (keepalive now c reply relay) = state cs c ≡ closed

-- 5: "message: draw not 80 bytes, reply tray under 64, relay tray under the larger of 64 and the message length; open: reply tray under 64;
-- close: relay tray under 64"; 02, Item 3: "with both trays at least 64"
abbrev pub OfWrongLengths : Call → Type 0
OfWrongLengths (opening now c reply) = length reply < least_buffer
OfWrongLengths (message now c m random reply relay) =
    ((length random ≢ random_bytes) ⊎ (length reply < least_buffer)) ⊎ (length relay < max least_buffer (length m))
OfWrongLengths (closing now c relay) = length relay < least_buffer
OfWrongLengths (keepalive now c reply relay) = (length reply < least_buffer) ⊎ (length relay < least_buffer)

-- a number is one of a list
unfoldable pub is_one_of : ℕ → List ℕ → Bool
is_one_of n [] = false
is_one_of n (x ∷ xs) = eqb n x || is_one_of n xs

-- 6: "not a message that peers send, per the table above"; "Peers send 1, 2, 4, 6, 9, 11, 13."
abbrev pub SentByPeer : List ℕ → Type 0
SentByPeer m = (is_one_of (type_of m) (1 ∷ 2 ∷ 4 ∷ 6 ∷ 9 ∷ 11 ∷ 13 ∷ []) ≡ true) × ((x : Message) × (decode m ≡ some x))

abbrev pub NotSentByPeer : Call → Type 0
NotSentByPeer (opening now c reply) = ⊥
NotSentByPeer (message now c m random reply relay) = SentByPeer m → ⊥
NotSentByPeer (closing now c relay) = ⊥
NotSentByPeer (keepalive now c reply relay) = ⊥

-- 7: "not permitted in this state: .. awaiting permits 1 only, open permits 2, 4, 6, 9, 11, 13"
abbrev pub permitted_types : ℕ → List ℕ
permitted_types s = if eqb s 1 then 1 ∷ [] else if eqb s 2 then 2 ∷ 4 ∷ 6 ∷ 9 ∷ 11 ∷ 13 ∷ [] else []

abbrev pub NotPermittedHere : List ℕ → Call → Type 0
NotPermittedHere cs (opening now c reply) = ⊥
NotPermittedHere cs (message now c m random reply relay) = is_one_of (type_of m) (permitted_types (state cs c)) ≡ false
NotPermittedHere cs (closing now c relay) = ⊥
NotPermittedHere cs (keepalive now c reply relay) = ⊥

-- 8: "type 9 or 11 without a session"
abbrev pub WithoutSession : List ℕ → Call → Type 0
WithoutSession cs (opening now c reply) = ⊥
WithoutSession cs (message now c m random reply relay) =
    ((type_of m ≡ 9) ⊎ (type_of m ≡ 11)) × ((d : ℕ) → in_session cs c d ≡ true → ⊥)
WithoutSession cs (closing now c relay) = ⊥
WithoutSession cs (keepalive now c reply relay) = ⊥

-- each check of a call applies exactly if its sentence holds
pub record EachExactly (tables : Tables) (call : Call) : Type 0 where
  -- "a table isn't 4,096, 5,120 or 144 bytes"
  pub one : Applies 1 tables call ↔ (RightSizes tables → ⊥)
  -- "the reading is 2^40 or more, or .. below the latest"
  pub two : Applies 2 tables call ↔ ((time_limit ≤ time_of call) ⊎ (time_of call < clock tables.allowances))
  -- "connection number 64 or more"
  pub three : Applies 3 tables call ↔ (connection_count ≤ connection_of call)
  pub four : Applies 4 tables call ↔ InWrongState tables.connections call
  pub five : Applies 5 tables call ↔ OfWrongLengths call
  pub six : Applies 6 tables call ↔ NotSentByPeer call
  pub seven : Applies 7 tables call ↔ NotPermittedHere tables.connections call
  pub eight : Applies 8 tables call ↔ WithoutSession tables.connections call
  -- "the charge exceeds the partner's level"
  pub nine : Applies 9 tables call ↔ (level_now (bucket_of tables.allowances (caller_of call)) (time_of call) < price tables call)

-- 02, Item 6: a term that a host may name: "from 600 to 86,400", "naming 0 means 600"
abbrev pub MayBeNamed : ℕ → Type 0
MayBeNamed term = (term ≡ 0) ⊎ ((600 ≤ term) × (term ≤ 86400))

-- "Making a fresh relay has checks 1 and 2 and no trays."; 02, Item 6: "other terms are answered with 6, after checks 1 and 2": what a start is answered
-- with, and that it sends nothing
pub record StartExactly (tables : Tables) (now term : ℕ) (a : Answer) : Type 0 where
  pub done : (a.number ≡ 0) ↔ (RightSizes tables × (now < time_limit) × MayBeNamed term)
  pub one : (a.number ≡ 1) ↔ (RightSizes tables → ⊥)
  pub two : (a.number ≡ 2) ↔ (RightSizes tables × (time_limit ≤ now))
  pub six : (a.number ≡ 6) ↔ (RightSizes tables × (now < time_limit) × (MayBeNamed term → ⊥))
  pub no_other : is_one_of a.number (0 ∷ 1 ∷ 2 ∷ 6 ∷ []) ≡ true
  pub nothing_sent : a ≡ record { number = a.number; reply_length = 0; relay_length = 0; destination = 255; disconnect = false }
