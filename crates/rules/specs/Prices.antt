-- What a call costs as a number, so that no plan has to be followed (02, Item 5), as statements.
use Rattle.std.specs.Prelude.{ℕ, suc, ◌+◌, ◌*◌, ◌≤◌, ◌≡◌, ◌⊎◌, ◌↔◌, List, ltb, length, if◌then◌else◌}
use Rattle.octets.specs.Octets.{part, number_at}
use Rattle.svsc.specs.Messages.{type_of}
use Rattle.rules.specs.Searches.{end_row}
use Rattle.rules.specs.Tables.{Tables, partner_of}
use Rattle.rules.specs.Sessions.{refused_with, established_with, decide_establish}
use Rattle.rules.specs.Decisions.{Decision, version_answered, lease_decided, extension_decided, session_decided, session_ended, data_sent, nothing_asked}
use Rattle.rules.specs.Calls.{Call, opening, message, closing, keepalive}
use Rattle.rules.specs.Charges.{price}
use Rattle.rules.specs.Checks.{precheck}
use Rattle.rules.specs.Effects.{is_accepted, LeaseConditions, Extendable}

-- the bytes that a message of connection c puts into both buffers, by what was decided: the lengths of 01's table of messages
abbrev pub sent_bytes : ℕ → Decision → ℕ
sent_bytes c (version_answered ok) = 0
sent_bytes c (lease_decided d) = if is_accepted d then 38 else 2
sent_bytes c (extension_decided row) = if ltb row (end_row (partner_of c)) then 10 else 2
sent_bytes c (session_decided id (refused_with status)) = 6
sent_bytes c (session_decided id (established_with holder)) = 54 + 49
sent_bytes c (session_ended other) = 1
sent_bytes c (data_sent other bytes) = suc (length bytes)
sent_bytes c nothing_asked = 0

-- one number exactly where something holds, and the other exactly where it doesn't
pub record Either (A : Type 0) (a b n : ℕ) : Type 0 where
  pub so : (n ≡ a) ↔ A
  pub not_so : (n ≡ b) ↔ (A → ⊥)

-- A message that passes checks 1 to 8, by its type; one of type 11 has 1 to 65,534 bytes
pub record MessagePrices (tables : Tables) (now c : ℕ) (m random : List ℕ) (n : ℕ) : Type 0 where
  pub version_answer_lem : type_of m ≡ 1 → n ≡ 34
  pub lease : type_of m ≡ 2
      → ((length m ≡ 2) × Either (LeaseConditions tables.leases now c random) 72 36 n)
      ⊎ ((length m ≡ 26) × Either (LeaseConditions tables.leases now c random) 96 60 n)
  pub extension : type_of m ≡ 4 → Either (Extendable tables.leases now c (part m 1 24)) 67 59 n
  pub establish : type_of m ≡ 6
      → Either ((h : ℕ) × (decide_establish tables.connections tables.leases now c (number_at m 1 4) ≡ established_with h)) 140 43 n
  pub session_end_lem : type_of m ≡ 9 → n ≡ 0
  pub send : type_of m ≡ 11 → n ≡ 32 + 2 * length m
  pub keepalive_message_lem : type_of m ≡ 13 → n ≡ 33

-- "An open costs 45"; "SessionEnd, close and Item 3's call stay free"
pub record Prices (tables : Tables) : Type 0 where
  pub open_price : (now c : ℕ) (reply : List ℕ) → price tables (opening now c reply) ≡ 45
  pub message_prices : (now c : ℕ) (m random reply relay : List ℕ) → precheck tables (message now c m random reply relay) ≡ 0
      → MessagePrices tables now c m random (price tables (message now c m random reply relay))
  pub close_price : (now c : ℕ) (relay : List ℕ) → price tables (closing now c relay) ≡ 0
  pub keepalive_price : (now c : ℕ) (reply relay : List ℕ) → price tables (keepalive now c reply relay) ≡ 0
  -- "the longest send 131,100", and nothing costs more
  pub most : (call : Call) → precheck tables call ≡ 0 → price tables call ≤ 131100
