-- What the laws of every call and every run (proofs/Laws) say, as statements. Those of single effects are in Effects.
use Rattle.std.specs.Prelude.{ℕ, ◌≡◌, ◌≢◌, false, List}
use Rattle.std.proofs.Math.Option.{some}
use Rattle.svsc.specs.Messages.{version_answer, decode}
use Rattle.rules.specs.Sizes.{partners, nobody}
use Rattle.rules.specs.Tables.{Tables, partner_of, owner_of, state, peer}
use Rattle.rules.specs.Calls.{Call, opening, message, closing, keepalive, reply_buffer, relay_buffer, Outcome}
use Rattle.rules.specs.Step.{step}
use Rattle.rules.specs.Bytes.{InField, connection_record, lease_record}
use Rattle.rules.specs.Effects.{Dead}

-- "A call is accepted exactly if its answer is 0."
abbrev pub Accepted : Tables → Call → Type 0
Accepted tables call = (step tables call).answer.number ≡ 0

-- "Refusals 1 to 9 report 0, 0, 255, no, and alter no byte, the clock included."
pub record Unchanged (tables : Tables) (call : Call) (o : Outcome) : Type 0 where
  pub answer : o.answer
      ≡ record { number = o.answer.number; reply_length = 0; relay_length = 0; destination = 255; disconnect = false }
  pub tables_stay : o.tables ≡ tables
  pub reply_stays : o.reply ≡ reply_buffer call
  pub relay_stays : o.relay ≡ relay_buffer call

-- What a call of partner p may touch: connections cs, leases ls and destination d after the tables. All is of p, or as it was.
pub record WithinPartner (p : ℕ) (tables : Tables) (cs ls : List ℕ) (d : ℕ) : Type 0 where
  pub connections : (c : ℕ) → partner_of c ≢ p → connection_record cs c ≡ connection_record tables.connections c
  pub leases : (r : ℕ) → owner_of r ≢ p → lease_record ls r ≡ lease_record tables.leases r
  pub destination : d ≢ nobody → partner_of d ≡ p

-- "Two connections are in session exactly if they differ, both are open, are of one partner, and each names the other."
pub record InSession (cs : List ℕ) (c d : ℕ) : Type 0 where
  pub differ : c ≢ d
  pub first_open : state cs c ≡ 2
  pub second_open : state cs d ≡ 2
  pub of_one : partner_of c ≡ partner_of d
  pub names_second : peer cs c ≡ d
  pub names_first : peer cs d ≡ c

-- the places of the allowance record of partner p, and of the clock
abbrev pub InAllowance : ℕ → ℕ → Type 0
InAllowance p i = InField 16 p 0 16 i

abbrev pub InClock : ℕ → Type 0
InClock i = InField 16 partners 8 8 i

-- "only type 1 with ok 0 hangs up"; 02, Item 3: "unanswered for 60 seconds or more, .. hang-up yes"
abbrev pub EndsCaller : List ℕ → Call → Type 0
EndsCaller cs (opening now c reply) = ⊥
EndsCaller cs (message now c m random reply relay) = decode m ≡ some (version_answer 0)
EndsCaller cs (closing now c relay) = ⊥
EndsCaller cs (keepalive now c reply relay) = Dead cs now c
