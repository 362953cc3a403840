-- Which calls are charged, and what each costs in history, in numbers. Assumes nothing.
use Prim.Native.Nat.{ℕ, ◌+◌}
use mathlib.Core.Path.{◌≡◌, refl}
use mathlib.Core.Logic.{◌≢◌, ◌↔◌}
use mathlib.Core.Bool.{true, false}
use mathlib.Core.List.{List}
use native.Mathlib.Omega.{arith}
use lib.ListN.{length}
use borrow.Author.Tests.{eq-eqb, ne_eqb}
use Rattle.svsc.specs.Messages.{type_of}
use Rattle.rules.specs.Calls.{opening, message, closing, keepalive, Answer}
use Rattle.rules.specs.Charges.{charged, received, cost}
use Rattle.rules.proofs.Exactly.{eq-exactly, not-exactly}

-- "Opens and messages other than SessionEnd are charged"
pub open_charged : (now c : ℕ) (reply : List ℕ) → charged (opening now c reply) ≡ true
open_charged now c reply = refl

pub message-charged : (now c : ℕ) (m random reply relay : List ℕ) → (charged (message now c m random reply relay) ≡ true) ↔ (type_of m ≢ 9)
message-charged now c m random reply relay = not-exactly _ (eq-exactly (type_of m) 9)

pub close_free : (now c : ℕ) (relay : List ℕ) → charged (closing now c relay) ≡ false
close_free now c relay = refl

-- 02, Item 3: "free of charge"
pub keepalive-free : (now c : ℕ) (reply relay : List ℕ) → charged (keepalive now c reply relay) ≡ false
keepalive-free now c reply relay = refl

-- 02, Item 5: "32 plus the bytes received plus the bytes that it puts into both trays", as the answer tells them. "SessionEnd, close and Item 3's call
-- stay free."
module _ (answer : Answer) where
  abbrev sent : ℕ
  sent = answer.reply_length + answer.relay_length

  pub open_cost_lem : (now c : ℕ) (reply : List ℕ) → cost (opening now c reply) answer ≡ 32 + sent
  unfolding cost
  open_cost_lem now c reply = omega arith

  pub message-cost : (now c : ℕ) (m random reply relay : List ℕ) → type_of m ≢ 9
      → cost (message now c m random reply relay) answer ≡ 32 + length m + sent
  unfolding cost
  message-cost now c m random reply relay n = rw (ne_eqb (type_of m) 9 n) (omega arith)

  pub session_end-cost : (now c : ℕ) (m random reply relay : List ℕ) → type_of m ≡ 9 → cost (message now c m random reply relay) answer ≡ 0
  unfolding cost
  session_end-cost now c m random reply relay e = rw (eq-eqb (type_of m) 9 e)

  pub close_cost : (now c : ℕ) (relay : List ℕ) → cost (closing now c relay) answer ≡ 0
  unfolding cost
  close_cost now c relay = refl

  pub keepalive-cost : (now c : ℕ) (reply relay : List ℕ) → cost (keepalive now c reply relay) answer ≡ 0
  unfolding cost
  keepalive-cost now c reply relay = refl

-- nor does it receive anything
pub keepalive-received : (now c : ℕ) (reply relay : List ℕ) → received (keepalive now c reply relay) ≡ 0
keepalive-received now c reply relay = refl
