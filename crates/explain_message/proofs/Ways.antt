-- What decided a message, what it costs, and what its checks have shown, over plain values. Assumes nothing.
use Rattle.std.specs.Prelude.{if◌then◌else◌, Ok}
use Prim.Native.Nat.{ℕ, ◌≤◌, ◌<◌}
use mathlib.Core.Path.{◌≡◌, refl, sym, ◌∙◌}
use mathlib.Core.Bool.{true, false}
use mathlib.Core.List.{List}
use native.Mathlib.Decide.{ℕ_discrete}
use lib.Dec.{eqb}
use lib.ListN.{length, replicate, length-replicate}
use borrow.Author.Tests.{eq-eqb, ne_eqb}
use Rattle.octets.specs.Octets.{byte_at}
use Rattle.svsc.specs.Messages.{type_of, decode, from_peer}
use Rattle.rules.specs.Sizes.{connection_count, allowances_size, greatest_price}
use Rattle.rules.specs.Tables.{Tables}
use Rattle.rules.specs.Decisions.{Decision, decide_message}
use Rattle.rules.specs.Calls.{Call, message}
use Rattle.rules.specs.Charges.{charged}
use Rattle.rules.specs.Checks.{precheck}
use Rattle.rules.specs.Reasons.{undecided, asked}
use Rattle.rules.proofs.Checks.{passed, from-peer}
use Rattle.rules.proofs.Messages.{by_type}
use Rattle.rules.proofs.Plans.{every_decision, lease-decision}
use Rattle.rules.proofs.Prices.{prices}
use Rattle.checks.proofs.MessageChecks.{ends}
use Rattle.decisions.specs.Decided.{meaning}
use Rattle.message_refusal.specs.declared.Assessment.{Assessment}
use Rattle.message_refusal.specs.Assessed.{assessed_as, assessed}
use Rattle.message_refusal.proofs.MessageStops.{assessed-price, assessed-decision}
use Rattle.reasons.specs.declared.Named.{Named}
use Rattle.reasons.specs.Coded.{named}
use Rattle.explain_message.specs.Naming.{decided_by}

-- ---- what decided a message

module _ (tables : Tables) (time c : ℕ) (m random reply relay : List ℕ) (h : precheck tables (message time c m random reply relay) ≡ 0) where
  abbrev sent : Call
  sent = message time c m random reply relay

  abbrev decision : Decision
  decision = decide_message tables.connections tables.leases time c random (decode m)

  fits : from_peer m ≡ true
  fits = from-peer tables time c m random reply relay h

  of-lease : type_of m ≡ 2 → asked tables sent ≡ decided_by decision
  unfolding asked
  of-lease t = rw (eq-eqb (type_of m) 2 t, lease-decision tables time c m random fits t)

  module _ (n : type_of m ≡ 2 → ⊥) where
    of_session : type_of m ≡ 6 → asked tables sent ≡ decided_by decision
    unfolding asked decide_message
    of_session t = rw (ne_eqb (type_of m) 2 n, eq-eqb (type_of m) 6 t, (by_type m fits).six t)

    of_others : (type_of m ≡ 6 → ⊥) → asked tables sent ≡ decided_by decision
    unfolding asked
    of_others k =
        rw (ne_eqb (type_of m) 2 n, ne_eqb (type_of m) 6 k)
        (every_decision (λ (x : Decision). undecided ≡ decided_by x) tables time c m random reply relay h
        (record {
          version_answered_lem = λ t ok. refl;
          lease_decided_lem = λ t cookie. absurd (n t);
          extension_decided_lem = λ t cookie. refl;
          session_decided_lem = λ t id o. absurd (k t);
          session_ended_lem = λ t s. refl;
          data_sent_lem = λ t s bytes l. refl;
          nothing_asked_lem = refl;
        }))

  -- what the message asks to be decided is what was decided
  pub asked_is : asked tables sent ≡ decided_by decision
  asked_is = go (ℕ_discrete (type_of m) 2) (ℕ_discrete (type_of m) 6)
    where
      go : Dec (type_of m ≡ 2) → Dec (type_of m ≡ 6) → asked tables sent ≡ decided_by decision
      go (yes t) k = of-lease t
      go (no n) (yes t) = of_session n t
      go (no n) (no k) = of_others n k

-- ---- what a message costs

module _ (time c : ℕ) (m random reply relay : List ℕ) (k : ℕ) (hk : k ≡ byte_at m 0) where
  pub message-free : k ≡ 9 → charged (message time c m random reply relay) ≡ false
  message-free h = rw (ends m, ← hk, eq-eqb k 9 h)

  pub message-charged : (k ≡ 9 → ⊥) → charged (message time c m random reply relay) ≡ true
  message-charged h = rw (ends m, ← hk, ne_eqb k 9 h)

-- ---- what is handed on

module _
    (tables : Tables) (time c : ℕ) (m random reply relay : List ℕ) (f : Assessment)
    (eight : 0 ≡ precheck tables (message time c m random reply relay))
    (all : assessed_as (Ok f) m random ≡ assessed tables time c m random reply relay)
  where
    pub decided-is : (k : ℕ) (x : Named) → x ≡ named (if eqb k 0 then decided_by (meaning f.decision m random) else undecided)
        → x ≡ named (if eqb k 0 then asked tables (message time c m random reply relay) else undecided)
    decided-is k x e = e ∙ rw (assessed-decision tables time c m random reply relay f eight all, asked_is tables time c m random reply relay (sym eight))

-- what is known where none of the first eight stops it, whatever its buffers of such lengths hold
pub record Known (tables : Tables) (c : ℕ) (f : Assessment) : Type 0 where
  pub connection : c < connection_count
  pub allowances : length tables.allowances ≡ allowances_size
  pub price_most : f.price ≤ greatest_price

pub message_passed : (tables : Tables) (time c : ℕ) (m random : List ℕ) (n l : ℕ) (f : Assessment)
    → ((reply relay : List ℕ) → length reply ≡ n → length relay ≡ l → 0 ≡ precheck tables (message time c m random reply relay))
    → ((reply relay : List ℕ) → length reply ≡ n → length relay ≡ l → assessed_as (Ok f) m random ≡ assessed tables time c m random reply relay)
    → Known tables c f
message_passed tables time c m random n l f eight all =
    let reply : List ℕ = replicate n 0 in
    let relay : List ℕ = replicate l 0 in
    let call = message time c m random reply relay in
    let z = eight reply relay (length-replicate n 0) (length-replicate l 0) in
    let ok = passed tables call (sym z) in
    record {
      connection = ok.known;
      allowances = ok.allowances;
      price_most = rw (assessed-price tables time c m random reply relay f z (all reply relay (length-replicate n 0) (length-replicate l 0))) ((prices tables).most call (sym z));
    }
