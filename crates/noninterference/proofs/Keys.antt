-- "a peer key to its owner only": who is told which of the random bytes, and that a stored session-id, peer-id or peer-key is told to nobody.
-- Assumes nothing.
use Rattle.std.specs.Prelude.{if◌then◌else◌}
use Prim.Native.Nat.{ℕ, zero, suc, ◌≤◌, ◌<◌}
use mathlib.Core.Path.{◌≡◌, refl, ◌∙◌}
use mathlib.Core.Logic.{◌≢◌, ◌⊎◌, inl, inr, ⊎_elim}
use mathlib.Core.Bool.{Bool, true, false}
use mathlib.Core.List.{List, [], ◌∷◌}
use native.Mathlib.Omega.{arith}
use lib.ListN.{length, length-append, length-take, length-drop}
use Rattle.octets.specs.Octets.{part, number_at}
use Rattle.svsc.specs.Messages.{establish_request, encode, length_is, when, readings, decode, type_of}
use Rattle.allowance.specs.Meter as meter
use Rattle.rules.specs.Tables.{Tables}
use Rattle.rules.specs.Decisions.{decide_message}
use Rattle.rules.specs.Calls.{Call, message, Outcome}
use Rattle.rules.specs.Sessions.{EstablishDecision, refused_with, established_with, decide_establish}
use Rattle.rules.specs.Plans.{Plan, do_nothing, plan_establish, plan_decided, plan_message, plan_call, plan}
use Rattle.rules.specs.Charges.{price, caller_level, charge}
use Rattle.rules.specs.Checks.{wrong_time, wrong_state, wrong_lengths, not_from_peer, not_permitted, no_session, above_level, first_eight, checks, check}
use Rattle.rules.specs.Step.{outcome, done, step}
use Rattle.rules.specs.Runs.{after}
use Rattle.rules.specs.Bytes.{SameAt}
use Rattle.noninterference.specs.Reading.{NotKeys, SameButKeys, SameTold}
use Rattle.rules.proofs.Messages.{decode_type}
use Rattle.rules.proofs.Plans.{plan_depends}
use Rattle.rules.proofs.Same.{same_refl, same-part, same-all}
use Rattle.noninterference.proofs.SamePlans.{Alike, check-same, plan-same, price-same, sends-same}

-- ---- what stands in a record

-- Bytes 16-63 of connection records never influence an answer or a buffer, nor any other byte of the tables.
module _ (a b : Tables) (call : Call) (same : SameButKeys a b) where
  alike : Alike (λ q. Unit {0}) NotKeys a b call
  alike = record {
    mine = tt;
    heads = λ c i h l u. omega arith;
    sizes = record { connections = same.connections.long; leases = rw same.leases; allowances = rw same.allowances };
    connections = same.connections;
    leases = rw same.leases (same_refl _);
    live_ids = λ id. rw same.leases;
    elsewhere = λ r o. rw same.leases;
    allowance = rw same.allowances;
    clocks = rw same.allowances;
    terms = rw same.allowances;
  }

  pub keys_not_read : SameTold (step a call) (step b call) × SameButKeys (step a call).tables (step b call).tables
  unfolding step done
  keys_not_read = rw (← check-same alike) (go (check a call))
    where
      go : (n : ℕ) → SameTold (outcome n a call) (outcome n b call) × SameButKeys (outcome n a call).tables (outcome n b call).tables
      go zero =
          let x = plan-same alike in (
            sends-same a b call x,
            record { connections = x.connections; leases = same-all x.leases; allowances = rw (price-same alike, same.allowances) },
          )
      go (suc n) = (record { answer = refl; reply = refl; relay = refl }, same)

-- nor those of any later call
pub keys_not_read_later : (calls : List Call) (a b : Tables) → SameButKeys a b → SameButKeys (after a calls) (after b calls)
unfolding meter.after
keys_not_read_later [] a b same = same
keys_not_read_later (call ∷ calls) a b same = keys_not_read_later calls _ _ (keys_not_read a b call same).1

-- ---- the random bytes

module _ (tables : Tables) (now c : ℕ) (m r s reply relay : List ℕ) (long : length r ≡ length s) where
  abbrev first : Call
  first = message now c m r reply relay

  abbrev second : Call
  second = message now c m s reply relay

  check-random : price tables first ≡ price tables second → check tables first ≡ check tables second
  unfolding check checks first_eight wrong_time wrong_state wrong_lengths not_from_peer not_permitted no_session above_level caller_level
  check-random e = rw (long, e)

  -- whatever is looked at of the outcomes of calls with one price is the same, if it is where the call is done
  by-plans : {A : Type 0} (f : Outcome → A) → price tables first ≡ price tables second
      → f (done tables first (plan tables first)) ≡ f (done tables second (plan tables second))
      → f (step tables first) ≡ f (step tables second)
  unfolding step
  by-plans f paid e = rw (check-random paid) (go (check tables second))
    where
      go : (n : ℕ) → f (outcome n tables first) ≡ f (outcome n tables second)
      go zero = e
      go (suc n) = refl

  -- Only a lease and an establish depend on the random bytes.
  pub random_unused : type_of m ≢ 2 → type_of m ≢ 6 → step tables first ≡ step tables second
  unfolding done price plan plan_call charge
  random_unused two six =
      let e =
      plan_depends tables now c r s (decode m)
      (λ x e t. absurd (⊎_elim (λ k. two (decode_type m x e ∙ k)) (λ k. six (decode_type m x e ∙ k)) t)) in
      by-plans (λ o. o) (rw e) (rw e)

  -- ---- an establish request

  id : ℕ
  id = number_at m 1 4

  -- by its length and by what is decided, which no random byte influences
  plan-of : Bool → EstablishDecision → List ℕ → Plan
  plan-of fits d random = if fits then plan_establish tables c id random d else do_nothing tables

  decided : EstablishDecision
  decided = decide_establish tables.connections tables.leases now c id

  is-plan : type_of m ≡ 6 → (random : List ℕ)
      → plan_call tables (message now c m random reply relay) ≡ plan-of (length_is m 5) decided random
  unfolding plan_call plan_message plan_decided decide_message decode readings plan-of decided id
  is-plan t random = rw t (go (length_is m 5))
    where
      go : (fits : Bool) → plan_message tables now c random (when fits (establish_request (number_at m 1 4))) ≡ plan-of fits decided random
      go true = refl
      go false = refl

  module _ (t : type_of m ≡ 6) where
    part-long : (at : ℕ) → length (part r at 16) ≡ length (part s at 16)
    part-long at = unfold part in simp (length-take, length-drop, long)

    -- as many bytes are told, whatever the random ones are
    lengths : (length (plan tables first).reply ≡ length (plan tables second).reply)
        × (length (plan tables first).relay ≡ length (plan tables second).relay)
    unfolding plan plan-of plan_establish encode
    lengths = rw (is-plan t r, is-plan t s) (go (length_is m 5) decided)
      where
        go : (fits : Bool) (d : EstablishDecision)
            → (length (plan-of fits d r).reply ≡ length (plan-of fits d s).reply)
            × (length (plan-of fits d r).relay ≡ length (plan-of fits d s).relay)
        go false d = (refl, refl)
        go true (refused_with status) = (refl, refl)
        go true (established_with h) = (simp (length-append, part-long), simp (length-append, part-long))

    paid : price tables first ≡ price tables second
    unfolding price
    paid = rw (lengths.0, lengths.1)

    -- What the caller is told depends on bytes 0-47 alone, what the holder is told on 0-15 and 48-79 alone, and the answer on none.
    pub told_caller : SameAt (λ i. i < 48) r s → (step tables first).reply ≡ (step tables second).reply
    unfolding done plan plan-of plan_establish encode
    told_caller e = by-plans (λ o. o.reply) paid (rw (is-plan t r, is-plan t s, go (length_is m 5) decided))
      where
        go : (fits : Bool) (d : EstablishDecision) → (plan-of fits d r).reply ≡ (plan-of fits d s).reply
        go false d = refl
        go true (refused_with status) = refl
        go true (established_with h) =
            rw (
              same-part e 0 16 (λ i l u. omega arith),
              same-part e 16 16 (λ i l u. omega arith),
              same-part e 32 16 (λ i l u. omega arith),
            )

    pub told-holder : SameAt (λ i. (i < 16) ⊎ (48 ≤ i)) r s → (step tables first).relay ≡ (step tables second).relay
    unfolding done plan plan-of plan_establish encode
    told-holder e = by-plans (λ o. o.relay) paid (rw (is-plan t r, is-plan t s, go (length_is m 5) decided))
      where
        go : (fits : Bool) (d : EstablishDecision) → (plan-of fits d r).relay ≡ (plan-of fits d s).relay
        go false d = refl
        go true (refused_with status) = refl
        go true (established_with h) =
            rw (
              same-part e 0 16 (λ i l u. inl (omega arith)),
              same-part e 48 16 (λ i l u. inr (omega arith)),
              same-part e 64 16 (λ i l u. inr (omega arith)),
            )

    pub answered_alike : (step tables first).answer ≡ (step tables second).answer
    unfolding done plan plan-of plan_establish encode
    answered_alike = by-plans (λ o. o.answer) paid (rw (is-plan t r, is-plan t s) (go (length_is m 5) decided))
      where
        go : (fits : Bool) (d : EstablishDecision)
            → (done tables first (plan-of fits d r)).answer ≡ (done tables second (plan-of fits d s)).answer
        go false d = refl
        go true (refused_with status) = refl
        go true (established_with h) = simp (length-append, part-long)
