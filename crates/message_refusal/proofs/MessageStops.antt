-- The ways out of the checks of a message, over plain values. Assumes nothing.
use Rattle.std.specs.Prelude.{if◌then◌else◌, Option, Some, None, Result, Ok, Err}
use Prim.Native.Nat.{ℕ, ◌≤◌, ◌<◌}
use mathlib.Core.Path.{◌≡◌, refl, sym, ap, ◌∙◌}
use mathlib.Core.Bool.{Bool, true, false, not, ◌&&◌, ◌||◌}
use mathlib.Core.List.{List, [], ◌∷◌, ◌++◌}
use native.Mathlib.Decide.{ℕ_discrete}
use lib.Dec.{ltb}
use lib.ListN.{length, replicate, length-replicate}
use borrow.Author.Tests.{eq-eqb, ne_eqb, not-false}
use Rattle.octets.specs.Octets.{byte_at}
use Rattle.svsc.specs.Messages.{type_of, decode, from_peer, longest_message}
use Rattle.allowance.specs.Bucket.{level_now}
use Rattle.rules.specs.Sizes.{connection_count, leases_size, allowances_size, random_bytes}
use Rattle.rules.specs.Tables.{Tables, partner_of, bucket_of, state, peer, in_session, has_session, clock}
use Rattle.rules.specs.Decisions.{Decision, decide_message}
use Rattle.rules.specs.Calls.{Call, message}
use Rattle.rules.specs.Charges.{price, caller_level}
use Rattle.rules.specs.Checks.{wrong_size, wrong_time, unknown_connection, wrong_state, wrong_lengths, not_from_peer, permits, not_permitted, needs_session, no_session, above_level, past_limit, first_eight, first_applying, precheck, check}
use Rattle.rules.proofs.Checks.{passed as shown, from-peer, random-length}
use Rattle.rules.proofs.Plans.{every_decision}
use Rattle.rules.proofs.Prices.{message-price, prices}
use Rattle.checks.proofs.MessageChecks.{type_known, peer-some, peer-length}
use Rattle.refusal_numbers.specs.declared.Refusal.{Refusal}
use Rattle.refusal_numbers.specs.declared.Refusal.TheVariants.{NoSession}
use Rattle.refusal_numbers.specs.Numbers.{number_of, answer_number}
use Rattle.refusal_numbers.proofs.Numbers.{number-some}
use Rattle.refusals.specs.Passed.{first_three}
use Rattle.refusals.proofs.Stops.{stopped, passed, first_passed, others_passed, last-left}
use Rattle.decisions.specs.Decided.{meaning, naming, price_of}
use Rattle.message_refusal.specs.declared.Assessment.{Assessment}
use Rattle.message_refusal.specs.Own.{own_checks, session_check, found}
use Rattle.message_refusal.specs.Assessed.{Assessed, assessed_of, assessed_as, stopped_by, assessed}

-- ---- checks 4 to 7

module _ (cs : List ℕ) (time c : ℕ) (m random reply relay : List ℕ) (s : ℕ) (hs : s ≡ state cs c) where
  abbrev sent : Call
  sent = message time c m random reply relay

  pub own-wrong-state : s ≡ 0 → 4 ≡ own_checks cs sent
  unfolding own_checks wrong_state first_applying
  own-wrong-state h = rw (← hs, eq-eqb s 0 h)

  module _ (n : s ≡ 0 → ⊥) (x : Bool) (hx : x ≡ wrong_lengths sent) where
    pub own-wrong_lengths : x ≡ true → 5 ≡ own_checks cs sent
    unfolding own_checks wrong_state first_applying
    own-wrong_lengths h = rw (← hs, ne_eqb s 0 n, ← hx, h)

    module _ (nx : x ≡ false) (y : Bool) (hy : y ≡ from_peer m) where
      pub own-not-from-peer : not y ≡ true → 6 ≡ own_checks cs sent
      unfolding own_checks wrong_state not_from_peer first_applying
      own-not-from-peer h = rw (← hs, ne_eqb s 0 n, ← hx, nx, ← hy, h)

      module _ (ny : not y ≡ false) (k : ℕ) (hk : k ≡ byte_at m 0) (p : Bool) (hp : p ≡ permits s k) where
        type_is : type_of m ≡ k
        type_is = type_known m (sym hy ∙ not-false y ny) ∙ sym hk

        pub own-not-permitted : not p ≡ true → 7 ≡ own_checks cs sent
        unfolding own_checks wrong_state not_from_peer not_permitted first_applying
        own-not-permitted h = rw (← hs, ne_eqb s 0 n, ← hx, nx, ← hy, ny, type_is, ← hp, h)

        pub own_pass : not p ≡ false → 0 ≡ own_checks cs sent
        unfolding own_checks wrong_state not_from_peer not_permitted first_applying
        own_pass h = rw (← hs, ne_eqb s 0 n, ← hx, nx, ← hy, ny, type_is, ← hp, h)

-- ---- check 8

module _ (cs : List ℕ) (c k : ℕ) (t : Bool) (ht : t ≡ needs_session k) where
  pub none_needed : t ≡ false → Ok None ≡ session_check cs c k
  unfolding session_check
  none_needed h = rw (← ht, h)

  -- d, the peer that the connection names, being in session with it or not
  module _ (nt : t ≡ true) (d : ℕ) (hd : d ≡ peer cs c) (s : Bool) (hs : s ≡ in_session cs c d) where
    in_session_lem : has_session cs c ≡ s
    unfolding has_session
    in_session_lem = rw (← hd) (sym hs)

    pub none-there : s ≡ false → Err NoSession ≡ session_check cs c k
    unfolding session_check
    none-there h = rw (← ht, nt, in_session_lem, h)

    pub one-there : s ≡ true → Ok (Some d) ≡ session_check cs c k
    unfolding session_check
    one-there h = rw (← ht, nt, in_session_lem, h, hd)

-- ---- checks 1 to 8

module _ (tables : Tables) (time c : ℕ) (m random reply relay : List ℕ) (e : 0 ≡ first_three tables time c) where
  abbrev told : Call
  told = message time c m random reply relay

  four : List Bool
  four = wrong_state tables.connections told ∷ wrong_lengths told ∷ not_from_peer told ∷ not_permitted tables.connections told ∷ []

  after-three : precheck tables told ≡ first_applying 4 (four ++ (no_session tables.connections told ∷ []))
  unfolding first_three precheck first_eight wrong_time four
  after-three = passed 0 (wrong_size tables ∷ (past_limit time || ltb time (clock tables.allowances)) ∷ unknown_connection told ∷ []) _ 0 e refl

  pub own-stop : (refusal : Refusal) → number_of refusal ≡ own_checks tables.connections told → number_of refusal ≡ precheck tables told
  unfolding own_checks four
  own-stop refusal f = stopped 3 four (no_session tables.connections told ∷ []) _ f (number-some refusal) ∙ sym after-three

  module _ (f : 0 ≡ own_checks tables.connections told) (type : ℕ) (ht : type ≡ byte_at m 0) where
    sent-by-peer : from_peer m ≡ true
    unfolding own_checks not_from_peer
    sent-by-peer = not-false _ (first_passed 5 _ _ (others_passed 4 _ _ (others_passed 3 _ _ (sym f))))

    -- what check 8 finds is all that is left
    module _ (r : Result (Option ℕ) Refusal) (hr : r ≡ session_check tables.connections c type) where
      pub session-number : answer_number r ≡ precheck tables told
      unfolding own_checks four no_session session_check first_applying
      session-number =
          ap answer_number hr
          ∙ sym
          (after-three ∙ passed 3 four (no_session tables.connections told ∷ []) 0 f refl
          ∙ rw (type_known m sent-by-peer ∙ sym ht) (by (needs_session type) (has_session tables.connections c)))
        where
          by : (t s : Bool) → first_applying 8 ((t && not s) ∷ []) ≡ answer_number (if t then (if s then Ok (Some (peer tables.connections c)) else Err NoSession) else Ok None)
          by true true = refl
          by true false = refl
          by false s = refl

      pub session_found : (p : Option ℕ) → r ≡ Ok p → p ≡ found tables.connections c m
      unfolding session_check found
      session_found p z = rw (type_known m sent-by-peer ∙ sym ht) (by (needs_session type) (has_session tables.connections c) (sym z ∙ hr))
        where
          by : (t s : Bool) → Ok p ≡ (if t then (if s then Ok (Some (peer tables.connections c)) else Err NoSession) else Ok None)
              → p ≡ (if t then Some (peer tables.connections c) else None)
          by true true h = cc
          by true false h = absurd (cc)
          by false s h = cc

-- ---- all nine

-- one of checks 1 to 8 stops it
pub assessed-stop : (tables : Tables) (time c : ℕ) (m random reply relay : List ℕ) (refusal : Refusal)
    → number_of refusal ≡ precheck tables (message time c m random reply relay)
    → stopped_by (number_of refusal) ≡ assessed tables time c m random reply relay
unfolding assessed
assessed-stop tables time c m random reply relay refusal e = rw (← e, ne_eqb (number_of refusal) 0 (number-some refusal))

-- what eight passed checks show; `other` is what they found
module _ (tables : Tables) (time c : ℕ) (m random reply relay : List ℕ) (z : 0 ≡ precheck tables (message time c m random reply relay))
    (other : ℕ) (h : (p : ℕ) → found tables.connections c m ≡ Some p → other ≡ p) where
  abbrev call : Call
  call = message time c m random reply relay

  peer-found : needs_session (type_of m) ≡ true → other ≡ peer tables.connections c
  unfolding found
  peer-found t = h _ (rw t)

  -- what was found is what the caller's record names
  named : naming other (decide_message tables.connections tables.leases time c random (decode m))
      ≡ decide_message tables.connections tables.leases time c random (decode m)
  named =
      every_decision (λ d. naming other d ≡ d) tables time c m random reply relay (sym z)
      (record {
        version_answered_lem = λ t ok. refl;
        lease_decided_lem = λ t cookie. refl;
        extension_decided_lem = λ t cookie. refl;
        session_decided_lem = λ t id o. refl;
        session_ended_lem = λ t s. rw (peer-found (rw t));
        data_sent_lem = λ t s bytes l. rw (peer-found (rw t));
        nothing_asked_lem = refl;
      })

  price-known : (d : Decision) (n : ℕ) → d ≡ decide_message tables.connections tables.leases time c random (decode m) → n ≡ price_of c m d
      → n ≡ price tables call
  price-known d n hd hn = hn ∙ rw hd (go (ℕ_discrete (type_of m) 9))
    where
      go : Dec (type_of m ≡ 9)
          → price_of c m (decide_message tables.connections tables.leases time c random (decode m)) ≡ price tables call
      go (yes t) = rw (eq-eqb (type_of m) 9 t) (sym (((prices tables).message_prices time c m random reply relay (sym z)).session_end_lem t))
      go (no k) = rw (ne_eqb (type_of m) 9 k) (sym (message-price tables time c m random reply relay (sym z) k))

  -- the decision, its price, and check 9
  pub all-assessed : (d : Decision) (n k : ℕ) → d ≡ naming other (decide_message tables.connections tables.leases time c random (decode m))
      → n ≡ price_of c m d → k ≡ (if ltb (level_now (bucket_of tables.allowances (partner_of c)) time) n then 9 else 0)
      → assessed_of k n d ≡ assessed tables time c m random reply relay
  unfolding assessed above_level caller_level
  all-assessed d n k hd hn hk =
      let paid = price-known d n (hd ∙ named) hn in
      rw (← z, last-left tables call z, hk, paid, hd ∙ named)

pub record EightPassed (tables : Tables) (c : ℕ) (m random : List ℕ) : Type 0 where
  pub known : c < connection_count
  pub leases : length tables.leases ≡ leases_size
  pub allowances : length tables.allowances ≡ allowances_size
  pub random_size : length random ≡ random_bytes
  pub some : 1 ≤ length m
  pub short : length m ≤ longest_message

-- what they show of buffers of any content
pub eight-known : (tables : Tables) (time c : ℕ) (m random : List ℕ) (n l : ℕ)
    → ((reply relay : List ℕ) → length reply ≡ n → length relay ≡ l → 0 ≡ precheck tables (message time c m random reply relay))
    → EightPassed tables c m random
eight-known tables time c m random n l e =
    let z = sym (e (replicate n 0) (replicate l 0) (length-replicate n 0) (length-replicate l 0)) in
    let ok = shown tables _ z in
    let sent = from-peer tables time c m random _ _ z in
    record {
      known = ok.known;
      leases = ok.leases;
      allowances = ok.allowances;
      random_size = random-length tables time c m random _ _ z;
      some = peer-some m sent;
      short = peer-length m sent;
    }

-- ---- the three parts of what is handed on

module _
    (tables : Tables) (time c : ℕ) (m random reply relay : List ℕ) (a : Assessment)
    (z : 0 ≡ precheck tables (message time c m random reply relay))
    (e : assessed_as (Ok a) m random ≡ assessed tables time c m random reply relay)
  where
    abbrev judged : Call
    judged = message time c m random reply relay

    handed_on : assessed_as (Ok a) m random
        ≡ assessed_of (check tables judged) (price tables judged) (decide_message tables.connections tables.leases time c random (decode m))
    unfolding assessed
    handed_on = e ∙ rw (← z)

    pub assessed-number : answer_number a.last ≡ check tables judged
    assessed-number = ap (λ (x : Assessed). x.number) handed_on

    pub assessed-price : a.price ≡ price tables judged
    assessed-price = ap (λ (x : Assessed). x.price) handed_on

    pub assessed-decision : meaning a.decision m random ≡ decide_message tables.connections tables.leases time c random (decode m)
    assessed-decision = ap (λ (x : Assessed). x.decision) handed_on
