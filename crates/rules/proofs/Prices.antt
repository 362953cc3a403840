-- What each call costs as a number: the bytes that it sends are known from what was decided. Assumes nothing.
use Rattle.std.specs.Prelude.{if◌then◌else◌}
use Prim.Native.Nat.{ℕ, ◌+◌, ◌*◌, ◌≤◌}
use mathlib.Core.Path.{◌≡◌, refl, ap, ◌∙◌}
use mathlib.Core.Logic.{◌≢◌, ◌⊎◌, inl, inr, ⊎_elim, ◌↔◌}
use mathlib.Core.Bool.{Bool, true, false, not, false≢true}
use mathlib.Core.Option.{some}
use mathlib.Core.List.{List}
use native.Mathlib.Omega.{arith}
use native.Mathlib.Decide.{ℕ_discrete}
use lib.Dec.{eqb, ltb, lit≤}
use lib.ListN.{length, length-append, drop}
use borrow.Author.Tests.{eq-eqb, ne_eqb}
use Rattle.octets.specs.Octets.{part, number_at, big_endian}
use Rattle.octets.proofs.Numbers.{length-big_endian}
use Rattle.octets.proofs.Parts.{length_part}
use Rattle.svsc.specs.Messages.{lease_granted, established, establish_notification, longest_message, cookie_bytes, Message, version_answer, extension_request, establish_request, data_send, keepalive_message, type_of, encode, decode, digits, from_peer}
use Rattle.rules.specs.Sizes.{call_cost, greatest_price, random_bytes}
use Rattle.rules.specs.Searches.{end_row}
use Rattle.rules.specs.Tables.{Tables, partner_of, id_of, cookie_at, cookie_of}
use Rattle.rules.specs.Leases.{LeaseDecision, holds_lease, no_spare_row, cookie_in_use, no_free_id, renewed, granted, decide_lease, lease_end, row_to_extend}
use Rattle.rules.specs.Sessions.{EstablishDecision, refused_with, established_with, decide_establish}
use Rattle.rules.specs.Decisions.{Decision, lease_decided, extension_decided, session_decided, decide_message}
use Rattle.rules.specs.Calls.{Call, opening, message, closing, keepalive}
use Rattle.rules.specs.Plans.{Plan, plan_lease, plan_extension, plan_establish, plan_end, plan_data, plan_version_answer, plan_open, plan_decided, plan_message, plan_call, plan}
use Rattle.rules.specs.Charges.{price}
use Rattle.rules.specs.Checks.{precheck}
use Rattle.rules.specs.Effects.{is_accepted, LeaseConditions, Extendable}
use Rattle.rules.specs.Prices.{sent_bytes, Either, MessagePrices, Prices}
use Rattle.rules.proofs.Checks.{Passed, passed, random-length, from-peer}
use Rattle.rules.proofs.Messages.{peer-length, answer-length, lease-length, extension-length, establish-length, keepalive-length, by_type, data_read, data_length}
use Rattle.rules.proofs.Connections.{all_keys}
use Rattle.rules.proofs.Decisions.{is-renewed, is-granted}
use Rattle.rules.proofs.Leases.{lease-exactly, extension-exactly}
use Rattle.rules.proofs.Plans.{by_test, every_decision, lease-decision}

-- ---- the lengths of what is told

module _ (s p k : List ℕ) (hs : length s ≡ 16) (hp : length p ≡ 16) (hk : length k ≡ 16) where
  pub keys_length : length (encode (establish_notification s p k)) ≡ 49
  unfolding encode
  keys_length = omega (arith, all_keys s p k hs hp hk)

  pub told-length : (id : ℕ) → length (encode (established id s p k)) ≡ 54
  unfolding encode
  told-length id = simp length-append (omega (arith, length-big_endian 4 id))

lease-told-length : (id until : ℕ) (cookie : List ℕ) → length cookie ≡ cookie_bytes → length (encode (lease_granted id cookie until)) ≡ 38
unfolding encode
lease-told-length id until cookie e = simp (length-append, length-big_endian) (omega arith)

-- ---- a message that passes checks 1 to 8

module _
    (tables : Tables) (now c : ℕ) (m random reply relay : List ℕ) (h : precheck tables (message now c m random reply relay) ≡ 0)
  where
    open tables use {connections as cs, leases as ls}

    abbrev sent : Call
    sent = message now c m random reply relay

    abbrev decision : Decision
    decision = decide_message cs ls now c random (decode m)

    abbrev bytes : Plan → ℕ
    bytes x = length x.reply + length x.relay

    both_ways : (t : Bool) (x y : Plan) {a b : ℕ} → bytes x ≡ a → bytes y ≡ b → bytes (if t then x else y) ≡ (if t then a else b)
    both_ways true x y e f = e
    both_ways false x y e f = f

    ok : Passed tables sent
    ok = passed tables sent h

    long : length random ≡ random_bytes
    long = random-length tables now c m random reply relay h

    key : (at : ℕ) → at + 16 ≤ 80 → length (part random at 16) ≡ 16
    key at l = length_part random at 16 (omega (arith, long))

    answer-bytes : (ok : ℕ) → bytes (plan_version_answer tables c ok) ≡ 0
    unfolding plan_version_answer
    answer-bytes ok = by_test (λ (x : Plan). bytes x ≡ 0) (eqb ok 1) (λ e. refl) (λ e. refl)

    lease-bytes : (cookie : List ℕ) (d : LeaseDecision) → decide_lease cs ls now c random cookie ≡ d
        → bytes (plan_lease tables now c d) ≡ sent_bytes c (lease_decided d)
    unfolding plan_lease encode
    lease-bytes cookie holds_lease e = refl
    lease-bytes cookie no_spare_row e = refl
    lease-bytes cookie cookie_in_use e = refl
    lease-bytes cookie no_free_id e = refl
    lease-bytes cookie (renewed row) e =
        let is = is-renewed ls now c random cs cookie row e in
        let size = length_part ls (cookie_at row) cookie_bytes (omega (arith, is.own.high, ok.known, ok.leases)) in
        let until = lease_end tables.allowances now in
        omega (arith, lease-told-length (id_of ls row) until (cookie_of ls row) (unfold cookie_of in size))
    lease-bytes cookie (granted row id drawn) e =
        let is = is-granted ls now c random cs cookie row id drawn e in
        let size = length_part random 0 cookie_bytes (omega (arith, long)) in
        omega (arith, lease-told-length id (lease_end tables.allowances now) drawn (rw is.cookie_is size))

    extension-bytes : (row : ℕ) → bytes (plan_extension tables now c row) ≡ sent_bytes c (extension_decided row)
    unfolding plan_extension encode big_endian
    extension-bytes row = both_ways (ltb row (end_row (partner_of c))) _ _ refl refl

    establish-bytes : (id : ℕ) (d : EstablishDecision) → bytes (plan_establish tables c id random d) ≡ sent_bytes c (session_decided id d)
    unfolding plan_establish
    establish-bytes id (refused_with status) = unfold encode big_endian in refl
    establish-bytes id (established_with holder) =
        rw (
          told-length _ _ _ (key 0 (lit≤ tt)) (key 16 (lit≤ tt)) (key 32 (lit≤ tt)) id,
          keys_length _ _ _ (key 0 (lit≤ tt)) (key 48 (lit≤ tt)) (key 64 (lit≤ tt)),
        )

    sent-bytes : bytes (plan_decided tables now c random decision) ≡ sent_bytes c decision
    unfolding plan_decided plan_end plan_data encode
    sent-bytes =
        every_decision (λ d. bytes (plan_decided tables now c random d) ≡ sent_bytes c d) tables now c m random reply relay h
        (record {
          version_answered_lem = λ t. answer-bytes;
          lease_decided_lem = λ t cookie. lease-bytes cookie (decide_lease cs ls now c random cookie) refl;
          extension_decided_lem = λ t cookie. extension-bytes (row_to_extend ls now c cookie);
          session_decided_lem = λ t id o. establish-bytes id (decide_establish cs ls now c id);
          session_ended_lem = λ t s. refl;
          data_sent_lem = λ t s bytes l. omega arith;
          nothing_asked_lem = refl;
        })

    -- "32 plus the bytes received plus the bytes that it puts into both trays"
    pub message-price : type_of m ≢ 9 → price tables sent ≡ call_cost + length m + sent_bytes c decision
    unfolding price plan plan_call plan_message
    message-price n =
        let told : length (plan tables sent).reply + length (plan tables sent).relay ≡ sent_bytes c decision = sent-bytes in
        ap (λ (t : Bool). if not t then call_cost + length m + length (plan tables sent).reply + length (plan tables sent).relay else 0)
        (ne_eqb (type_of m) 9 n)
        ∙ omega (arith, told)

    -- What is sent is at most as much as came, or as the longest message is.
    bytes_most : sent_bytes c decision ≤ longest_message
    bytes_most =
        let came = peer-length m (from-peer tables now c m random reply relay h) in
        every_decision (λ d. sent_bytes c d ≤ longest_message) tables now c m random reply relay h
        (record {
          version_answered_lem = λ t ok. lit≤ tt;
          lease_decided_lem = λ t cookie. by_test (λ n. n ≤ longest_message) (is_accepted (decide_lease cs ls now c random cookie)) (λ _. lit≤ tt) (λ _. lit≤ tt);
          extension_decided_lem = λ t cookie. by_test (λ n. n ≤ longest_message) (ltb (row_to_extend ls now c cookie) (end_row (partner_of c))) (λ _. lit≤ tt) (λ _. lit≤ tt);
          session_decided_lem = λ t id o. go (decide_establish cs ls now c id) id;
          session_ended_lem = λ t s. lit≤ tt;
          data_sent_lem = λ t s bytes l. omega arith;
          nothing_asked_lem = lit≤ tt;
        })
      where
        go : (d : EstablishDecision) (id : ℕ) → sent_bytes c (session_decided id d) ≤ longest_message
        go (refused_with status) id = lit≤ tt
        go (established_with holder) id = lit≤ tt

    -- ---- each type

    fits : from_peer m ≡ true
    fits = from-peer tables now c m random reply relay h

    -- a message that is read as x
    price-of : (x : Message) → decode m ≡ some x → type_of m ≢ 9
        → price tables sent ≡ call_cost + length m + sent_bytes c (decide_message cs ls now c random (some x))
    price-of x e n = message-price n ∙ rw e

    version_price : type_of m ≡ 1 → price tables sent ≡ 34
    unfolding decide_message
    version_price t = ⊎_elim (λ e. price-is e) (λ e. price-is e) ((by_type m fits).one t)
      where
        price-is : {ok : ℕ} → decode m ≡ some (version_answer ok) → price tables sent ≡ 34
        price-is {ok} e = omega (arith, price-of (version_answer ok) e (λ z. omega arith), answer-length m fits t)

    -- one number or the other, by a test that decides something
    either : {A : Type 0} (t : Bool) (base a b : ℕ) → (t ≡ true) ↔ A → a ≢ b → price tables sent ≡ base + (if t then a else b)
        → Either A (base + a) (base + b) (price tables sent)
    either true base a b x d e = record {
      so = ((λ z. x.0 refl), (λ k. e));
      not_so = ((λ z. absurd (d (omega arith))), (λ k. absurd (k (x.0 refl))));
    }
    either false base a b x d e = record {
      so = ((λ z. absurd (d (omega arith))), (λ k. absurd (false≢true (x.1 k))));
      not_so = ((λ z k. false≢true (x.1 k)), (λ k. e));
    }

    lease-price : type_of m ≡ 2
        → ((length m ≡ 2) × Either (LeaseConditions ls now c random) 72 36 (price tables sent))
        ⊎ ((length m ≡ 26) × Either (LeaseConditions ls now c random) 96 60 (price tables sent))
    lease-price t = ⊎_elim (λ l. inl (l, by_length 34 (omega arith))) (λ l. inr (l, by_length 58 (omega arith))) (lease-length m fits t)
      where
        by_length : (base : ℕ) → call_cost + length m ≡ base → Either (LeaseConditions ls now c random) (base + 38) (base + 2) (price tables sent)
        by_length base l =
            either (is_accepted (decide_lease cs ls now c random (part m 2 24))) base 38 2
            (lease-exactly ls now c random cs (part m 2 24)) (λ z. omega arith)
            (message-price (λ z. omega arith) ∙ rw (l, lease-decision tables now c m random fits t))

    extension-price : type_of m ≡ 4 → Either (Extendable ls now c (part m 1 24)) 67 59 (price tables sent)
    unfolding decide_message
    extension-price t =
        either (ltb (row_to_extend ls now c (part m 1 24)) (end_row (partner_of c))) 57 10 2
        (extension-exactly ls now c (part m 1 24)) (λ z. omega arith)
        (price-of (extension_request (part m 1 24)) ((by_type m fits).four t) (λ z. omega arith) ∙ rw (extension-length m fits t))

    establish-price : type_of m ≡ 6
        → Either ((k : ℕ) × (decide_establish cs ls now c (number_at m 1 4) ≡ established_with k)) 140 43 (price tables sent)
    unfolding decide_message
    establish-price t =
        go (decide_establish cs ls now c id)
        (price-of (establish_request id) ((by_type m fits).six t) (λ z. omega arith) ∙ rw (establish-length m fits t))
      where
        id : ℕ
        id = number_at m 1 4

        go : (d : EstablishDecision) → price tables sent ≡ 37 + sent_bytes c (session_decided id d)
            → Either ((k : ℕ) × (d ≡ established_with k)) 140 43 (price tables sent)
        go (refused_with status) e = record {
          so = ((λ z. absurd (omega arith)), (λ q. absurd (let z : ◌≡◌ {A = ℕ} 0 1 = cc q.1 in omega arith)));
          not_so = ((λ z q. let z : ◌≡◌ {A = ℕ} 0 1 = cc q.1 in omega arith), (λ k. e));
        }
        go (established_with holder) e = record {
          so = ((λ z. (holder, refl)), (λ q. e));
          not_so = ((λ z. absurd (omega arith)), (λ k. absurd (k (holder, refl))));
        }

    end-price : type_of m ≡ 9 → price tables sent ≡ 0
    unfolding price
    end-price t = rw (eq-eqb (type_of m) 9 t)

    send-price : type_of m ≡ 11 → price tables sent ≡ 32 + 2 * length m
    unfolding decide_message
    send-price t =
        let read = data_read m fits t in
        omega (arith, price-of (data_send (drop 1 m)) read (λ z. omega arith), data_length m (drop 1 m) read)

    heard-price : type_of m ≡ 13 → price tables sent ≡ 33
    unfolding decide_message
    heard-price t =
        omega (arith, price-of keepalive_message ((by_type m fits).thirteen t) (λ z. omega arith), keepalive-length m fits t)

    message-most : price tables sent ≤ greatest_price
    message-most = go (ℕ_discrete (type_of m) 9)
      where
        go : Dec (type_of m ≡ 9) → price tables sent ≤ greatest_price
        go (yes t) = omega (arith, end-price t)
        go (no n) = omega (arith, message-price n, bytes_most, peer-length m fits)

    message_prices : MessagePrices tables now c m random (price tables sent)
    message_prices = record {
      version_answer_lem = version_price;
      lease = lease-price;
      extension = extension-price;
      establish = establish-price;
      session_end_lem = end-price;
      send = send-price;
      keepalive_message_lem = heard-price;
    }

module _ (tables : Tables) where
  open_price : (now c : ℕ) (reply : List ℕ) → price tables (opening now c reply) ≡ 45
  unfolding price plan plan_call plan_open encode digits
  open_price now c reply = refl

  close_price : (now c : ℕ) (relay : List ℕ) → price tables (closing now c relay) ≡ 0
  unfolding price
  close_price now c relay = refl

  keepalive_price : (now c : ℕ) (reply relay : List ℕ) → price tables (keepalive now c reply relay) ≡ 0
  unfolding price
  keepalive_price now c reply relay = refl

  price_most : (call : Call) → precheck tables call ≡ 0 → price tables call ≤ greatest_price
  price_most (opening now c reply) h = omega (arith, open_price now c reply)
  price_most (message now c m random reply relay) h = message-most tables now c m random reply relay h
  price_most (closing now c relay) h = omega (arith, close_price now c relay)
  price_most (keepalive now c reply relay) h = omega (arith, keepalive_price now c reply relay)

  pub prices : Prices tables
  prices = record {
    open_price = open_price;
    message_prices = message_prices tables;
    close_price = close_price;
    keepalive_price = keepalive_price;
    most = price_most;
  }
