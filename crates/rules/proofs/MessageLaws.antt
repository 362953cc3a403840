-- What each message does where it is answered with 0: the whole answer, both buffers, and every byte of the tables. Assumes nothing.
use Prim.Native.Nat.{ℕ, ◌+◌, ◌^◌, ◌≤◌, ◌<◌}
use mathlib.Core.Path.{◌≡◌, refl, sym, ap, ◌∙◌}
use mathlib.Core.Logic.{◌≢◌, ⊎_elim}
use mathlib.Core.Bool.{true, false, ◌||◌, true≢false}
use mathlib.Core.Option.{some}
use mathlib.Core.List.{List, [], ◌∷◌}
use native.Mathlib.Omega.{arith}
use lib.Dec.{eqb, ltb, lit≤}
use lib.ListN.{length, drop}
use borrow.Author.Tests.{eq-eqb}
use Rattle.octets.specs.Octets.{part, put}
use Rattle.octets.proofs.Tests.{by_test}
use Rattle.octets.proofs.Parts.{length_part}
use Rattle.svsc.specs.Messages.{Message, cookie_bytes, version_answer, lease_granted, extension_request, extension_granted, establish_request, establish_refused, session_end, data_send, keepalive_message, encode, type_of, decode}
use Rattle.rules.specs.Sizes.{connection_count, row_count, random_bytes}
use Rattle.rules.specs.Searches.{end_row}
use Rattle.rules.specs.Tables.{Tables, lease_term, partner_of, connection_at, opened, state, peer, in_session, has_session, set_state, id_of, cookie_at, cookie_of}
use Rattle.rules.specs.Leases.{LeaseDecision, holds_lease, no_spare_row, cookie_in_use, no_free_id, renewed, granted, decide_lease, lease_end, row_to_extend}
use Rattle.rules.specs.Sessions.{refused_with, established_with, decide_establish, clear, establish, end_session}
use Rattle.rules.specs.Keepalives.{stamp}
use Rattle.rules.specs.Decisions.{decide_message}
use Rattle.rules.specs.Calls.{Call, message, Outcome}
use Rattle.rules.specs.Plans.{Plan, reply_only, relay_only, plan_version_answer, plan_lease, plan_extension, plan_establish, plan_end, plan_data, plan_decided, plan_message, plan_call, heard, stamped, plan}
use Rattle.rules.specs.Checks.{precheck}
use Rattle.rules.specs.Step.{step, done}
use Rattle.rules.specs.Bytes.{ChangedOnly}
use Rattle.rules.specs.Effects.{RepliedOnly, RelayedOnly, SentNothing, VersionTaken, VersionRefused, KeysToOwners, SessionEnded, DataRelayed, MarksOnly, InUnanswered, InOwnMarks, LeaseTold, LeaseRenewed, is_accepted, Extendable, ExtensionTold}
use Rattle.rules.specs.Laws.{Accepted}
use Rattle.rules.proofs.Checks.{Passed, passed, from-peer, random-length, has_session_lem, is-permitted, open_permits}
use Rattle.rules.proofs.Records.{byte_put}
use Rattle.rules.proofs.Messages.{decode_type, end_read, data_read, no_bytes}
use Rattle.rules.proofs.Plans.{lease-plan}
use Rattle.rules.proofs.Prices.{keys_length, told-length}
use Rattle.rules.proofs.Answers.{is-done, done_passed}
use Rattle.rules.proofs.Connections.{cleared_record, fresh_record, paired, end_clears_first, end_clears_second}
use Rattle.rules.proofs.Rows.{expiry-set, granted-row, renewed-row}
use Rattle.rules.proofs.Changes.{changed_more, changed_both, changed_state, changed_clear, changed_end, changed_expiry, changed_grant, changed_renew}
use Rattle.rules.proofs.Same.{same_trans}
use Rattle.rules.proofs.Marks.{InMarks, changed_answered, session_kept, keys_kept, cleared-kept, own-marks, relay-marks, both-marks, fresh-answered, marks_changed}
use Rattle.rules.proofs.Decisions.{is-renewed, is-granted, is_extended, is_established}
use Rattle.rules.proofs.Leases.{extension-exactly, renewable-exactly}
use Rattle.rules.proofs.Sessions.{establish_pairs, callers_record, holders_record, changed_establish}
use Rattle.rules.proofs.Terms.{term_most}

-- ---- plans that send to one side alone

module _ (tables : Tables) (call : Call) (cs ls : List ℕ) where
  pub replied : (bytes : List ℕ) → RepliedOnly call (done tables call (reply_only cs ls bytes)) bytes
  unfolding done put
  replied bytes = record { answer = refl; reply = refl; relay = refl }

  relayed : (bytes : List ℕ) (d : ℕ) → RelayedOnly call (done tables call (relay_only cs ls bytes d)) bytes d
  unfolding done put
  relayed bytes d = record { answer = refl; reply = refl; relay = refl }

  pub sent-nothing : SentNothing call (done tables call (reply_only cs ls [])) false
  unfolding done put
  sent-nothing = record { answer = refl; reply = refl; relay = refl }

-- what a message that is done has done, by what it is
module _
    (tables : Tables) (now c : ℕ) (m random reply relay : List ℕ) (e : Accepted tables (message now c m random reply relay))
  where
    open tables use {connections as cs, leases as ls}

    abbrev sent : Call
    sent = message now c m random reply relay

    abbrev o : Outcome
    o = step tables sent

    h : precheck tables sent ≡ 0
    h = done_passed tables sent e

    ok : Passed tables sent
    ok = passed tables sent h

    long : length random ≡ random_bytes
    long = random-length tables now c m random reply relay h

    -- a plan with what is written of the messages that it sends and of this one
    abbrev marks : Plan → Plan
    marks x = stamped now c (heard sent x)

    -- the outcome, where the message is x
    outcome-of : (x : Message) → decode m ≡ some x → o ≡ done tables sent (marks (plan_message tables now c random (some x)))
    unfolding plan plan_call
    outcome-of x d = is-done tables sent e ∙ rw d

    session : eqb (type_of m) 9 || eqb (type_of m) 11 ≡ true → in_session cs c (peer cs c) ≡ true
    unfolding has_session
    session t = has_session_lem tables now c m random reply relay h t

    -- ---- the version answer

    pub answered_ok : decode m ≡ some (version_answer 1) → VersionTaken tables sent c o
    unfolding done plan_message plan_decided decide_message plan_version_answer stamp
    answered_ok d =
        let opens = set_state cs c opened in
        rw (outcome-of (version_answer 1) d)
        (record {
          sent = sent-nothing tables sent _ ls;
          own =
              sym ((changed_answered opens c).at (connection_at c) (λ p. omega (arith, p.0)))
              ∙ byte_put cs (connection_at c) opened (omega (arith, ok.connections, ok.known));
          others = changed_both (changed_state cs c opened) (changed_answered opens c);
          leases = refl;
        })

    pub answered-not_ok : decode m ≡ some (version_answer 0) → VersionRefused tables sent c o
    unfolding done put plan_message plan_decided decide_message plan_version_answer stamp
    answered-not_ok d =
        rw (outcome-of (version_answer 0) d)
        (record {
          sent = record { answer = refl; reply = refl; relay = refl };
          own =
              fresh-answered (clear cs c) c 0 (sym (changed_clear cs c).long ∙ ok.connections) ok.known
              (fresh_record _ c (cleared_record cs c ok.connections ok.known));
          others =
              same_trans (changed_clear cs c)
              (changed_more (λ i p. (omega (arith, p.0), omega (arith, p.1))) (changed_answered (clear cs c) c));
          leases = refl;
        })

    -- ---- sessions

    -- Data goes to the paired connection only.
    pub data_to_paired : type_of m ≡ 11 → DataRelayed tables sent c (peer cs c) o (12 ∷ drop 1 m)
    unfolding done plan_message plan_decided decide_message plan_data encode stamp
    data_to_paired t =
        rw
        (outcome-of (data_send (drop 1 m)) (data_read m (from-peer tables now c m random reply relay h) t))
        (record {
          paired = session (rw t);
          sent = relayed tables sent _ ls _ _;
          stay = record { connections = relay-marks cs now c (length (12 ∷ drop 1 m)) (peer cs c); leases = refl };
        })

    -- Each pair is told to its owner and stands in its owner's record; else only byte 2 and the times of what was sent change.
    pub keys_to_owners : (id : ℕ) → decode m ≡ some (establish_request id)
        → (hold : ℕ) → decide_establish cs ls now c id ≡ established_with hold
        → KeysToOwners tables sent c hold id random o
    unfolding done plan_message plan_decided decide_message plan_establish
    keys_to_owners id d hold s =
        let holding = is_established cs ls now c id hold s in
        let mine = callers_record cs c hold random ok.connections ok.known long holding in
        let theirs = holders_record cs c hold random ok.connections ok.known long holding in
        let may = rw (decode_type m (establish_request id) d) at (is-permitted tables now c m random reply relay h) in
        let is_open = eq-eqb _ opened (open_permits (state cs c) (unfold encode in may)) in
        let joined = establish cs c hold random in
        let marked : Plan = marks (plan_establish tables c id random (established_with hold)) in
        let changed : ChangedOnly InMarks joined marked.connections =
        marks_changed sent (plan_establish tables c id random (established_with hold)) in
        rw (outcome-of (establish_request id) d, s)
        (record {
          answer = rw (told-length _ _ _ (key _ (lit≤ tt)) (key _ (lit≤ tt)) (key _ (lit≤ tt)) id, keys_length _ _ _ (key _ (lit≤ tt)) (key _ (lit≤ tt)) (key _ (lit≤ tt)));
          reply = refl;
          relay = refl;
          paired = session_kept changed c hold ∙ establish_pairs cs c hold random ok.connections ok.known long holding is_open;
          caller_session = keys_kept changed c _ 16 (omega arith) (omega arith) ∙ mine.session;
          caller_id = keys_kept changed c _ 16 (omega arith) (omega arith) ∙ mine.peer_id;
          caller_key = keys_kept changed c _ 16 (omega arith) (omega arith) ∙ mine.peer_key;
          holder_session = keys_kept changed hold _ 16 (omega arith) (omega arith) ∙ theirs.session;
          holder_id = keys_kept changed hold _ 16 (omega arith) (omega arith) ∙ theirs.peer_id;
          holder_key = keys_kept changed hold _ 16 (omega arith) (omega arith) ∙ theirs.peer_key;
          others =
              changed_both
              (changed_establish cs c hold random ok.connections ok.known long holding)
              (both-marks joined now c _ _ hold);
          leases = refl;
        })
      where
        key : (at : ℕ) → at + 16 ≤ 80 → length (part random at 16) ≡ 16
        key at l = length_part random at 16 (omega (arith, long))

    -- An establish request that is not met is told its status; of the tables it changes byte 2 and 4-8 of its record.
    pub establish-refused : (id : ℕ) → decode m ≡ some (establish_request id)
        → (status : ℕ) → decide_establish cs ls now c id ≡ refused_with status
        → RepliedOnly sent o (encode (establish_refused id status)) × MarksOnly (InOwnMarks c) tables o
    unfolding done plan_message plan_decided decide_message plan_establish stamp
    establish-refused id d status s =
        let told = length (encode (establish_refused id status)) in
        rw (outcome-of (establish_request id) d, s)
        (replied tables sent _ ls _, record { connections = own-marks cs now c told; leases = refl })

    -- Both sides of a session end, and the other is told.
    pub ended-both : type_of m ≡ 9 → SessionEnded tables sent c (peer cs c) o (10 ∷ [])
    unfolding done plan_message plan_decided decide_message plan_end encode stamp
    ended-both t =
        let ended = end_session cs c (peer cs c) in
        let changed = marks_changed sent (plan_end tables c (peer cs c)) in
        let two = paired cs c (peer cs c) (session (rw t)) in
        let d< : peer cs c < connection_count = omega (arith, two.of_one, ok.known) in
        rw (outcome-of session_end (end_read m (from-peer tables now c m random reply relay h) t))
        (record {
          paired = session (rw t);
          sent = relayed tables sent _ ls _ _;
          own = cleared-kept changed c (end_clears_first cs c (peer cs c) ok.connections ok.known d< two.differ);
          other = cleared-kept changed (peer cs c) (end_clears_second cs c (peer cs c) ok.connections ok.known d< two.differ);
          others = changed_both (changed_end cs c (peer cs c)) (relay-marks ended now c 1 (peer cs c));
          leases = refl;
        })

    -- A keepalive is not answered, and of all records clears the one byte.
    pub keepalive-heard : decode m ≡ some keepalive_message → SentNothing sent o false × MarksOnly (InUnanswered c) tables o
    unfolding done plan_message plan_decided decide_message stamp
    keepalive-heard d =
        rw (outcome-of keepalive_message d) (sent-nothing tables sent _ ls, record { connections = changed_answered cs c; leases = refl })

    -- ---- leases

    -- by the cookie behind the first two bytes, which is none of a request that has none
    abbrev decision : LeaseDecision
    decision = decide_lease cs ls now c random (part m 2 24)

    lease-outcome : type_of m ≡ 2 → o ≡ done tables sent (marks (plan_lease tables now c decision))
    unfolding plan plan_call
    lease-outcome t =
        is-done tables sent e ∙ ap (λ (x : Plan). done tables sent (marks x)) (lease-plan tables now c m random (from-peer tables now c m random reply relay h) t)

    -- how long leases last
    abbrev term : ℕ
    term = lease_term tables.allowances

    until< : now + term < 256 ^ 8
    until< = omega (arith, ok.in_limit, term_most tables.allowances)

    -- A new lease is told as it stands in its row: id, cookie, this holder, and the term from now.
    pub lease-told : type_of m ≡ 2 → (row id : ℕ) (cookie : List ℕ) → decision ≡ granted row id cookie
        → LeaseTold tables sent row (now + term) id cookie c o (encode (lease_granted id cookie (now + term)))
    unfolding done plan_lease lease_end stamp
    lease-told t row id cookie d =
        let g = is-granted ls now c random cs (part m 2 24) row id cookie d in
        let size : length cookie ≡ cookie_bytes = rw g.cookie_is (length_part random 0 cookie_bytes (omega (arith, long))) in
        let row< : row < row_count = omega (arith, g.own.high, ok.known) in
        rw (lease-outcome t, d)
        (record {
          sent = replied tables sent _ _ _;
          written = granted-row ls row (now + term) id cookie c ok.leases row< until< g.id_small size;
          others = changed_grant ls row (now + term) id cookie c (omega arith);
          connections = own-marks cs now c (length (encode (lease_granted id cookie (now + term))));
        })

    -- A renewed one is told with the id and the cookie that it had, and has this holder and the term from now; nothing else of the lease
    -- table changes.
    pub lease-renewed : type_of m ≡ 2 → (row : ℕ) → decision ≡ renewed row
        → LeaseRenewed tables sent row (now + term) c o (encode (lease_granted (id_of ls row) (cookie_of ls row) (now + term)))
    unfolding done plan_lease lease_end stamp
    lease-renewed t row d =
        let row< : row < row_count = omega (arith, (is-renewed ls now c random cs (part m 2 24) row d).own.high, ok.known) in
        rw (lease-outcome t, d)
        (record {
          sent = replied tables sent _ _ _;
          written = renewed-row ls row (now + term) c ok.leases row< until<;
          others = changed_renew ls row (now + term) c;
          connections = own-marks cs now c (length (encode (lease_granted (id_of ls row) (cookie_of ls row) (now + term))));
        })

    -- A request without a cookie is not one for renewal: no row has a cookie of no bytes.
    pub new_without_cookie : length m ≡ 2 → (row : ℕ) → decision ≢ renewed row
    unfolding cookie_of
    new_without_cookie two row d =
        let is = is-renewed ls now c random cs (part m 2 24) row d in
        let cookie_is = ((renewable-exactly cs ls now (part m 2 24) row).0 is.passes).cookie_is in
        let row< : row < row_count = omega (arith, is.own.high, ok.known) in
        let long = length_part ls (cookie_at row) cookie_bytes (omega (arith, ok.leases)) in
        let short : length (part m 2 24) ≡ 0 = rw (no_bytes m two) in
        omega (arith, ap length cookie_is)

    -- Otherwise accepted 0, and no row changes.
    pub lease-refused : type_of m ≡ 2 → is_accepted decision ≡ false → RepliedOnly sent o (3 ∷ 0 ∷ []) × MarksOnly (InOwnMarks c) tables o
    unfolding done plan_lease encode stamp
    lease-refused t n = rw (lease-outcome t) (go decision n)
      where
        refused : RepliedOnly sent (done tables sent (marks (reply_only cs ls (3 ∷ 0 ∷ [])))) (3 ∷ 0 ∷ [])
            × MarksOnly (InOwnMarks c) tables (done tables sent (marks (reply_only cs ls (3 ∷ 0 ∷ []))))
        refused = (replied tables sent _ ls _, record { connections = own-marks cs now c 2; leases = refl })

        go : (d : LeaseDecision) → is_accepted d ≡ false
            → RepliedOnly sent (done tables sent (marks (plan_lease tables now c d))) (3 ∷ 0 ∷ [])
            × MarksOnly (InOwnMarks c) tables (done tables sent (marks (plan_lease tables now c d)))
        go holds_lease n = refused
        go no_spare_row n = refused
        go cookie_in_use n = refused
        go no_free_id n = refused
        go (renewed row) n = absurd (true≢false n)
        go (granted row id cookie) n = absurd (true≢false n)

    -- An extension for which there is a row gives it the term from now, also where it had longer, and says so.
    pub extension-told : (cookie : List ℕ) → decode m ≡ some (extension_request cookie) → Extendable ls now c cookie
        → ExtensionTold tables sent (row_to_extend ls now c cookie) (now + term) c o (encode (extension_granted (now + term)))
    unfolding done plan_message plan_decided decide_message plan_extension lease_end stamp
    extension-told cookie d q =
        let found = (extension-exactly ls now c cookie).1 q in
        let own = (is_extended ls now c cookie found).0 in
        let row< : row_to_extend ls now c cookie < row_count = omega (arith, own.high, ok.known) in
        rw
        (outcome-of (extension_request cookie) d, found)
        (record {
          sent = replied tables sent _ _ _;
          written = expiry-set ls (row_to_extend ls now c cookie) (now + term) ok.leases row< until<;
          others = changed_expiry ls _ (now + term);
          connections = own-marks cs now c (length (encode (extension_granted (now + term))));
        })

    -- Otherwise extended 0, and no row changes.
    pub extension-refused : (cookie : List ℕ) → decode m ≡ some (extension_request cookie) → (Extendable ls now c cookie → ⊥)
        → RepliedOnly sent o (5 ∷ 0 ∷ []) × MarksOnly (InOwnMarks c) tables o
    unfolding done plan_message plan_decided decide_message plan_extension encode stamp
    extension-refused cookie d n =
        rw (outcome-of (extension_request cookie) d, none)
        (replied tables sent _ ls _, record { connections = own-marks cs now c 2; leases = refl })
      where
        none : ltb (row_to_extend ls now c cookie) (end_row (partner_of c)) ≡ false
        none = ⊎_elim (λ y. absurd (n ((extension-exactly ls now c cookie).0 y))) (λ y. y) (by_test _)
