-- Sessions: what an accepted establish request leaves, what an ended session leaves, and where anything is relayed. Assumes nothing.
use Rattle.std.specs.Prelude.{if◌then◌else◌}
use Prim.Native.Nat.{ℕ, ◌+◌, ◌≤◌, ◌<◌}
use mathlib.Core.Path.{◌≡◌, refl, sym, ap, ◌∙◌}
use mathlib.Core.Logic.{◌≢◌, ◌⊎◌, inl, inr}
use mathlib.Core.Bool.{Bool, true}
use mathlib.Core.List.{List, [], ◌++◌}
use native.Mathlib.Omega.{arith}
use lib.Dec.{eqb, ltb, lit≤}
use lib.ListN.{length}
use Rattle.octets.specs.Octets.{part}
use Rattle.octets.proofs.Parts.{length_part}
use Rattle.svsc.specs.Messages.{key_bytes, encode}
use Rattle.rules.specs.Sizes.{connection_count, connections_size, random_bytes, nobody}
use Rattle.rules.specs.Searches.{end_row}
use Rattle.rules.specs.Tables.{Tables, partner_of, opened, is_open, peer, in_session, has_session}
use Rattle.rules.specs.Leases.{LeaseDecision, decide_lease, row_to_extend}
use Rattle.rules.specs.Sessions.{EstablishDecision, refused_with, established_with, decide_establish, random_session_id, callers_peer_id, callers_key, holders_peer_id, holders_key, join, establish, end_session, clear}
use Rattle.rules.specs.Plans.{Plan, do_nothing, plan_open, plan_version_answer, plan_lease, plan_extension, plan_establish, plan_end, plan_data, plan_close}
use Rattle.rules.specs.Bytes.{connection_record, ChangedOnly}
use Rattle.rules.specs.Effects.{InSessionBytes, Cleared}
use Rattle.rules.proofs.Connections.{Paired, in_session_lem, Joined, joined-first, joined-second, all_keys, ThreeKeys, three_keys, peer-same, keys_same, kept-clear, end_clears_second}
use Rattle.rules.proofs.Changes.{changed_both, changed_join}
use Rattle.rules.proofs.Decisions.{Holding, is_established}
use Rattle.rules.proofs.Plans.{Each, by-lease, by_test}

-- ---- a session that begins

module _
    (cs : List ℕ) (c h : ℕ) (random : List ℕ)
    (size : length cs ≡ connections_size) (c< : c < connection_count) (long : length random ≡ random_bytes) (hold : Holding cs c h)
  where
    key : (at : ℕ) → at + key_bytes ≤ random_bytes → length (part random at key_bytes) ≡ key_bytes
    key at l = length_part random at key_bytes (omega arith)

    h< : h < connection_count
    h< = omega (arith, hold.of_one)

    abbrev CallersKeys : List ℕ
    CallersKeys = random_session_id random ++ (callers_peer_id random ++ callers_key random)

    abbrev HoldersKeys : List ℕ
    HoldersKeys = random_session_id random ++ (holders_peer_id random ++ holders_key random)

    callers-length : length CallersKeys ≡ key_bytes + key_bytes + key_bytes
    callers-length =
        all_keys (random_session_id random) (callers_peer_id random) (callers_key random) (key _ (lit≤ tt)) (key _ (lit≤ tt)) (key _ (lit≤ tt))

    holders_length : length HoldersKeys ≡ key_bytes + key_bytes + key_bytes
    holders_length =
        all_keys (random_session_id random) (holders_peer_id random) (holders_key random) (key _ (lit≤ tt)) (key _ (lit≤ tt)) (key _ (lit≤ tt))

    holder-joined : Joined cs (establish cs c h random) h c HoldersKeys
    unfolding establish
    holder-joined = joined-second cs c h h c CallersKeys HoldersKeys size c< h< hold.differ callers-length holders_length

    caller_joined : Joined cs (establish cs c h random) c h CallersKeys
    unfolding establish
    caller_joined = joined-first cs c h h c CallersKeys HoldersKeys size c< h< hold.differ callers-length holders_length

    pub callers_record : ThreeKeys (establish cs c h random) c (random_session_id random) (callers_peer_id random) (callers_key random)
    callers_record =
        three_keys (random_session_id random) (callers_peer_id random) (callers_key random)
        (key _ (lit≤ tt)) (key _ (lit≤ tt)) (key _ (lit≤ tt))
        (establish cs c h random) c caller_joined.keys_are

    pub holders_record : ThreeKeys (establish cs c h random) h (random_session_id random) (holders_peer_id random) (holders_key random)
    holders_record =
        three_keys (random_session_id random) (holders_peer_id random) (holders_key random)
        (key _ (lit≤ tt)) (key _ (lit≤ tt)) (key _ (lit≤ tt))
        (establish cs c h random) h holder-joined.keys_are

    pub changed_establish : ChangedOnly (λ i. InSessionBytes c i ⊎ InSessionBytes h i) cs (establish cs c h random)
    unfolding establish
    changed_establish =
        changed_both
        (changed_join cs c h CallersKeys (omega (arith, callers-length)))
        (changed_join (join cs c h CallersKeys) h c HoldersKeys (omega (arith, holders_length)))

    pub establish_pairs : is_open cs c ≡ true → in_session (establish cs c h random) c h ≡ true
    establish_pairs o =
        in_session_lem (establish cs c h random) c h
        (record {
          of_one = sym hold.of_one;
          differ = hold.differ;
          opened_first = ap (λ (s : ℕ). eqb s opened) caller_joined.state_is ∙ o;
          opened_second = ap (λ (s : ℕ). eqb s opened) holder-joined.state_is ∙ hold.opened;
          names_first = caller_joined.peer_is;
          names_second = holder-joined.peer_is;
        })

-- ---- a close, which clears the caller's record behind the end of its session

module _ (cs : List ℕ) (c d : ℕ) (size : length cs ≡ connections_size) (c< : c < connection_count) (s : Paired cs c d) where
  d< : d < connection_count
  d< = omega (arith, s.of_one)

  pub close_clears_other : Cleared (clear (end_session cs c d) c) d
  close_clears_other =
      let stays : connection_record (clear (end_session cs c d) c) d ≡ connection_record (end_session cs c d) d =
      (kept-clear {Other = λ x. x ≢ c} (end_session cs c d) c (λ n. n refl)).at d (λ e. s.differ (sym e)) in
      let k = end_clears_second cs c d size c< d< s.differ in
      record {
        peer_none = peer-same (end_session cs c d) (clear (end_session cs c d) c) d stays ∙ k.peer_none;
        keys_zero = keys_same (end_session cs c d) (clear (end_session cs c d) c) d stays ∙ k.keys_zero;
      }

-- ---- where anything is relayed

module _ (tables : Tables) (now c : ℕ) (size : length tables.connections ≡ connections_size) (c< : c < connection_count) where
  open tables use {connections as cs, leases as ls}

  -- nothing is relayed without a destination, and the destination is in session with the caller, before the call or after it
  pub record Relays (x : Plan) : Type 0 where
    pub empty : length x.relay ≡ 0 → x.destination ≡ nobody
    pub to_paired : x.destination ≢ nobody
        → (in_session cs c x.destination ≡ true) ⊎ (in_session x.connections c x.destination ≡ true)

  silent : (reply : List ℕ) (disconnect : Bool) (ds ms : List ℕ)
      → Relays (record { reply = reply; relay = []; destination = nobody; disconnect = disconnect; connections = ds; leases = ms })
  silent reply disconnect ds ms = record { empty = λ e. refl; to_paired = λ n. absurd (n refl) }

  answer-relays : (ok : ℕ) → Relays (plan_version_answer tables c ok)
  unfolding plan_version_answer
  answer-relays ok = by_test Relays (eqb ok 1) (λ h. silent _ _ _ _) (λ h. silent _ _ _ _)

  lease-relays : (d : LeaseDecision) → Relays (plan_lease tables now c d)
  unfolding plan_lease
  lease-relays d =
      by-lease Relays tables now c d (silent _ _ _ _) (λ row e. silent _ _ _ _) (λ row id cookie e. silent _ _ _ _)

  extension-relays : (row : ℕ) → Relays (plan_extension tables now c row)
  unfolding plan_extension
  extension-relays row = by_test Relays (ltb row (end_row (partner_of c))) (λ h. silent _ _ _ _) (λ h. silent _ _ _ _)

  establish-relays : (id : ℕ) (random : List ℕ) → length random ≡ random_bytes → is_open cs c ≡ true
      → (d : EstablishDecision) → decide_establish cs ls now c id ≡ d → Relays (plan_establish tables c id random d)
  unfolding plan_establish encode
  establish-relays id random long o (refused_with n) e = silent _ _ _ _
  establish-relays id random long o (established_with h) e = record {
    empty = λ z. absurd (omega arith);
    to_paired = λ n.
        inr (establish_pairs cs c h random size c< long (is_established cs ls now c id h e) o);
  }

  end-relays : has_session cs c ≡ true → Relays (plan_end tables c (peer cs c))
  unfolding plan_end encode has_session
  end-relays h = record { empty = λ z. absurd (omega arith); to_paired = λ n. inl h }

  data_relays : has_session cs c ≡ true → (bytes : List ℕ) → Relays (plan_data tables (peer cs c) bytes)
  unfolding plan_data encode has_session
  data_relays h bytes = record { empty = λ z. absurd (omega arith); to_paired = λ n. inl h }

  -- a close relays what the end of a session does
  record Ends (x : Plan) : Type 0 where
    empty : length x.relay ≡ 0 → x.destination ≡ nobody
    before : x.destination ≢ nobody → in_session cs c x.destination ≡ true

  close_relays : Relays (plan_close tables c)
  unfolding plan_close plan_end encode has_session
  close_relays =
      let ended : Ends (if has_session cs c then plan_end tables c (peer cs c) else do_nothing tables) =
      by_test Ends (has_session cs c)
      (λ h. record { empty = λ z. absurd (omega arith); before = λ n. h })
      (λ h. record { empty = λ z. refl; before = λ n. absurd (n refl) }) in
      record { empty = ended.empty; to_paired = λ n. inl (ended.before n) }

  pub each_relays : (n kind : ℕ) → Each Relays tables now c n kind
  unfolding plan_open
  each_relays n kind = record {
    open_plan = silent _ _ _ _;
    version_answer_lem = λ t. answer-relays;
    lease = λ random cookie. lease-relays (decide_lease cs ls now c random cookie);
    extension = λ cookie. extension-relays (row_to_extend ls now c cookie);
    establish_plan = λ id random long o. establish-relays id random long o (decide_establish cs ls now c id) refl;
    end_plan = end-relays;
    data_plan = λ h bytes l. data_relays h bytes;
    no_plan = silent _ _ _ _;
    close_plan = close_relays;
    dead_plan = λ t. record { empty = close_relays.empty; to_paired = close_relays.to_paired };
    ask_plan = silent _ _ _ _;
  }
