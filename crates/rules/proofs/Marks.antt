-- What a message sent to a connection, a message from it and a keepalive write to its record, and what they leave. Assumes nothing.
use Rattle.std.specs.Prelude.{if◌then◌else◌}
use Prim.Native.Nat.{ℕ, ◌+◌, ◌-◌, ◌%◌, ◌≤◌, ◌<◌}
use mathlib.Core.Path.{◌≡◌, sym, ap, ◌∙◌}
use mathlib.Core.Logic.{◌≢◌, ◌⊎◌, ◌↔◌}
use mathlib.Core.Bool.{true}
use mathlib.Core.List.{List, [], ◌∷◌}
use native.Mathlib.Omega.{arith}
use native.Mathlib.Decide.{ℕ_discrete}
use lib.Dec.{eqb, leb}
use lib.ListN.{length}
use borrow.Author.Tests.{eq-eqb, ne_eqb, eqb-false}
use Rattle.octets.specs.Octets.{byte_at, big_endian, part, number_at, put}
use Rattle.octets.proofs.Numbers.{length-big_endian}
use Rattle.octets.proofs.Stores.{length-put, part-put, number_at-put}
use Rattle.rules.specs.Sizes.{connection_count, connection_bytes, connections_size, time_bytes, time_limit, keepalive_timeout, answer_timeout}
use Rattle.rules.specs.Tables.{connection_at, peer_at, unanswered_at, last_sent_at, keepalive_at, keys_at, keys_bytes, opened, closed, state, peer, in_session, is_unanswered, last_sent, keepalive_sent, set_unanswered, set_last_sent, set_keepalive_sent}
use Rattle.rules.specs.Keepalives.{elapsed, is_dead, is_due, ask, answered, stamp}
use Rattle.rules.specs.Calls.{Call, opening, message, closing, keepalive, time_of, connection_of}
use Rattle.rules.specs.Plans.{Plan, answered_by}
use Rattle.rules.specs.Bytes.{ChangedOnly}
use Rattle.rules.specs.Effects.{InUnanswered, InLastSent, InKeepaliveSent, InOwnMarks, fresh_byte, FreshBut, Cleared, IsMessage, TimeAt, Stamped, Answered, Dead, Due}
use Rattle.rules.proofs.Records.{Kept, kept_same, kept_trans, kept_put, byte_beside, byte_put}
use Rattle.rules.proofs.Same.{same_refl, same_trans, same-part, same_number}
use Rattle.rules.proofs.Changes.{changed_more, changed_both, changed_at}
use Rattle.rules.proofs.Plans.{by_test}
use Rattle.rules.proofs.Exactly.{eq-exactly, le-exactly, not-exactly, and-exactly}

-- ---- what is written

module _ (cs : List ℕ) (c : ℕ) where
  pub changed_unanswered : (n : ℕ) → ChangedOnly (InUnanswered c) cs (set_unanswered cs c n)
  changed_unanswered n = changed_at cs (unanswered_at c) (n ∷ []) (λ i l u. (omega arith, omega arith))

  pub changed_last-sent : (time : ℕ) → ChangedOnly (InLastSent c) cs (set_last_sent cs c time)
  changed_last-sent time =
      changed_at cs (last_sent_at c) (big_endian time_bytes time) (λ i l u. (omega arith, omega (arith, length-big_endian time_bytes time)))

  changed_keepalive-sent : (time : ℕ) → ChangedOnly (InKeepaliveSent c) cs (set_keepalive_sent cs c time)
  changed_keepalive-sent time =
      changed_at cs (keepalive_at c) (big_endian time_bytes time) (λ i l u. (omega arith, omega (arith, length-big_endian time_bytes time)))

  pub changed_stamp : (now n : ℕ) → ChangedOnly (InLastSent c) cs (stamp cs now n c)
  unfolding stamp
  changed_stamp now n = by_test (ChangedOnly (InLastSent c) cs) (eqb n 0) (λ e. same_refl cs) (λ e. changed_last-sent now)

  pub changed_answered : ChangedOnly (InUnanswered c) cs (answered cs c)
  unfolding answered
  changed_answered = changed_unanswered _

pub changed_ask : (cs : List ℕ) (now c : ℕ) → ChangedOnly (λ i. InUnanswered c i ⊎ InKeepaliveSent c i) cs (ask cs now c)
unfolding ask
changed_ask cs now c = changed_both (changed_unanswered cs c _) (changed_keepalive-sent (set_unanswered cs c _) c _)

-- ---- what stands there afterwards

pub length-stamp : (cs : List ℕ) (now n c : ℕ) → length (stamp cs now n c) ≡ length cs
length-stamp cs now n c = sym (changed_stamp cs c now n).long

pub length-answered : (cs : List ℕ) (c : ℕ) → length (answered cs c) ≡ length cs
length-answered cs c = sym (changed_answered cs c).long

-- a time that is written, and one beside which something is written
time-put : (cs : List ℕ) (at time : ℕ) → at + time_bytes ≤ length cs → time < time_limit → TimeAt (put cs at (big_endian time_bytes time)) at time
time-put cs at time room time< = record {
  bytes = rw (length-big_endian time_bytes time) at (part-put cs at (big_endian time_bytes time) (omega (arith, length-big_endian time_bytes time)));
  number = number_at-put cs at time_bytes time room (omega arith);
}

pub time-kept : {P : ℕ → Type 0} {cs ds : List ℕ} → ChangedOnly P cs ds → (at time : ℕ) → ((i : ℕ) → at ≤ i → i < at + time_bytes → P i → ⊥)
    → TimeAt cs at time
    → TimeAt ds at time
time-kept s at time apart t = record {
  bytes = sym (same-part s at time_bytes apart) ∙ t.bytes;
  number = sym (same_number s at time_bytes apart) ∙ t.number;
}

module _ (cs : List ℕ) (now c : ℕ) (size : length cs ≡ connections_size) (c< : c < connection_count) (now< : now < time_limit) where
  pub sent-at : TimeAt (set_last_sent cs c now) (last_sent_at c) now
  sent-at = time-put cs (last_sent_at c) now (omega arith) now<

  pub asked-at : TimeAt (ask cs now c) (keepalive_at c) now
  unfolding ask
  asked-at = time-put (set_unanswered cs c 1) (keepalive_at c) now (omega (arith, length-put cs (unanswered_at c) (1 ∷ []))) now<

-- a message of some bytes
pub stamp-some : (cs : List ℕ) (now n c : ℕ) → n ≢ 0 → stamp cs now n c ≡ set_last_sent cs c now
unfolding stamp
stamp-some cs now n c h = rw (ne_eqb n 0 h)

pub stamp-none : (cs : List ℕ) (now n c : ℕ) → n ≡ 0 → stamp cs now n c ≡ cs
unfolding stamp
stamp-none cs now n c h = rw (eq-eqb n 0 h)

pub stamp-exactly : (cs : List ℕ) (now n c : ℕ) → length cs ≡ connections_size → c < connection_count → now < time_limit
    → Stamped cs now n c (stamp cs now n c)
stamp-exactly cs now n c size c< now< = record {
  none = stamp-none cs now n c;
  time_is = λ h. rw (stamp-some cs now n c h) (sent-at cs now c size c< now<);
  others = changed_stamp cs c now n;
}

pub answered-exactly : (cs : List ℕ) (c : ℕ) → length cs ≡ connections_size → c < connection_count → Answered cs c (answered cs c)
unfolding answered
answered-exactly cs c size c< = record { zero = byte_put cs (unanswered_at c) 0 (omega arith); others = changed_answered cs c }

pub asked-unanswered : (cs : List ℕ) (now c : ℕ) → length cs ≡ connections_size → c < connection_count
    → byte_at (ask cs now c) (unanswered_at c) ≡ 1
unfolding ask
asked-unanswered cs now c size c< =
    byte_beside (set_unanswered cs c 1) (keepalive_at c) (big_endian time_bytes now) (unanswered_at c) (λ l. absurd (omega arith))
    ∙ byte_put cs (unanswered_at c) 1 (omega arith)

-- a stamp of one record beside the stamp of another, or of the same
pub stamp-kept : (cs : List ℕ) (now n c d : ℕ) → length cs ≡ connections_size → c < connection_count → now < time_limit
    → TimeAt cs (last_sent_at c) now → TimeAt (stamp cs now n d) (last_sent_at c) now
stamp-kept cs now n c d size c< now< e = go (ℕ_discrete n 0) (ℕ_discrete d c)
  where
    go : Dec (n ≡ 0) → Dec (d ≡ c) → TimeAt (stamp cs now n d) (last_sent_at c) now
    go (yes z) s = rw (stamp-none cs now n d z) e
    go (no z) (yes s) = rw (stamp-some cs now n d z, s) (sent-at cs now c size c< now<)
    go (no z) (no s) = time-kept (changed_stamp cs d now n) (last_sent_at c) now (λ i l u p. omega (arith, p.0, p.1, s)) e

-- ---- what is left

module _ {Other : ℕ → Type 0} (cs : List ℕ) (c : ℕ) (mine : Other c → ⊥) where
  kept-last-sent : (time : ℕ) → Kept connection_bytes Other cs (set_last_sent cs c time)
  kept-last-sent time =
      kept_put cs c (last_sent_at c) (big_endian time_bytes time) mine (omega arith) (omega (arith, length-big_endian time_bytes time))

  pub kept-answered : Kept connection_bytes Other cs (answered cs c)
  unfolding answered
  kept-answered = kept_put cs c (unanswered_at c) (0 ∷ []) mine (omega arith) (omega arith)

  pub kept-ask : (now : ℕ) → Kept connection_bytes Other cs (ask cs now c)
  unfolding ask
  kept-ask now =
      kept_trans
      (kept_put cs c (unanswered_at c) (1 ∷ []) mine (omega arith) (omega arith))
      (kept_put (set_unanswered cs c 1) c (keepalive_at c) (big_endian time_bytes now) mine (omega arith)
      (omega (arith, length-big_endian time_bytes now)))

-- of nobody where nothing is sent
pub kept-stamp : {Other : ℕ → Type 0} (cs : List ℕ) (now n c : ℕ) → (n ≢ 0 → Other c → ⊥) → Kept connection_bytes Other cs (stamp cs now n c)
unfolding stamp
kept-stamp {Other} cs now n c mine =
    by_test (Kept connection_bytes Other cs) (eqb n 0)
    (λ e. kept_same cs)
    (λ e. kept-last-sent cs c (mine (eqb-false n 0 e)) now)

-- ---- a writing to bytes 2-15 of records: states, peers, sessions and keys stay

abbrev pub InMarks : ℕ → Type 0
InMarks i = (2 ≤ i % connection_bytes) × (i % connection_bytes < 16)

module _ {cs ds : List ℕ} (s : ChangedOnly InMarks cs ds) where
  state-kept : (c : ℕ) → state ds c ≡ state cs c
  unfolding state
  state-kept c = ap (λ (x : ℕ). if leb x opened then x else closed) (sym (s.at (connection_at c) (λ p. omega (arith, p.0))))

  peer-kept : (c : ℕ) → peer ds c ≡ peer cs c
  peer-kept c = sym (s.at (peer_at c) (λ p. omega (arith, p.0)))

  pub session_kept : (c d : ℕ) → in_session ds c d ≡ in_session cs c d
  unfolding in_session
  session_kept c d = rw (state-kept c, state-kept d, peer-kept c, peer-kept d)

  pub keys_kept : (c at n : ℕ) → keys_at c ≤ at → at + n ≤ connection_at c + connection_bytes → part ds at n ≡ part cs at n
  keys_kept c at n low high = sym (same-part s at n (λ i l u p. omega (arith, p.0, p.1)))

  pub cleared-kept : (c : ℕ) → Cleared cs c → Cleared ds c
  cleared-kept c h = record {
    peer_none = peer-kept c ∙ h.peer_none;
    keys_zero = keys_kept c (keys_at c) keys_bytes (omega arith) (omega arith) ∙ h.keys_zero;
  }

-- ---- a message that is heard, and replied to, relayed, or both

module _ (cs : List ℕ) (now c : ℕ) where
  pub own-marks : (n : ℕ) → ChangedOnly (InOwnMarks c) cs (stamp (answered cs c) now n c)
  own-marks n = changed_both (changed_answered cs c) (changed_stamp (answered cs c) c now n)

  pub relay-marks : (k d : ℕ) → ChangedOnly (λ i. InUnanswered c i ⊎ InLastSent d i) cs (stamp (answered cs c) now k d)
  relay-marks k d = changed_both (changed_answered cs c) (changed_stamp (answered cs c) d now k)

  pub both-marks : (n k d : ℕ) → ChangedOnly (λ i. InOwnMarks c i ⊎ InLastSent d i) cs (stamp (stamp (answered cs c) now n c) now k d)
  both-marks n k d = changed_both (own-marks n) (changed_stamp (stamp (answered cs c) now n c) d now k)

-- a fresh record stays so, whatever of it is cleared or of another is stamped
pub fresh-answered : (cs : List ℕ) (c s : ℕ) → length cs ≡ connections_size → c < connection_count → FreshBut s cs c → FreshBut s (answered cs c) c
fresh-answered cs c s size c< f i l = go (ℕ_discrete i 2)
  where
    go : Dec (i ≡ 2) → byte_at (answered cs c) (connection_at c + i) ≡ fresh_byte s i
    go (yes e) = rw e (answered-exactly cs c size c<).zero
    go (no n) = sym ((changed_answered cs c).at (connection_at c + i) (λ p. omega (arith, p.0, p.1, n))) ∙ f i l

pub fresh-beside : (cs : List ℕ) (now n c d s : ℕ) → (n ≢ 0 → c ≢ d) → FreshBut s cs c → FreshBut s (stamp cs now n d) c
fresh-beside cs now n c d s apart f = go (ℕ_discrete n 0)
  where
    go : Dec (n ≡ 0) → FreshBut s (stamp cs now n d) c
    go (yes z) = rw (stamp-none cs now n d z) f
    go (no z) = λ i l. sym ((changed_stamp cs d now n).at (connection_at c + i) (λ p. omega (arith, p.0, p.1, apart z))) ∙ f i l

-- ---- when

module _ (cs : List ℕ) (now c : ℕ) where
  unanswered-exactly : (is_unanswered cs c ≡ true) ↔ (byte_at cs (connection_at c + 2) ≡ 1)
  unfolding is_unanswered
  unanswered-exactly = eq-exactly (byte_at cs (unanswered_at c)) 1

  -- so much time has passed
  passed_exactly : (k since : ℕ) → 0 < k → (leb k (elapsed now since) ≡ true) ↔ (since + k ≤ now)
  passed_exactly k since h =
      let e = le-exactly k (now - since) in ((λ t. let l = e.0 t in omega arith), (λ l. e.1 (omega arith)))

  -- "unanswered for 60 seconds or more"
  pub dead-exactly : (is_dead cs now c ≡ true) ↔ Dead cs now c
  unfolding is_dead keepalive_sent
  dead-exactly = and-exactly _ _ unanswered-exactly (passed_exactly answer_timeout (number_at cs (keepalive_at c) time_bytes) (omega arith))

  -- "none unanswered and nothing sent for 30 seconds or more"
  pub due-exactly : (is_due cs now c ≡ true) ↔ Due cs now c
  unfolding is_due last_sent
  due-exactly =
      and-exactly _ _ (not-exactly _ unanswered-exactly)
      (passed_exactly keepalive_timeout (number_at cs (last_sent_at c) time_bytes) (omega arith))

-- whatever holds of a table that is left alone and of one with an answer holds of a table after any call
pub by_caller : (P : List ℕ → Type 0) (call : Call) (cs : List ℕ) → P cs → P (answered cs (connection_of call)) → P (answered_by call cs)
by_caller P (opening now c reply) cs p q = p
by_caller P (message now c m random reply relay) cs p q = q
by_caller P (closing now c relay) cs p q = p
by_caller P (keepalive now c reply relay) cs p q = p

-- ---- a plan, with what is written of the messages that it sends and of the one that it heard

module _ (call : Call) (x : Plan) where
  abbrev now : ℕ
  now = time_of call

  abbrev c : ℕ
  c = connection_of call

  abbrev heard_from : List ℕ
  heard_from = answered_by call x.connections

  abbrev replied_to : List ℕ
  replied_to = stamp heard_from now (length x.reply) c

  abbrev relayed_to : List ℕ
  relayed_to = stamp replied_to now (length x.relay) x.destination

  pub marks_changed : ChangedOnly InMarks x.connections relayed_to
  marks_changed =
      same_trans
      (by_caller (ChangedOnly InMarks x.connections) call x.connections (same_refl x.connections)
      (changed_more (λ i p. (omega (arith, p.0, p.1), omega (arith, p.0, p.1))) (changed_answered x.connections c)))
      (same_trans
      (changed_more (λ i p. (omega (arith, p.0, p.1), omega (arith, p.0, p.1))) (changed_stamp heard_from c now (length x.reply)))
      (changed_more (λ i p. (omega (arith, p.0, p.1), omega (arith, p.0, p.1))) (changed_stamp replied_to x.destination now (length x.relay))))

  pub record PlanMarked : Type 0 where
    pub replied : length x.reply ≢ 0 → TimeAt relayed_to (last_sent_at c) now
    pub relayed : length x.relay ≢ 0 → TimeAt relayed_to (last_sent_at x.destination) now
    pub cleared : IsMessage call → byte_at relayed_to (unanswered_at c) ≡ 0

  pub marked : length x.connections ≡ connections_size → c < connection_count → now < time_limit
      → (length x.relay ≢ 0 → x.destination < connection_count) → PlanMarked
  marked size c< now< d< = record {
    replied = λ n.
        stamp-kept replied_to now (length x.relay) c x.destination size-replied c< now<
        ((stamp-exactly heard_from now (length x.reply) c size-heard c< now<).time_is n);
    relayed = λ n. (stamp-exactly replied_to now (length x.relay) x.destination size-replied (d< n) now<).time_is n;
    cleared = λ is.
        sym ((changed_stamp replied_to x.destination now (length x.relay)).at (unanswered_at c) (λ p. omega (arith, p.0, p.1)))
        ∙ sym ((changed_stamp heard_from c now (length x.reply)).at (unanswered_at c) (λ p. omega (arith, p.0, p.1)))
        ∙ by-message call is x.connections size c<;
  }
    where
      size-heard : length heard_from ≡ connections_size
      size-heard =
          by_caller (λ (l : List ℕ). length l ≡ connections_size) call x.connections size (length-answered x.connections c ∙ size)

      size-replied : length replied_to ≡ connections_size
      size-replied = length-stamp heard_from now (length x.reply) c ∙ size-heard

      by-message : (call : Call) → IsMessage call → (cs : List ℕ) → length cs ≡ connections_size → connection_of call < connection_count
          → byte_at (answered_by call cs) (unanswered_at (connection_of call)) ≡ 0
      by-message (opening now c reply) is cs s k = absurd is
      by-message (message now c m random reply relay) is cs s k = (answered-exactly cs c s k).zero
      by-message (closing now c relay) is cs s k = absurd is
      by-message (keepalive now c reply relay) is cs s k = absurd is
