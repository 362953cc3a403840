-- The ways out of the functions that establish sessions, over plain values. Assumes nothing.
use Prim.Native.Nat.{ℕ, ◌+◌, ◌^◌, ◌≤◌, ◌<◌}
use mathlib.Core.Path.{◌≡◌}
use mathlib.Core.Bool.{true}
use mathlib.Core.List.{List}
use native.Mathlib.Omega.{arith}
use lib.ListN.{length, get_or, length-append}
use borrow.Author.Tests.{lt-ltb, le-leb}
use Rattle.octets.specs.Octets.{part, put, is_bytes}
use Rattle.octets.proofs.Numbers.{length-big_endian}
use Rattle.svsc.specs.Messages.{Message, establish_refused, established, establish_notification, encode, well_formed}
use Rattle.std.specs.Prelude.{Result, Ok, IsOk}
use Rattle.svsc.specs.Writing.{write, written, as_written}
use Rattle.svsc.specs.declared.Refused.{Refused}
use Rattle.rules.specs.Sizes.{random_bytes, least_buffer}
use Rattle.rules.specs.Tables.{lent}
use Rattle.rules.specs.Sessions.{refused_with, established_with, establish, random_session_id, callers_peer_id, callers_key, holders_peer_id, holders_key}
use Rattle.rules.specs.Plans.{plan_establish}
use Rattle.answers.specs.declared.Answer.{Answer}
use Rattle.answers.specs.Applied.{Handled, handled, applied, coded, replied, told_both}
use Rattle.establishing.specs.Asked.{Wrote}
use Rattle.answers.proofs.Writes.{part_bytes, sized-length, sent_ok, sent-length, sent-buffer}

-- ---- ranges and lengths

pub status_ranges : (id status : ℕ) → id < 2 ^ 32 → 1 ≤ status → status ≤ 5 → well_formed (establish_refused id status) ≡ true
unfolding well_formed
status_ranges id status hi h1 h5 = rw (lt-ltb id (2 ^ 32) hi, le-leb 1 status h1, le-leb status 5 h5)

pub status_length : (id status : ℕ) → length (encode (establish_refused id status)) ≡ 6
unfolding encode
status_length id status = simp (length-append, length-big_endian)

module _ (session peer key : List ℕ) (hs : is_bytes 16 session ≡ true) (hp : is_bytes 16 peer ≡ true) (hk : is_bytes 16 key ≡ true) where
  established_ranges : (id : ℕ) → id < 2 ^ 32 → well_formed (established id session peer key) ≡ true
  unfolding well_formed
  established_ranges id hi = rw (lt-ltb id (2 ^ 32) hi, hs, hp, hk)

  established_length : (id : ℕ) → length (encode (established id session peer key)) ≡ 54
  unfolding encode
  established_length id = simp (length-append, length-big_endian, sized-length session 16 hs, sized-length peer 16 hp, sized-length key 16 hk)

  notification_ranges : well_formed (establish_notification session peer key) ≡ true
  unfolding well_formed
  notification_ranges = rw (hs, hp, hk)

  notification_length : length (encode (establish_notification session peer key)) ≡ 49
  unfolding encode
  notification_length = simp (length-append, sized-length session 16 hs, sized-length peer 16 hp, sized-length key 16 hk)

-- ---- the pairs, told to their owners

-- a message was written, which a buffer of the least size has room for
pub record PairTold (m : Message) (buffer : List ℕ) (r : Result ℕ Refused) (after : List ℕ) : Type 0 where
  pub ok : IsOk r
  pub told : (n : ℕ) → r ≡ Ok n → Wrote (encode m) n buffer after

-- a message of three parts of the random bytes
module _ (form : List ℕ → List ℕ → List ℕ → Message)
    (ranges : (s p k : List ℕ) → is_bytes 16 s ≡ true → is_bytes 16 p ≡ true → is_bytes 16 k ≡ true → well_formed (form s p k) ≡ true) (n : ℕ)
    (sizes : (s p k : List ℕ) → is_bytes 16 s ≡ true → is_bytes 16 p ≡ true → is_bytes 16 k ≡ true → length (encode (form s p k)) ≡ n) (small : n ≤ least_buffer) where
  pair_told : (random buffer : List ℕ) → ((i : ℕ) → get_or random i 0 < 256) → length random ≡ random_bytes → least_buffer ≤ length buffer
      → (at : ℕ) → at + 32 ≤ random_bytes → (s p k : List ℕ) → s ≡ part random 0 16 → p ≡ part random at 16 → k ≡ part random (at + 16) 16
      → (r : Result ℕ Refused) (after : List ℕ) → written (as_written r) after ≡ write (form s p k) buffer
      → PairTold (form (part random 0 16) (part random at 16) (part random (at + 16) 16)) buffer r after
  pair_told random buffer bytes size room at h s p k es ep ek r after e =
      let hs : is_bytes 16 s ≡ true = rw es (part_bytes random 0 16 bytes (omega arith)) in
      let hp : is_bytes 16 p ≡ true = rw ep (part_bytes random at 16 bytes (omega arith)) in
      let hk : is_bytes 16 k ≡ true = rw ek (part_bytes random (at + 16) 16 bytes (omega arith)) in
      let whole = sizes s p k hs hp hk in
      let fits : length (encode (form s p k)) ≤ length buffer = omega arith in
      let count = sent-length (form s p k) buffer r after e (ranges s p k hs hp hk) fits in
      rw (← es, ← ep, ← ek)
      (record {
        ok = sent_ok (form s p k) buffer r after e (ranges s p k hs hp hk) fits;
        told = λ n h. record { count = count n h; stored = sent-buffer (form s p k) buffer r after e (ranges s p k hs hp hk) fits };
      })

module _ (random buffer : List ℕ) (bytes : (i : ℕ) → get_or random i 0 < 256) (size : length random ≡ random_bytes) (room : least_buffer ≤ length buffer) (s p k : List ℕ) (es : s ≡ random_session_id random) (r : Result ℕ Refused) (after : List ℕ) where
  pub caller_told : (id : ℕ) → id < 2 ^ 32 → p ≡ callers_peer_id random → k ≡ callers_key random → written (as_written r) after ≡ write (established id s p k) buffer
      → PairTold (established id (random_session_id random) (callers_peer_id random) (callers_key random)) buffer r after
  caller_told id hi ep ek e =
      pair_told (established id) (λ s p k hs hp hk. established_ranges s p k hs hp hk id hi) 54 (λ s p k hs hp hk. established_length s p k hs hp hk id) (omega arith) random buffer bytes size room 16 (omega arith) s p k es ep ek r after e

  pub holder-told : p ≡ holders_peer_id random → k ≡ holders_key random → written (as_written r) after ≡ write (establish_notification s p k) buffer
      → PairTold (establish_notification (random_session_id random) (holders_peer_id random) (holders_key random)) buffer r after
  holder-told ep ek e =
      pair_told establish_notification notification_ranges 49 notification_length (omega arith) random buffer bytes size room 48 (omega arith) s p k es ep ek r after e

-- ---- the ways out

module _ (cs ls al reply relay : List ℕ) (c id : ℕ) (random : List ℕ) where
  pub session_refused : (status n : ℕ) (reply' : List ℕ) (r : Answer) → n ≡ length (encode (establish_refused id status))
      → reply' ≡ put reply 0 (encode (establish_refused id status)) → r ≡ coded (replied n)
      → handled r cs ls reply' relay ≡ applied (plan_establish (lent cs ls al) c id random (refused_with status)) reply relay
  unfolding applied plan_establish put
  session_refused status n reply' r hn hr a = rw (a, hr, hn)

  pub session_made : (h n k : ℕ) (cs' reply' relay' : List ℕ) (r : Answer) → cs' ≡ establish cs c h random
      → Wrote (encode (established id (random_session_id random) (callers_peer_id random) (callers_key random))) n reply reply'
      → Wrote (encode (establish_notification (random_session_id random) (holders_peer_id random) (holders_key random))) k relay relay' → r ≡ coded (told_both n k h)
      → handled r cs' ls reply' relay' ≡ applied (plan_establish (lent cs ls al) c id random (established_with h)) reply relay
  unfolding applied plan_establish
  session_made h n k cs' reply' relay' r e w v a = rw (a, e, w.stored, w.count, v.stored, v.count)
