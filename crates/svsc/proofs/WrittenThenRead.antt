-- What is written is read back as the same message. Assumes nothing.
use Prim.Native.Nat.{ℕ, suc, ◌+◌, ◌/◌, ◌%◌, ◌^◌, ◌≤◌, ◌<◌}
use mathlib.Core.Path.{◌≡◌, refl, sym, ap, ap₂, ◌∙◌}
use mathlib.Core.Bool.{Bool, true, false, not, ◌&&◌}
use mathlib.Core.Option.{some}
use mathlib.Core.List.{List, ◌++◌}
use native.Mathlib.Omega.{arith}
use lib.Dec.{ltb, leb, eqb}
use lib.Pow.{are_bytes}
use lib.ListN.{length, take, drop, length-append}
use lib.Seq.{take_at, drop_at, take_all, drop-drop}
use borrow.Author.Tests.{ltb-true, ltb-false, leb-true, eqb-true, le-leb}
use Rattle.octets.specs.Octets.{is_bytes, is_short, number, big_endian, part, number_at, same}
use Rattle.octets.proofs.Tests.{both_left, both_right}
use Rattle.octets.proofs.Numbers.{number-big_endian}
use Rattle.octets.proofs.Stores.{part-put}
use Rattle.svsc.specs.Messages.{Message, protocol_version, version_answer, lease_request, lease_request_with_cookie, lease_refused, lease_granted, extension_request, extension_refused, extension_granted, establish_request, establish_refused, established, establish_notification, session_end, session_end_notification, data_send, data_receive, keepalive_message, longest_message, digits, encode, well_formed, is_digit, are_digits, digits_at, is_version, readings, decode}
use Rattle.svsc.specs.Writing.{WriteOutcome, emit, write}
use Rattle.svsc.proofs.Writing.{out_of_range, too_short_lem}

sized : (n : ℕ) (xs : List ℕ) → is_bytes n xs ≡ true → length xs ≡ n
unfolding is_bytes
sized n xs h = eqb-true (length xs) n (both_left (eqb (length xs) n) (are_bytes xs) h)

below-longest : (xs : List ℕ) → is_short longest_message xs ≡ true → leb (suc (length xs)) longest_message ≡ true
unfolding is_short
below-longest xs h =
    let l : length xs < longest_message = ltb-true (length xs) longest_message (both_left (ltb (length xs) longest_message) (are_bytes xs) h) in
    le-leb (suc (length xs)) longest_message (omega arith)

-- three fields of sixteen bytes, one behind the other
module _ (a b c : List ℕ) (ha : length a ≡ 16) (hb : length b ≡ 16) (hc : length c ≡ 16) where
  first_key : take 16 (a ++ (b ++ c)) ≡ a
  first_key = take_at a (b ++ c) 16 ha

  second_key : take 16 (drop 16 (a ++ (b ++ c))) ≡ b
  second_key = rw (drop_at a (b ++ c) 16 ha) (take_at b c 16 hb)

  third_from : drop 32 (a ++ (b ++ c)) ≡ c
  third_from = sym (drop-drop 16 16 (a ++ (b ++ c))) ∙ rw (drop_at a (b ++ c) 16 ha) (drop_at b c 16 hb)

  third_key : take 16 (drop 32 (a ++ (b ++ c))) ≡ c
  third_key = rw third_from (take_all 16 c (omega arith))

digit : (d : ℕ) → d < 10 → is_digit (48 + d) ≡ true
unfolding is_digit
digit d h = rw (le-leb 48 (48 + d) (omega arith), le-leb (48 + d) 57 (omega arith))

three-digits : (n : ℕ) → are_digits (digits n) ≡ true
unfolding are_digits digits
three-digits n = rw (digit (n / 100 % 10) (omega arith), digit (n / 10 % 10) (omega arith), digit (n % 10) (omega arith))

-- the forms whose tests want more than their lengths
version_back : (major minor : ℕ) → major < 1000 → minor < 1000 → decode (encode (protocol_version major minor)) ≡ some (protocol_version major minor)
unfolding decode readings encode digits part same are_digits digits_at is_version
version_back major minor ha hi = rw (three-digits major, three-digits minor) (ap₂ (λ (x y : ℕ). some (protocol_version x y)) (omega arith) (omega arith))

granted-back : (id : ℕ) (cookie : List ℕ) (expiration : ℕ) → id < 2 ^ 32 → length cookie ≡ 24 → expiration < 2 ^ 64
    → decode (encode (lease_granted id cookie expiration)) ≡ some (lease_granted id cookie expiration)
unfolding decode readings encode big_endian part number_at
granted-back id cookie e hi hc he =
    rw (length-append cookie (big_endian 8 e), hc)
    (rw (take_at cookie (big_endian 8 e) 24 hc, drop_at cookie (big_endian 8 e) 24 hc, number-big_endian 4 id hi, number-big_endian 8 e he))

status_back : (id status : ℕ) → id < 2 ^ 32 → 1 ≤ status → status ≤ 5 → decode (encode (establish_refused id status)) ≡ some (establish_refused id status)
unfolding decode readings encode big_endian part number_at
status_back id status hi h1 h5 = rw (le-leb 1 status h1, le-leb status 5 h5) (rw (number-big_endian 4 id hi))

established_back : (id : ℕ) (session peer key : List ℕ) → id < 2 ^ 32 → length session ≡ 16 → length peer ≡ 16 → length key ≡ 16
    → decode (encode (established id session peer key)) ≡ some (established id session peer key)
unfolding decode readings encode big_endian part number_at
established_back id session peer key hi hs hp hk =
    rw (length-append session (peer ++ key), length-append peer key, hs, hp, hk)
    (rw (first_key session peer key hs hp hk, second_key session peer key hs hp hk, third_key session peer key hs hp hk, number-big_endian 4 id hi))

notification_back : (session peer key : List ℕ) → length session ≡ 16 → length peer ≡ 16 → length key ≡ 16
    → decode (encode (establish_notification session peer key)) ≡ some (establish_notification session peer key)
unfolding decode readings encode part
notification_back session peer key hs hp hk =
    rw (length-append session (peer ++ key), length-append peer key, hs, hp, hk)
    (rw (first_key session peer key hs hp hk, second_key session peer key hs hp hk, third_key session peer key hs hp hk))

-- "what is written reads back as the same message"
pub decode-encode : (x : Message) → well_formed x ≡ true → decode (encode x) ≡ some x
unfolding decode readings encode well_formed big_endian part number_at
decode-encode (protocol_version major minor) h =
    version_back major minor (ltb-true major 1000 (both_left _ _ h)) (ltb-true minor 1000 (both_right (ltb major 1000) _ h))
decode-encode (version_answer ok) h = rw h
decode-encode lease_request h = refl
decode-encode (lease_request_with_cookie cookie) h = rw (sized 24 cookie h) (rw (take_all 24 cookie (omega (arith, sized 24 cookie h))))
decode-encode lease_refused h = refl
decode-encode (lease_granted id cookie expiration) h =
    let hn : ltb id (2 ^ 32) && ltb expiration (2 ^ 64) ≡ true = both_left _ _ h in
    granted-back id cookie expiration (ltb-true id (2 ^ 32) (both_left _ _ hn)) (sized 24 cookie (both_right (ltb id (2 ^ 32) && ltb expiration (2 ^ 64)) _ h))
    (ltb-true expiration (2 ^ 64) (both_right (ltb id (2 ^ 32)) _ hn))
decode-encode (extension_request cookie) h = rw (sized 24 cookie h) (rw (take_all 24 cookie (omega (arith, sized 24 cookie h))))
decode-encode extension_refused h = refl
decode-encode (extension_granted expiration) h =
    ap (λ (e : ℕ). some (extension_granted e)) (number-big_endian 8 expiration (ltb-true expiration (2 ^ 64) h))
decode-encode (establish_request id) h = ap (λ (i : ℕ). some (establish_request i)) (number-big_endian 4 id (ltb-true id (2 ^ 32) h))
decode-encode (establish_refused id status) h =
    let hl : ltb id (2 ^ 32) && leb 1 status ≡ true = both_left _ _ h in
    status_back id status (ltb-true id (2 ^ 32) (both_left _ _ hl)) (leb-true 1 status (both_right (ltb id (2 ^ 32)) _ hl))
    (leb-true status 5 (both_right (ltb id (2 ^ 32) && leb 1 status) _ h))
decode-encode (established id session peer key) h =
    let h3 : ltb id (2 ^ 32) && is_bytes 16 session && is_bytes 16 peer ≡ true = both_left _ _ h in
    let h2 : ltb id (2 ^ 32) && is_bytes 16 session ≡ true = both_left _ _ h3 in
    established_back id session peer key (ltb-true id (2 ^ 32) (both_left _ _ h2)) (sized 16 session (both_right (ltb id (2 ^ 32)) _ h2))
    (sized 16 peer (both_right (ltb id (2 ^ 32) && is_bytes 16 session) _ h3))
    (sized 16 key (both_right (ltb id (2 ^ 32) && is_bytes 16 session && is_bytes 16 peer) _ h))
decode-encode (establish_notification session peer key) h =
    let h2 : is_bytes 16 session && is_bytes 16 peer ≡ true = both_left _ _ h in
    notification_back session peer key (sized 16 session (both_left _ _ h2)) (sized 16 peer (both_right (is_bytes 16 session) _ h2))
    (sized 16 key (both_right (is_bytes 16 session && is_bytes 16 peer) _ h))
decode-encode session_end h = refl
decode-encode session_end_notification h = refl
decode-encode (data_send bytes) h = rw (below-longest bytes h)
decode-encode (data_receive bytes) h = rw (below-longest bytes h)
decode-encode keepalive_message h = refl

-- what a writer has written is read as its message
pub read_back : (x : Message) (buffer : List ℕ) → (write x buffer).number ≡ 0 → decode (part (write x buffer).buffer 0 (write x buffer).length) ≡ some x
unfolding write emit
read_back x buffer e = by (well_formed x) (ltb (length buffer) (length (encode x))) refl refl
  where
    number_of : WriteOutcome → ℕ
    number_of o = o.number

    by : (w s : Bool) → well_formed x ≡ w → ltb (length buffer) (length (encode x)) ≡ s
        → decode (part (write x buffer).buffer 0 (write x buffer).length) ≡ some x
    by true false w s =
        rw (w, s) (ap decode (part-put buffer 0 (encode x) (omega (arith, ltb-false (length buffer) (length (encode x)) s))) ∙ decode-encode x w)
    by true true w s =
        let z : ◌≡◌ {A = ℕ} 5 0 = ap number_of (too_short_lem (encode x) buffer (well_formed x) w (ltb-true _ _ s)) ∙ e in absurd (omega arith)
    by false s w t = let z : ◌≡◌ {A = ℕ} 6 0 = ap number_of (out_of_range (encode x) buffer (well_formed x) w) ∙ e in absurd (omega arith)
