-- Bytes are read exactly where they are the bytes of a message whose fields are in their ranges. Assumes nothing.
use Prim.Native.Nat.{ℕ, zero, suc, ◌+◌, ◌-◌, ◌*◌, ◌/◌, ◌%◌, ◌^◌, ◌≤◌, ◌<◌}
use mathlib.Core.Path.{◌≡◌, refl, sym, ap, ap₂, ◌∙◌}
use mathlib.Core.Logic.{◌↔◌}
use mathlib.Core.Bool.{Bool, true, false, ◌&&◌}
use mathlib.Core.Option.{Option, none, some}
use mathlib.Core.List.{List, [], ◌∷◌, ◌++◌}
use native.Mathlib.Omega.{arith}
use lib.Dec.{lit≤, ltb, leb, eqb}
use lib.Pow.{are_bytes}
use lib.ListN.{length, drop, get_or}
use borrow.Author.Tests.{leb-true, eqb-true, lt-ltb, eq-eqb}
use Rattle.octets.specs.Octets.{is_bytes, is_short, number, part, number_at, same}
use Rattle.octets.proofs.Tests.{both_left, both_right, bytes-part, bytes_drop}
use Rattle.octets.proofs.Parts.{length_part, part_join, part-join₃, part-one, part-three, part_end}
use Rattle.octets.proofs.Numbers.{big_endian-number_at, number_at-lt}
use Rattle.octets.proofs.Equality.{same-eq}
use Rattle.svsc.specs.Messages.{Message, protocol_version, version_answer, lease_request, lease_request_with_cookie, lease_refused, lease_granted, extension_request, extension_refused, extension_granted, establish_request, establish_refused, established, establish_notification, session_end, session_end_notification, keepalive_message, longest_message, version_name, version_point, digits, encode, well_formed, when, ◌or_else◌, is_digit, are_digits, digits_at, is_version, readings, decode}
use Rattle.svsc.proofs.WrittenThenRead.{decode-encode}

-- the bytes m are those of x, whose fields are in their ranges
pub record Sound (m : List ℕ) (x : Message) : Type 0 where
  pub bytes : encode x ≡ m
  pub ranges : well_formed x ≡ true

when_sound : (m : List ℕ) (fits : Bool) (y x : Message) → (fits ≡ true → Sound m y) → when fits y ≡ some x → Sound m x
when_sound m true y x f e = let same-message : y ≡ x = cc in rw (← same-message) (f refl)
when_sound m false y x f e = let z : ◌≡◌ {A = ℕ} 0 1 = cc in absurd (omega arith)

forms_sound : (m : List ℕ) (a b : Bool) (y z x : Message) → (a ≡ true → Sound m y) → (b ≡ true → Sound m z) → (when a y or_else when b z) ≡ some x → Sound m x
forms_sound m true b y z x f g e = when_sound m true y x f e
forms_sound m false b y z x f g e = when_sound m b z x g e

-- bytes of a known length
exactly : (m : List ℕ) (n : ℕ) → are_bytes m ≡ true → length m ≡ n → is_bytes n m ≡ true
unfolding is_bytes
exactly m n b h = rw (eq-eqb (length m) n h, b)

part-sized : (m : List ℕ) (at n : ℕ) → are_bytes m ≡ true → at + n ≤ length m → is_bytes n (part m at n) ≡ true
part-sized m at n b h = exactly (part m at n) n (bytes-part m at n b) (length_part m at n h)

below32 : (m : List ℕ) (at : ℕ) → are_bytes m ≡ true → at + 4 ≤ length m → ltb (number_at m at 4) (2 ^ 32) ≡ true
below32 m at b h = lt-ltb (number_at m at 4) (2 ^ 32) (number_at-lt m at 4 b h)

below64 : (m : List ℕ) (at : ℕ) → are_bytes m ≡ true → at + 8 ≤ length m → ltb (number_at m at 8) (2 ^ 64) ≡ true
below64 m at b h = lt-ltb (number_at m at 8) (2 ^ 64) (number_at-lt m at 8 b h)

empty : (xs : List ℕ) → length xs ≡ 0 → xs ≡ []
empty [] h = refl
empty (x ∷ xs) h = absurd (omega arith)

-- a first byte, known, and the rest
flagged : (xs : List ℕ) (v : ℕ) → 0 < length xs → get_or xs 0 0 ≡ v → xs ≡ v ∷ drop 1 xs
flagged [] v l h = absurd (omega arith)
flagged (x ∷ xs) v l h = ap (λ (y : ℕ). y ∷ xs) h

single : (xs : List ℕ) (v : ℕ) → length xs ≡ 1 → get_or xs 0 0 ≡ v → xs ≡ v ∷ []
single [] v l h = absurd (omega arith)
single (x ∷ xs) v l h = ap₂ ◌∷◌ h (empty xs (omega arith))

-- the tests of a form with a length and a flag
module _ (n whole flag v : ℕ) (h : eqb n whole && eqb flag v ≡ true) where
  form-length : n ≡ whole
  form-length = eqb-true n whole (both_left _ _ h)

  form_flag : flag ≡ v
  form_flag = eqb-true flag v (both_right (eqb n whole) _ h)

-- three digits, said as a number and written again
digit_range : (x : ℕ) → is_digit x ≡ true → (48 ≤ x) × (x ≤ 57)
unfolding is_digit
digit_range x h = (leb-true 48 x (both_left _ _ h), leb-true x 57 (both_right (leb 48 x) _ h))

module _ (x y z : ℕ) (h : are_digits (x ∷ y ∷ z ∷ []) ≡ true) where
  digit_ranges : ((48 ≤ x) × (x ≤ 57)) × ((48 ≤ y) × (y ≤ 57)) × ((48 ≤ z) × (z ≤ 57))
  unfolding are_digits
  digit_ranges = (
    digit_range x (both_left _ _ h),
    digit_range y (both_left _ _ (both_right (is_digit x) _ h)),
    digit_range z (both_left _ _ (both_right (is_digit y) _ (both_right (is_digit x) _ h))),
  )

  digits_say : digits ((x - 48) * 100 + (y - 48) * 10 + (z - 48)) ≡ x ∷ y ∷ z ∷ []
  unfolding digits
  digits_say =
      let r = digit_ranges in
      let hx = r.0 in
      let hy = r.1 in
      let hz = r.2 in
      let p : ((x - 48) * 100 + (y - 48) * 10 + (z - 48)) / 100 ≡ x - 48 = omega arith in
      let ex : 48 + ((x - 48) * 100 + (y - 48) * 10 + (z - 48)) / 100 % 10 ≡ x = ap (λ (k : ℕ). 48 + k % 10) p ∙ omega arith in
      let q : ((x - 48) * 100 + (y - 48) * 10 + (z - 48)) / 10 ≡ (x - 48) * 10 + (y - 48) = omega arith in
      let ey : 48 + ((x - 48) * 100 + (y - 48) * 10 + (z - 48)) / 10 % 10 ≡ y = ap (λ (k : ℕ). 48 + k % 10) q ∙ omega arith in
      let ez : 48 + ((x - 48) * 100 + (y - 48) * 10 + (z - 48)) % 10 ≡ z = omega arith in
      rw (ex, ey, ez)

  digits-below : ltb ((x - 48) * 100 + (y - 48) * 10 + (z - 48)) 1000 ≡ true
  digits-below =
      let r = digit_ranges in
      let hx = r.0 in
      let hy = r.1 in
      let hz = r.2 in
      lt-ltb ((x - 48) * 100 + (y - 48) * 10 + (z - 48)) 1000 (omega arith)

module _ (m : List ℕ) (at : ℕ) (l : at + 3 ≤ length m) (h : are_digits (part m at 3) ≡ true) where
  digits-at : digits (digits_at m at) ≡ part m at 3
  unfolding digits_at
  digits-at = digits_say (get_or m at 0) (get_or m (at + 1) 0) (get_or m (at + 2) 0) (rw (part-three m at l) at h) ∙ sym (part-three m at l)

  digits_at-below : ltb (digits_at m at) 1000 ≡ true
  unfolding digits_at
  digits_at-below = digits-below (get_or m at 0) (get_or m (at + 1) 0) (get_or m (at + 2) 0) (rw (part-three m at l) at h)

-- a law for each form, of bytes that start with its type
module _ (xs : List ℕ) where
  version_sound : are_bytes (0 ∷ xs) ≡ true → eqb (suc (length xs)) 13 && is_version (0 ∷ xs) ≡ true
      → Sound (0 ∷ xs) (protocol_version (digits_at (0 ∷ xs) 6) (digits_at (0 ∷ xs) 10))
  unfolding encode well_formed is_version
  version_sound b h =
      let e : suc (length xs) ≡ 13 = eqb-true (suc (length xs)) 13 (both_left _ _ h) in
      let v : same (part (0 ∷ xs) 1 5) version_name && are_digits (part (0 ∷ xs) 6 3) && same (part (0 ∷ xs) 9 1) version_point && are_digits (part (0 ∷ xs) 10 3) ≡ true = both_right (eqb (suc (length xs)) 13) _ h in
      let h3 : same (part (0 ∷ xs) 1 5) version_name && are_digits (part (0 ∷ xs) 6 3) && same (part (0 ∷ xs) 9 1) version_point ≡ true = both_left _ _ v in
      let h2 : same (part (0 ∷ xs) 1 5) version_name && are_digits (part (0 ∷ xs) 6 3) ≡ true = both_left _ _ h3 in
      let d6 : are_digits (part (0 ∷ xs) 6 3) ≡ true = both_right (same (part (0 ∷ xs) 1 5) version_name) _ h2 in
      let d10 : are_digits (part (0 ∷ xs) 10 3) ≡ true = both_right (same (part (0 ∷ xs) 1 5) version_name && are_digits (part (0 ∷ xs) 6 3) && same (part (0 ∷ xs) 9 1) version_point) _ v in
      let text = same-eq (part (0 ∷ xs) 1 5) version_name (both_left _ _ h2) in
      let point = same-eq (part (0 ∷ xs) 9 1) version_point (both_right (same (part (0 ∷ xs) 1 5) version_name && are_digits (part (0 ∷ xs) 6 3)) _ h3) in
      record {
        bytes =
            ap (λ (l : List ℕ). 0 ∷ l)
            (ap₂ ◌++◌ (sym text)
            (ap₂ ◌++◌ (digits-at (0 ∷ xs) 6 (omega arith) d6) (ap₂ ◌++◌ (sym point) (digits-at (0 ∷ xs) 10 (omega arith) d10) ∙ part_join (0 ∷ xs) 9 1 3)
            ∙ part_join (0 ∷ xs) 6 3 4)
            ∙ part_join (0 ∷ xs) 1 5 7
            ∙ part_end (0 ∷ xs) 1 12 (omega arith));
        ranges = rw (digits_at-below (0 ∷ xs) 6 (omega arith) d6, digits_at-below (0 ∷ xs) 10 (omega arith) d10);
      }

  answer_sound : eqb (suc (length xs)) 2 && leb (get_or xs 0 0) 1 ≡ true → Sound (1 ∷ xs) (version_answer (get_or xs 0 0))
  unfolding encode well_formed
  answer_sound h =
      let e : suc (length xs) ≡ 2 = eqb-true (suc (length xs)) 2 (both_left _ _ h) in
      record {
        bytes = ap (λ (l : List ℕ). 1 ∷ l) (sym (single xs (get_or xs 0 0) (omega arith) refl));
        ranges = both_right (eqb (suc (length xs)) 2) _ h;
      }

  -- a type and a flag of 0: LeaseRequest, LeaseRefused, ExtensionRefused
  short-bytes : (t : ℕ) → eqb (suc (length xs)) 2 && eqb (get_or xs 0 0) 0 ≡ true → t ∷ 0 ∷ [] ≡ t ∷ xs
  short-bytes t h =
      let e = form-length (suc (length xs)) 2 (get_or xs 0 0) 0 h in
      ap (λ (l : List ℕ). t ∷ l) (sym (single xs 0 (omega arith) (form_flag (suc (length xs)) 2 (get_or xs 0 0) 0 h)))

  -- a type, a flag of 1 and the rest, from a part of it: the long forms of types 2, 3 and 5
  long-bytes : (t whole : ℕ) (rest : List ℕ) → eqb (suc (length xs)) whole && eqb (get_or xs 0 0) 1 ≡ true → 2 ≤ whole → rest ≡ drop 1 xs → t ∷ 1 ∷ rest ≡ t ∷ xs
  long-bytes t whole rest h l r =
      let e = form-length (suc (length xs)) whole (get_or xs 0 0) 1 h in
      ap (λ (k : List ℕ). t ∷ k) (ap (λ (k : List ℕ). 1 ∷ k) r ∙ sym (flagged xs 1 (omega arith) (form_flag (suc (length xs)) whole (get_or xs 0 0) 1 h)))

  cookie_sound : are_bytes (2 ∷ xs) ≡ true → eqb (suc (length xs)) 26 && eqb (get_or xs 0 0) 1 ≡ true → Sound (2 ∷ xs) (lease_request_with_cookie (part (2 ∷ xs) 2 24))
  unfolding encode well_formed
  cookie_sound b h =
      let e = form-length (suc (length xs)) 26 (get_or xs 0 0) 1 h in
      record {
        bytes = long-bytes 2 26 _ h (omega arith) (part_end (2 ∷ xs) 2 24 (omega arith));
        ranges = part-sized (2 ∷ xs) 2 24 b (omega arith);
      }

  granted_sound : are_bytes (3 ∷ xs) ≡ true → eqb (suc (length xs)) 38 && eqb (get_or xs 0 0) 1 ≡ true
      → Sound (3 ∷ xs) (lease_granted (number_at (3 ∷ xs) 2 4) (part (3 ∷ xs) 6 24) (number_at (3 ∷ xs) 30 8))
  unfolding encode well_formed
  granted_sound b h =
      let e = form-length (suc (length xs)) 38 (get_or xs 0 0) 1 h in
      record {
        bytes =
            long-bytes 3 38 _ h (omega arith)
            (ap₂ (λ (k l : List ℕ). k ++ (part (3 ∷ xs) 6 24 ++ l)) (big_endian-number_at (3 ∷ xs) 2 4 b (omega arith)) (big_endian-number_at (3 ∷ xs) 30 8 b (omega arith))
            ∙ part-join₃ (3 ∷ xs) 2 4 24 8
            ∙ part_end (3 ∷ xs) 2 36 (omega arith));
        ranges = rw (below32 (3 ∷ xs) 2 b (omega arith), below64 (3 ∷ xs) 30 b (omega arith)) (part-sized (3 ∷ xs) 6 24 b (omega arith));
      }

  extension_sound : are_bytes (4 ∷ xs) ≡ true → eqb (suc (length xs)) 25 ≡ true → Sound (4 ∷ xs) (extension_request (part (4 ∷ xs) 1 24))
  unfolding encode well_formed
  extension_sound b h =
      let e : suc (length xs) ≡ 25 = eqb-true (suc (length xs)) 25 h in
      record { bytes = ap (λ (l : List ℕ). 4 ∷ l) (part_end (4 ∷ xs) 1 24 (omega arith)); ranges = part-sized (4 ∷ xs) 1 24 b (omega arith) }

  extended_sound : are_bytes (5 ∷ xs) ≡ true → eqb (suc (length xs)) 10 && eqb (get_or xs 0 0) 1 ≡ true → Sound (5 ∷ xs) (extension_granted (number_at (5 ∷ xs) 2 8))
  unfolding encode well_formed
  extended_sound b h =
      let e = form-length (suc (length xs)) 10 (get_or xs 0 0) 1 h in
      record {
        bytes = long-bytes 5 10 _ h (omega arith) (big_endian-number_at (5 ∷ xs) 2 8 b (omega arith) ∙ part_end (5 ∷ xs) 2 8 (omega arith));
        ranges = below64 (5 ∷ xs) 2 b (omega arith);
      }

  request_sound : are_bytes (6 ∷ xs) ≡ true → eqb (suc (length xs)) 5 ≡ true → Sound (6 ∷ xs) (establish_request (number_at (6 ∷ xs) 1 4))
  unfolding encode well_formed
  request_sound b h =
      let e : suc (length xs) ≡ 5 = eqb-true (suc (length xs)) 5 h in
      record {
        bytes = ap (λ (l : List ℕ). 6 ∷ l) (big_endian-number_at (6 ∷ xs) 1 4 b (omega arith) ∙ part_end (6 ∷ xs) 1 4 (omega arith));
        ranges = below32 (6 ∷ xs) 1 b (omega arith);
      }

  status_sound : are_bytes (7 ∷ xs) ≡ true → eqb (suc (length xs)) 6 && leb 1 (get_or xs 4 0) && leb (get_or xs 4 0) 5 ≡ true
      → Sound (7 ∷ xs) (establish_refused (number_at (7 ∷ xs) 1 4) (get_or xs 4 0))
  unfolding encode well_formed
  status_sound b h =
      let low : eqb (suc (length xs)) 6 && leb 1 (get_or xs 4 0) ≡ true = both_left _ _ h in
      let e : suc (length xs) ≡ 6 = eqb-true (suc (length xs)) 6 (both_left _ _ low) in
      record {
        bytes =
            ap (λ (l : List ℕ). 7 ∷ l)
            (ap₂ ◌++◌ (big_endian-number_at (7 ∷ xs) 1 4 b (omega arith)) (sym (part-one (7 ∷ xs) 5 (omega arith)))
            ∙ part_join (7 ∷ xs) 1 4 1
            ∙ part_end (7 ∷ xs) 1 5 (omega arith));
        ranges =
            rw
            (below32 (7 ∷ xs) 1 b (omega arith), both_right (eqb (suc (length xs)) 6) _ low, both_right (eqb (suc (length xs)) 6 && leb 1 (get_or xs 4 0)) _ h);
      }

  established_sound : are_bytes (7 ∷ xs) ≡ true → eqb (suc (length xs)) 54 && eqb (get_or xs 4 0) 0 ≡ true
      → Sound (7 ∷ xs) (established (number_at (7 ∷ xs) 1 4) (part (7 ∷ xs) 6 16) (part (7 ∷ xs) 22 16) (part (7 ∷ xs) 38 16))
  unfolding encode well_formed
  established_sound b h =
      let e = form-length (suc (length xs)) 54 (get_or xs 4 0) 0 h in
      record {
        bytes =
            ap (λ (l : List ℕ). 7 ∷ l)
            (ap₂ ◌++◌ (big_endian-number_at (7 ∷ xs) 1 4 b (omega arith))
            (ap₂ ◌++◌ (ap (λ (x : ℕ). x ∷ []) (sym (form_flag (suc (length xs)) 54 (get_or xs 4 0) 0 h)) ∙ sym (part-one (7 ∷ xs) 5 (omega arith))) (part-join₃ (7 ∷ xs) 6 16 16 16)
            ∙ part_join (7 ∷ xs) 5 1 48)
            ∙ part_join (7 ∷ xs) 1 4 49
            ∙ part_end (7 ∷ xs) 1 53 (omega arith));
        ranges =
            rw
            (below32 (7 ∷ xs) 1 b (omega arith), part-sized (7 ∷ xs) 6 16 b (omega arith), part-sized (7 ∷ xs) 22 16 b (omega arith), part-sized (7 ∷ xs) 38 16 b (omega arith));
      }

  notification_sound : are_bytes (8 ∷ xs) ≡ true → eqb (suc (length xs)) 49 ≡ true
      → Sound (8 ∷ xs) (establish_notification (part (8 ∷ xs) 1 16) (part (8 ∷ xs) 17 16) (part (8 ∷ xs) 33 16))
  unfolding encode well_formed
  notification_sound b h =
      let e : suc (length xs) ≡ 49 = eqb-true (suc (length xs)) 49 h in
      record {
        bytes = ap (λ (l : List ℕ). 8 ∷ l) (part-join₃ (8 ∷ xs) 1 16 16 16 ∙ part_end (8 ∷ xs) 1 48 (omega arith));
        ranges = rw (part-sized (8 ∷ xs) 1 16 b (omega arith), part-sized (8 ∷ xs) 17 16 b (omega arith), part-sized (8 ∷ xs) 33 16 b (omega arith));
      }

  -- a type alone: SessionEnd, SessionEndNotification, Keepalive
  alone : (t : ℕ) → eqb (suc (length xs)) 1 ≡ true → t ∷ [] ≡ t ∷ xs
  alone t h = let e : suc (length xs) ≡ 1 = eqb-true (suc (length xs)) 1 h in ap (λ (l : List ℕ). t ∷ l) (sym (empty xs (omega arith)))

  -- a type and data
  data_range : (t : ℕ) → are_bytes (t ∷ xs) ≡ true → leb (suc (length xs)) longest_message ≡ true → is_short longest_message xs ≡ true
  unfolding is_short
  data_range t b h =
      let l : suc (length xs) ≤ longest_message = leb-true (suc (length xs)) longest_message h in
      rw (lt-ltb (length xs) longest_message (omega arith), bytes_drop 1 (t ∷ xs) b)

-- ---- the whole table

-- k more than n, as a run of `suc`
abbrev up : ℕ → ℕ → ℕ
up zero n = n
up (suc k) n = suc (up k n)

split : (P : ℕ → Type 0) → P zero → ((n : ℕ) → P (suc n)) → (t : ℕ) → P t
split P z s zero = z
split P z s (suc n) = s n

-- a case for each of the fourteen types, and one for the rest
types : (P : ℕ → Type 0) → P 0 → P 1 → P 2 → P 3 → P 4 → P 5 → P 6 → P 7 → P 8 → P 9 → P 10 → P 11 → P 12 → P 13 → ((n : ℕ) → P (up 14 n)) → (t : ℕ) → P t
types P p0 p1 p2 p3 p4 p5 p6 p7 p8 p9 p10 p11 p12 p13 rest =
    split P p0
    (split (λ (n : ℕ). P (up 1 n)) p1
    (split (λ (n : ℕ). P (up 2 n)) p2
    (split (λ (n : ℕ). P (up 3 n)) p3
    (split (λ (n : ℕ). P (up 4 n)) p4
    (split (λ (n : ℕ). P (up 5 n)) p5
    (split (λ (n : ℕ). P (up 6 n)) p6
    (split (λ (n : ℕ). P (up 7 n)) p7
    (split (λ (n : ℕ). P (up 8 n)) p8
    (split (λ (n : ℕ). P (up 9 n)) p9
    (split (λ (n : ℕ). P (up 10 n)) p10
    (split (λ (n : ℕ). P (up 11 n)) p11
    (split (λ (n : ℕ). P (up 12 n)) p12
    (split (λ (n : ℕ). P (up 13 n)) p13 rest)))))))))))))

row_sound : (xs : List ℕ) (x : Message) (t : ℕ) → are_bytes (t ∷ xs) ≡ true → get_or (readings (t ∷ xs)) t none ≡ some x → Sound (t ∷ xs) x
unfolding readings encode well_formed
row_sound xs x =
    types (λ (t : ℕ). are_bytes (t ∷ xs) ≡ true → get_or (readings (t ∷ xs)) t none ≡ some x → Sound (t ∷ xs) x)
    (λ b. when_sound _ _ _ x (version_sound xs b))
    (λ b. when_sound _ _ _ x (answer_sound xs))
    (λ b. forms_sound _ _ _ _ _ x (λ h. record { bytes = short-bytes xs 2 h; ranges = refl }) (cookie_sound xs b))
    (λ b. forms_sound _ _ _ _ _ x (λ h. record { bytes = short-bytes xs 3 h; ranges = refl }) (granted_sound xs b))
    (λ b. when_sound _ _ _ x (extension_sound xs b))
    (λ b. forms_sound _ _ _ _ _ x (λ h. record { bytes = short-bytes xs 5 h; ranges = refl }) (extended_sound xs b))
    (λ b. when_sound _ _ _ x (request_sound xs b))
    (λ b. forms_sound _ _ _ _ _ x (status_sound xs b) (established_sound xs b))
    (λ b. when_sound _ _ _ x (notification_sound xs b))
    (λ b. when_sound _ _ _ x (λ h. record { bytes = alone xs 9 h; ranges = refl }))
    (λ b. when_sound _ _ _ x (λ h. record { bytes = alone xs 10 h; ranges = refl }))
    (λ b. when_sound _ _ _ x (λ h. record { bytes = refl; ranges = data_range xs 11 b h }))
    (λ b. when_sound _ _ _ x (λ h. record { bytes = refl; ranges = data_range xs 12 b h }))
    (λ b. when_sound _ _ _ x (λ h. record { bytes = alone xs 13 h; ranges = refl }))
    (λ n b e. let z : ◌≡◌ {A = ℕ} 0 1 = cc in absurd (omega arith))

pub decode_sound : (m : List ℕ) (x : Message) → are_bytes m ≡ true → decode m ≡ some x → Sound m x
unfolding decode
decode_sound [] x b e = unfold readings in (let z : ◌≡◌ {A = ℕ} 0 1 = cc in absurd (omega arith))
decode_sound (t ∷ xs) x b e = row_sound xs x t b e

-- "its reader refuses with 6 whatever the table hasn't got", and nothing else
pub refused_exactly : (m : List ℕ) → are_bytes m ≡ true → (decode m ≡ none) ↔ ((x : Message) → well_formed x ≡ true → encode x ≡ m → ⊥)
refused_exactly m b = (
  (λ e x w h. let z : ◌≡◌ {A = ℕ} 0 1 = cc (decode-encode x w, ap decode h) in omega arith),
  (λ none-fits. by (decode m) refl none-fits),
)
  where
    by : (d : Option Message) → decode m ≡ d → ((x : Message) → well_formed x ≡ true → encode x ≡ m → ⊥) → decode m ≡ none
    by none e f = e
    by (some x) e f = let s = decode_sound m x b e in absurd (f x s.ranges s.bytes)

-- ---- how long a message can be

when-length : (n : ℕ) (fits : Bool) (y x : Message) → (fits ≡ true → n ≤ longest_message) → when fits y ≡ some x → n ≤ longest_message
when-length n true y x f e = f refl
when-length n false y x f e = let z : ◌≡◌ {A = ℕ} 0 1 = cc in absurd (omega arith)

forms_length : (n : ℕ) (a b : Bool) (y z x : Message) → (a ≡ true → n ≤ longest_message) → (b ≡ true → n ≤ longest_message)
    → (when a y or_else when b z) ≡ some x → n ≤ longest_message
forms_length n true b y z x f g e = f refl
forms_length n false b y z x f g e = when-length n b z x g e

-- an exact length, with a test behind it or without
exact : (n whole : ℕ) → whole ≤ longest_message → eqb n whole ≡ true → n ≤ longest_message
exact n whole l h = let e : n ≡ whole = eqb-true n whole h in omega arith

exact_and : (n whole : ℕ) (b : Bool) → whole ≤ longest_message → eqb n whole && b ≡ true → n ≤ longest_message
exact_and n whole b l h = exact n whole l (both_left _ _ h)

row-length : (xs : List ℕ) (x : Message) (t : ℕ) → get_or (readings (t ∷ xs)) t none ≡ some x → suc (length xs) ≤ longest_message
unfolding readings
row-length xs x =
    types (λ (t : ℕ). get_or (readings (t ∷ xs)) t none ≡ some x → suc (length xs) ≤ longest_message)
    (when-length _ _ _ x (exact_and _ 13 _ (lit≤ tt)))
    (when-length _ _ _ x (exact_and _ 2 _ (lit≤ tt)))
    (forms_length _ _ _ _ _ x (exact_and _ 2 _ (lit≤ tt)) (exact_and _ 26 _ (lit≤ tt)))
    (forms_length _ _ _ _ _ x (exact_and _ 2 _ (lit≤ tt)) (exact_and _ 38 _ (lit≤ tt)))
    (when-length _ _ _ x (exact _ 25 (lit≤ tt)))
    (forms_length _ _ _ _ _ x (exact_and _ 2 _ (lit≤ tt)) (exact_and _ 10 _ (lit≤ tt)))
    (when-length _ _ _ x (exact _ 5 (lit≤ tt)))
    (forms_length _ _ _ _ _ x (λ (h : eqb (suc (length xs)) 6 && leb 1 (get_or xs 4 0) && leb (get_or xs 4 0) 5 ≡ true). exact_and _ 6 _ (lit≤ tt) (both_left _ _ h)) (exact_and _ 54 _ (lit≤ tt)))
    (when-length _ _ _ x (exact _ 49 (lit≤ tt)))
    (when-length _ _ _ x (exact _ 1 (lit≤ tt)))
    (when-length _ _ _ x (exact _ 1 (lit≤ tt)))
    (when-length _ _ _ x (leb-true _ longest_message))
    (when-length _ _ _ x (leb-true _ longest_message))
    (when-length _ _ _ x (exact _ 1 (lit≤ tt)))
    (λ n e. let z : ◌≡◌ {A = ℕ} 0 1 = cc in absurd (omega arith))

pub message-length : (m : List ℕ) (x : Message) → decode m ≡ some x → length m ≤ longest_message
unfolding decode
message-length [] x e = omega arith
message-length (t ∷ xs) x e = row-length xs x t e
