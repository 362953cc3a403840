-- What a message that is read says of its bytes: their first byte is its type, and they are no more than the longest message.
-- Assumes nothing.
use Prim.Native.Nat.{ℕ, zero, suc, ◌+◌, ◌≤◌}
use mathlib.Core.Path.{◌≡◌, refl, sym, ap, ◌∙◌}
use mathlib.Core.Bool.{Bool, true, false, ◌&&◌, false≢true}
use mathlib.Core.Logic.{◌⊎◌, inl, inr, ⊎_elim}
use mathlib.Core.Option.{Option, none, some}
use mathlib.Core.List.{List, [], ◌∷◌}
use native.Mathlib.Nat.{add-zero}
use native.Mathlib.Omega.{arith}
use lib.Dec.{eqb, leb, lit≤}
use lib.ListN.{length, get_or, drop}
use borrow.Author.Tests.{eqb-true, leb-true}
use Rattle.octets.specs.Octets.{byte_at, part, number_at}
use Rattle.octets.proofs.Tests.{both_left, both_right}
use Rattle.octets.proofs.Parts.{part_end, none_past}
use Rattle.svsc.specs.Messages.{Message, version_answer, lease_request, lease_request_with_cookie, extension_request, establish_request, session_end, data_send, keepalive_message, longest_message, encode, type_of, when, ◌or_else◌, readings, decode, is_some, sent_by_peers, from_peer}
use Rattle.rules.specs.Layout.{ByType}

module _ (m : List ℕ) where
  -- What is read in the row k of the table.
  abbrev Row : ℕ → Option Message → Type 0
  Row k o = (x : Message) → o ≡ some x → (type_of (encode x) ≡ k) × (length m ≤ longest_message)

  abbrev Rows : ℕ → List (Option Message) → Type 0
  Rows k [] = Unit {0}
  Rows k (o ∷ os) = Row k o × Rows (suc k) os

  no_row : (k : ℕ) → Row k none
  no_row k x e = absurd (let z : ◌≡◌ {A = ℕ} 0 1 = cc in omega arith)

  row_at : (k : ℕ) (os : List (Option Message)) → Rows k os → (i : ℕ) → Row (k + i) (get_or os i none)
  row_at k [] rows i = no_row (k + i)
  row_at k (o ∷ os) rows zero = rw (add-zero k) rows.0
  row_at k (o ∷ os) rows (suc i) = let e : k + suc i ≡ suc k + i = omega arith in rw e (row_at (suc k) os rows.1 i)

  -- a row of one form, with a length of its own or up to the longest; and one of two
  form : (k : ℕ) (x : Message) (fits : Bool) → type_of (encode x) ≡ k → (fits ≡ true → length m ≤ longest_message) → Row k (when fits x)
  form k x true t l y e = (let s : x ≡ y = cc in rw (← s) t, l refl)
  form k x false t l y e = no_row k y e

  two : (k : ℕ) (a b : Option Message) → Row k a → Row k b → Row k (a or_else b)
  two k (some x) b f g = f
  two k none b f g = g

  one-length : (n : ℕ) → n ≤ longest_message → eqb (length m) n ≡ true → length m ≤ longest_message
  one-length n l h = let e = eqb-true (length m) n h in omega arith

  and-length : (n : ℕ) (t : Bool) → n ≤ longest_message → eqb (length m) n && t ≡ true → length m ≤ longest_message
  and-length n t l h = one-length n l (both_left _ t h)

  two-length : (n : ℕ) (t u : Bool) → n ≤ longest_message → eqb (length m) n && t && u ≡ true → length m ≤ longest_message
  two-length n t u l h = and-length n t l (both_left _ u h)

  all-rows : Rows 0 (readings m)
  unfolding readings encode
  all-rows = (
    form 0 _ _ refl (and-length 13 _ (lit≤ tt)),
    (
      form 1 _ _ refl (and-length 2 _ (lit≤ tt)),
      (
        two 2 _ _ (form 2 _ _ refl (and-length 2 _ (lit≤ tt))) (form 2 _ _ refl (and-length 26 _ (lit≤ tt))),
        (
          two 3 _ _ (form 3 _ _ refl (and-length 2 _ (lit≤ tt))) (form 3 _ _ refl (and-length 38 _ (lit≤ tt))),
          (
            form 4 _ _ refl (one-length 25 (lit≤ tt)),
            (
              two 5 _ _ (form 5 _ _ refl (and-length 2 _ (lit≤ tt))) (form 5 _ _ refl (and-length 10 _ (lit≤ tt))),
              (
                form 6 _ _ refl (one-length 5 (lit≤ tt)),
                (
                  two 7 _ _ (form 7 _ _ refl (two-length 6 _ _ (lit≤ tt))) (form 7 _ _ refl (and-length 54 _ (lit≤ tt))),
                  (
                    form 8 _ _ refl (one-length 49 (lit≤ tt)),
                    (
                      form 9 _ _ refl (one-length 1 (lit≤ tt)),
                      (
                        form 10 _ _ refl (one-length 1 (lit≤ tt)),
                        (
                          form 11 _ _ refl (leb-true (length m) longest_message),
                          (
                            form 12 _ _ refl (leb-true (length m) longest_message),
                            (
                              form 13 _ _ refl (one-length 1 (lit≤ tt)),
                              tt,
                            ),
                          ),
                        ),
                      ),
                    ),
                  ),
                ),
              ),
            ),
          ),
        ),
      ),
    ),
  )

  read_row : (x : Message) → decode m ≡ some x → (type_of (encode x) ≡ 0 + type_of m) × (length m ≤ longest_message)
  unfolding decode
  read_row x e = row_at 0 (readings m) all-rows (type_of m) x e

  pub decode_type : (x : Message) → decode m ≡ some x → type_of m ≡ type_of (encode x)
  decode_type x e = omega (arith, (read_row x e).0)

  pub decode-length : (x : Message) → decode m ≡ some x → length m ≤ longest_message
  decode-length x e = (read_row x e).1

  some_read : (o : Option Message) → is_some o ≡ true → decode m ≡ o → length m ≤ longest_message
  some_read none h e = absurd (false≢true h)
  some_read (some x) h e = decode-length x e

  pub peer-length : from_peer m ≡ true → length m ≤ longest_message
  unfolding from_peer
  peer-length h = some_read (decode m) (both_right (get_or sent_by_peers (type_of m) false) (is_some (decode m)) h) refl

  -- a message of type 9 or 11 that peers send
  when-some : (fits : Bool) (x : Message) → is_some (when fits x) ≡ true → when fits x ≡ some x
  when-some true x h = refl
  when-some false x h = absurd (false≢true h)

  fits-some : (fits : Bool) (x : Message) → is_some (when fits x) ≡ true → fits ≡ true
  fits-some true x h = refl
  fits-some false x h = absurd (false≢true h)

  row_read : (k : ℕ) (fits : Bool) (x : Message) → from_peer m ≡ true → type_of m ≡ k → get_or (readings m) k none ≡ when fits x
      → decode m ≡ some x
  unfolding from_peer decode
  row_read k fits x h t r =
      let e : decode m ≡ when fits x = ap (λ (i : ℕ). get_or (readings m) i none) t ∙ r in
      e ∙ when-some fits x (ap is_some (sym e) ∙ both_right (get_or sent_by_peers (type_of m) false) (is_some (decode m)) h)

  -- a test that passes, of the one form that a type has
  fits_read : (k : ℕ) (fits : Bool) (x : Message) → from_peer m ≡ true → type_of m ≡ k → get_or (readings m) k none ≡ when fits x → fits ≡ true
  unfolding from_peer decode
  fits_read k fits x h t r =
      let e : decode m ≡ when fits x = ap (λ (i : ℕ). get_or (readings m) i none) t ∙ r in
      fits-some fits x (ap is_some (sym e) ∙ both_right (get_or sent_by_peers (type_of m) false) (is_some (decode m)) h)

  pub end_read : from_peer m ≡ true → type_of m ≡ 9 → decode m ≡ some session_end
  unfolding readings
  end_read h t = row_read 9 (eqb (length m) 1) session_end h t refl

  pub data_read : from_peer m ≡ true → type_of m ≡ 11 → decode m ≡ some (data_send (drop 1 m))
  unfolding readings
  data_read h t = row_read 11 (leb (length m) longest_message) (data_send (drop 1 m)) h t refl

  -- a message of type 2
  either_form : (a b : Bool) (x : Message) (y : List ℕ → Message) (k : List ℕ) → is_some (when a x or_else when b (y k)) ≡ true
      → ((when a x or_else when b (y k)) ≡ some x) ⊎ ((when a x or_else when b (y k)) ≡ some (y k))
  either_form true b x y k h = inl refl
  either_form false true x y k h = inr refl
  either_form false false x y k h = absurd (false≢true h)

  pub lease_read : from_peer m ≡ true → type_of m ≡ 2
      → (decode m ≡ some lease_request) ⊎ (decode m ≡ some (lease_request_with_cookie (part m 2 24)))
  unfolding from_peer decode readings
  lease_read h t =
      let e = ap (λ (i : ℕ). get_or (readings m) i none) t in
      let known = ap is_some (sym e) ∙ both_right (get_or sent_by_peers (type_of m) false) (is_some (decode m)) h in
      ⊎_elim (λ s. inl (e ∙ s)) (λ s. inr (e ∙ s))
      (either_form
      (eqb (length m) 2 && eqb (byte_at m 1) 0)
      (eqb (length m) 26 && eqb (byte_at m 1) 1)
      lease_request
      lease_request_with_cookie
      (part m 2 24)
      known)

  -- one without a cookie has two bytes, and nothing stands where the cookie would
  pub no_bytes : length m ≡ 2 → part m 2 24 ≡ []
  no_bytes e = part_end m 2 24 (omega arith) ∙ sym (none_past m 2 (omega arith))

  pub no_cookie : decode m ≡ some lease_request → part m 2 24 ≡ []
  unfolding decode readings encode
  no_cookie d =
      let e = ap (λ (i : ℕ). get_or (readings m) i none) (decode_type lease_request d) in
      no_bytes (eqb-true (length m) 2 (both_left _ _ (short (eqb (length m) 2 && eqb (byte_at m 1) 0) (eqb (length m) 26 && eqb (byte_at m 1) 1) (part m 2 24) (sym e ∙ d))))
    where
      short : (a b : Bool) (k : List ℕ) → (when a lease_request or_else when b (lease_request_with_cookie k)) ≡ some lease_request → a ≡ true
      short true b k e = refl
      short false true k e = absurd (let z : ◌≡◌ {A = ℕ} 0 1 = cc e in omega arith)
      short false false k e = absurd (let z : ◌≡◌ {A = ℕ} 0 1 = cc e in omega arith)

  -- the version answer
  answer_read : from_peer m ≡ true → type_of m ≡ 1 → (decode m ≡ some (version_answer 0)) ⊎ (decode m ≡ some (version_answer 1))
  unfolding readings
  answer_read h t =
      let test = eqb (length m) 2 && leb (byte_at m 1) 1 in
      let fits = fits_read 1 test (version_answer (byte_at m 1)) h t refl in
      go (byte_at m 1) (leb-true (byte_at m 1) 1 (both_right (eqb (length m) 2) _ fits)) (row_read 1 test (version_answer (byte_at m 1)) h t refl)
    where
      go : (ok : ℕ) → ok ≤ 1 → decode m ≡ some (version_answer ok)
          → (decode m ≡ some (version_answer 0)) ⊎ (decode m ≡ some (version_answer 1))
      go zero l e = inl e
      go (suc zero) l e = inr e
      go (suc (suc ok)) l e = absurd (omega arith)

  -- their lengths
  pub answer-length : from_peer m ≡ true → type_of m ≡ 1 → length m ≡ 2
  unfolding readings
  answer-length h t =
      let test = eqb (length m) 2 && leb (byte_at m 1) 1 in
      eqb-true (length m) 2 (both_left _ _ (fits_read 1 test (version_answer (byte_at m 1)) h t refl))

  one-fits : (a b : Bool) (x y : Message) → is_some (when a x or_else when b y) ≡ true → (a ≡ true) ⊎ (b ≡ true)
  one-fits true b x y h = inl refl
  one-fits false true x y h = inr refl
  one-fits false false x y h = absurd (false≢true h)

  pub lease-length : from_peer m ≡ true → type_of m ≡ 2 → (length m ≡ 2) ⊎ (length m ≡ 26)
  unfolding from_peer decode readings
  lease-length h t =
      let e = ap (λ (i : ℕ). get_or (readings m) i none) t in
      let known = ap is_some (sym e) ∙ both_right (get_or sent_by_peers (type_of m) false) (is_some (decode m)) h in
      ⊎_elim (λ s. inl (eqb-true (length m) 2 (both_left _ _ s))) (λ s. inr (eqb-true (length m) 26 (both_left _ _ s)))
      (one-fits
      (eqb (length m) 2 && eqb (byte_at m 1) 0)
      (eqb (length m) 26 && eqb (byte_at m 1) 1)
      lease_request
      (lease_request_with_cookie (part m 2 24))
      known)

  pub extension-length : from_peer m ≡ true → type_of m ≡ 4 → length m ≡ 25
  unfolding readings
  extension-length h t = eqb-true (length m) 25 (fits_read 4 (eqb (length m) 25) (extension_request (part m 1 24)) h t refl)

  pub establish-length : from_peer m ≡ true → type_of m ≡ 6 → length m ≡ 5
  unfolding readings
  establish-length h t = eqb-true (length m) 5 (fits_read 6 (eqb (length m) 5) (establish_request (number_at m 1 4)) h t refl)

  pub keepalive-length : from_peer m ≡ true → type_of m ≡ 13 → length m ≡ 1
  unfolding readings
  keepalive-length h t = eqb-true (length m) 1 (fits_read 13 (eqb (length m) 1) keepalive_message h t refl)

  -- Each type that peers send has its form.
  pub by_type : from_peer m ≡ true → ByType m
  unfolding readings
  by_type h = record {
    one = answer_read h;
    two = lease_read h;
    four = λ t. row_read 4 (eqb (length m) 25) (extension_request (part m 1 24)) h t refl;
    six = λ t. row_read 6 (eqb (length m) 5) (establish_request (number_at m 1 4)) h t refl;
    nine = end_read h;
    eleven = data_read h;
    thirteen = λ t. row_read 13 (eqb (length m) 1) keepalive_message h t refl;
  }

-- the data of a message is all of it but the type
pub data_length : (m bytes : List ℕ) → decode m ≡ some (data_send bytes) → suc (length bytes) ≡ length m
unfolding readings decode encode
data_length [] bytes e = absurd (let z : ◌≡◌ {A = ℕ} 0 1 = cc in omega arith)
data_length (x ∷ xs) bytes e =
    ap (λ (l : List ℕ). suc (length l)) (sym (go (leb (length (x ∷ xs)) longest_message) (sym row ∙ e)))
  where
    row : decode (x ∷ xs) ≡ when (leb (length (x ∷ xs)) longest_message) (data_send xs)
    row = ap (λ (i : ℕ). get_or (readings (x ∷ xs)) i none) (decode_type (x ∷ xs) (data_send bytes) e)

    go : (fits : Bool) → when fits (data_send xs) ≡ some (data_send bytes) → xs ≡ bytes
    go true e = cc
    go false e = absurd (let z : ◌≡◌ {A = ℕ} 0 1 = cc in omega arith)
