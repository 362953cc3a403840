-- The ways out of the functions that carry out what was decided on a lease request, over plain values. Assumes nothing.
use Prim.Native.Nat.{ℕ, ◌^◌, ◌<◌}
use mathlib.Core.Path.{◌≡◌, ◌∙◌}
use mathlib.Core.Bool.{true}
use mathlib.Core.List.{List}
use native.Mathlib.Omega.{arith}
use lib.ListN.{length, get_or, length-append}
use borrow.Author.Tests.{lt-ltb, eq-eqb}
use Rattle.octets.specs.Octets.{part, put, is_bytes}
use Rattle.octets.proofs.Tests.{bytes-known}
use Rattle.octets.proofs.Numbers.{length-big_endian}
use Rattle.octets.proofs.Parts.{length_part}
use Rattle.svsc.specs.Messages.{lease_refused, lease_granted, encode, well_formed}
use Rattle.rules.specs.Sizes.{row_count, leases_size}
use Rattle.rules.specs.Tables.{lent, id_of, cookie_at, cookie_of}
use Rattle.rules.specs.Leases.{renewed, granted, random_cookie, lease_end, grant, renew}
use Rattle.rules.specs.Plans.{reply_only, plan_lease, refuse_lease}
use Rattle.answers.specs.declared.Answer.{Answer}
use Rattle.answers.specs.Applied.{Handled, handled, applied, coded, replied}

-- ---- ranges and lengths

pub lease_ranges : (id : ℕ) (cookie : List ℕ) (until : ℕ) → id < 2 ^ 32 → is_bytes 24 cookie ≡ true → until < 2 ^ 64 → well_formed (lease_granted id cookie until) ≡ true
unfolding well_formed
lease_ranges id cookie until hi hc hu = rw (lt-ltb id (2 ^ 32) hi, lt-ltb until (2 ^ 64) hu, hc)

pub cookie-bytes : (cookie : List ℕ) → ((i : ℕ) → get_or cookie i 0 < 256) → length cookie ≡ 24 → is_bytes 24 cookie ≡ true
unfolding is_bytes
cookie-bytes cookie bytes size = rw (eq-eqb (length cookie) 24 size, bytes-known cookie (λ i l. bytes i))

pub cookie-length : (ls : List ℕ) (row : ℕ) → length ls ≡ leases_size → row < row_count → length (cookie_of ls row) ≡ 24
unfolding cookie_of
cookie-length ls row size h = length_part ls (cookie_at row) 24 (omega arith)

pub lease-length : (id : ℕ) (cookie : List ℕ) (until : ℕ) → length cookie ≡ 24 → length (encode (lease_granted id cookie until)) ≡ 38
unfolding encode
lease-length id cookie until h = simp (length-append, length-big_endian, h)

-- ---- the ways out

module _ (cs ls al reply relay : List ℕ) (time c : ℕ) where
  pub lease-told : (id until n : ℕ) (cookie reply' : List ℕ) (r : Answer) → n ≡ length (encode (lease_granted id cookie until))
      → reply' ≡ put reply 0 (encode (lease_granted id cookie until)) → r ≡ coded (replied n)
      → handled r cs ls reply' relay ≡ applied (reply_only cs ls (encode (lease_granted id cookie until))) reply relay
  unfolding applied put
  lease-told id until n cookie reply' r hn hr a = rw (a, hr, hn)

  -- what is told of a row that is written
  module _ (row until id : ℕ) (cookie : List ℕ) {ls' : List ℕ} (x : Handled) (end : until ≡ lease_end al time) (told : x ≡ applied (reply_only cs ls' (encode (lease_granted id cookie until))) reply relay) where
    pub lease-given : (random : List ℕ) → cookie ≡ part random 0 24 → ls' ≡ grant ls row until id cookie c
        → x ≡ applied (plan_lease (lent cs ls al) time c (granted row id (random_cookie random))) reply relay
    unfolding plan_lease
    lease-given random given written = told ∙ rw (written, given, end)

    pub lease-renewed : id ≡ id_of ls row → cookie ≡ cookie_of ls row → ls' ≡ renew ls row until c
        → x ≡ applied (plan_lease (lent cs ls al) time c (renewed row)) reply relay
    unfolding plan_lease
    lease-renewed same_id same-cookie written = told ∙ rw (written, same-cookie, same_id, end)

  pub lease-refused : (n : ℕ) (reply' : List ℕ) (r : Answer) → n ≡ length (encode lease_refused) → reply' ≡ put reply 0 (encode lease_refused)
      → r ≡ coded (replied n) → handled r cs ls reply' relay ≡ applied (refuse_lease (lent cs ls al)) reply relay
  unfolding applied put
  lease-refused n reply' r hn hr a = rw (a, hr, hn)
