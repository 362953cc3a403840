-- The ways out of what was decided on a lease request, and of an extension, over plain values. Assumes nothing.
use Rattle.std.specs.Prelude.{Err}
use Rattle.leases.specs.declared.LeaseRefusal.{LeaseRefusal}
use Rattle.leases.specs.declared.LeaseRefusal.TheVariants as refusal
use Prim.Native.Nat.{ℕ, ◌^◌, ◌≤◌, ◌<◌}
use mathlib.Core.Path.{◌≡◌, refl}
use mathlib.Core.Bool.{true}
use mathlib.Core.List.{List}
use native.Mathlib.Omega.{arith}
use lib.ListN.{length}
use borrow.Author.Tests.{lt-ltb, le-ltb}
use Rattle.octets.specs.Octets.{put}
use Rattle.octets.proofs.Numbers.{length-big_endian}
use Rattle.svsc.specs.Messages.{extension_refused, extension_granted, encode, well_formed}
use Rattle.rules.specs.Sizes.{time_limit}
use Rattle.rules.specs.Tables.{lent, partner_of, set_expiry}
use Rattle.rules.specs.Searches.{end_row}
use Rattle.rules.specs.Leases.{lease_end}
use Rattle.rules.specs.Plans.{plan_lease, plan_extension, refuse_lease}
use Rattle.rules.proofs.Terms.{term_most}
use Rattle.leases.specs.Leases.{meaning}
use Rattle.answers.specs.declared.Answer.{Answer}
use Rattle.answers.specs.Applied.{handled, applied, coded, replied}

-- ---- ranges and lengths

pub until-below : (al : List ℕ) (time : ℕ) → time < time_limit → lease_end al time < 2 ^ 64
unfolding lease_end
until-below al time h = omega (arith, term_most al)

pub extension_ranges : (until : ℕ) → until < 2 ^ 64 → well_formed (extension_granted until) ≡ true
unfolding well_formed
extension_ranges until h = lt-ltb until (2 ^ 64) h

pub extension-length : (until : ℕ) → length (encode (extension_granted until)) ≡ 10
unfolding encode
extension-length until = simp length-big_endian

-- ---- the ways out

module _ (cs ls al reply relay : List ℕ) (time c : ℕ) where
  pub extended : (row until n : ℕ) (ls' reply' : List ℕ) (r : Answer) → row < end_row (partner_of c) → until ≡ lease_end al time
      → ls' ≡ set_expiry ls row until → n ≡ length (encode (extension_granted until)) → reply' ≡ put reply 0 (encode (extension_granted until)) → r ≡ coded (replied n)
      → handled r cs ls' reply' relay ≡ applied (plan_extension (lent cs ls al) time c row) reply relay
  unfolding applied plan_extension put
  extended row until n ls' reply' r h hu hl hn hr a = rw (lt-ltb row (end_row (partner_of c)) h, a, hr, hn, hl, hu)

  pub not_extended : (row n : ℕ) (reply' : List ℕ) (r : Answer) → end_row (partner_of c) ≤ row
      → n ≡ length (encode extension_refused) → reply' ≡ put reply 0 (encode extension_refused) → r ≡ coded (replied n)
      → handled r cs ls reply' relay ≡ applied (plan_extension (lent cs ls al) time c row) reply relay
  unfolding applied plan_extension put
  not_extended row n reply' r h hn hr a = rw (le-ltb row (end_row (partner_of c)) h, a, hr, hn)

-- ---- decisions

pub refusing : (cs ls al : List ℕ) (time c : ℕ) (random : List ℕ) (why : LeaseRefusal)
    → refuse_lease (lent cs ls al) ≡ plan_lease (lent cs ls al) time c (meaning (Err why) random)
unfolding plan_lease
refusing cs ls al time c random refusal.HoldsLease = refl
refusing cs ls al time c random refusal.NoSpareRow = refl
refusing cs ls al time c random refusal.CookieInUse = refl
refusing cs ls al time c random refusal.NoFreeId = refl
