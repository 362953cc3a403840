-- `tell`: the message with the lease's id, its cookie and its end.
use Prim.Native.Nat.{◌≤◌}
use mathlib.Core.Path.{◌≡◌}
use mathlib.Core.Bool.{true}
use native.Mathlib.Omega.{arith}
use mathlib.Core.List.{[]}
use lib.ListN.{length}
use Rattle.svsc.specs.Messages.{lease_granted, encode, well_formed}
use Rattle.answers.proofs.Writes.{sent_ok, sent-length, sent-buffer, written-short}
use Rattle.granting.proofs.Ways.{cookie-bytes, lease_ranges, lease-length, lease-told}
use Rattle.granting.proofs.tell.Goals as goal

pub unwrap-sent-requires : goal.unwrap-sent-requires
unwrap-sent-requires c =
    let a = c.args in
    let bytes = cookie-bytes a.cookie.now (λ i. omega (arith, c.type_inv.cookie i)) c.requires.1 in
    sent_ok (lease_granted a.id a.cookie.now a.until) a.reply.now _ _ c.svsc_write_lease_granted.ensures
    (lease_ranges a.id a.cookie.now a.until c.ranges.id.fits bytes c.ranges.until.fits)
    (omega (arith, lease-length a.id a.cookie.now a.until c.requires.1, c.requires.0))

pub overflow_cast-sent : goal.overflow_cast-sent
overflow_cast-sent c = omega (arith, written-short _ _ _ _ c.svsc_write_lease_granted.ensures _ c.unwrap-sent.ensures)

pub returns : goal.returns
returns c cs ls relay =
    let a = c.args in
    let cookie = a.cookie.now in
    let bytes = cookie-bytes cookie (λ i. omega (arith, c.type_inv.cookie i)) c.requires.1 in
    let ranges = lease_ranges a.id cookie a.until c.ranges.id.fits bytes c.ranges.until.fits in
    let room : length (encode (lease_granted a.id cookie a.until)) ≤ length a.reply.now = omega (arith, lease-length a.id cookie a.until c.requires.1, c.requires.0) in
    let wrote = c.svsc_write_lease_granted.ensures in
    lease-told cs ls [] a.reply.now relay 0 0 a.id a.until _ cookie _ _
    (sent-length (lease_granted a.id cookie a.until) a.reply.now _ _ wrote ranges room _ c.unwrap-sent.ensures)
    (sent-buffer (lease_granted a.id cookie a.until) a.reply.now _ _ wrote ranges room)
    c.replied.ensures
