-- `extend`: the end of the row that was found, or refused.
use Prim.Native.Nat.{◌^◌, ◌≤◌, ◌<◌}
use native.Mathlib.Omega.{arith}
use mathlib.Core.Path.{refl, ap}
use lib.ListN.{length}
use Rattle.svsc.specs.Messages.{extension_refused, extension_granted, encode, well_formed}
use Rattle.rules.specs.Tables.{partner_of}
use Rattle.rules.specs.Searches.{end_row}
use Rattle.answers.proofs.Writes.{sent_ok, sent-length, sent-buffer, written-short}
use Rattle.leasing.proofs.Ways.{until-below, extension_ranges, extension-length, extended, not_extended}
use Rattle.leasing.proofs.extend.Goals as goal

pub unwrap-sent-requires : goal.unwrap-sent-requires
unwrap-sent-requires c =
    let a = c.args in
    let until = c.lease_end-until.result in
    let low : until < 2 ^ 64 = rw c.lease_end-until.ensures (until-below a.allowances.now a.time c.requires.timely) in
    sent_ok (extension_granted until) a.reply.now _ _ c.svsc_write_extension_granted.ensures (extension_ranges until low)
    (omega (arith, extension-length until, c.requires.room))

pub overflow_cast-sent : goal.overflow_cast-sent
overflow_cast-sent c = omega (arith, written-short _ _ _ _ c.svsc_write_extension_granted.ensures _ c.unwrap-sent.ensures)

pub returns-then-row-end_row : goal.returns-then-row-end_row
returns-then-row-end_row c cs relay =
    let a = c.args in
    let made = c.lease_end-until in
    let until = made.result in
    let low : until < 2 ^ 64 = rw made.ensures (until-below a.allowances.now a.time c.requires.timely) in
    let room : length (encode (extension_granted until)) ≤ length a.reply.now = omega (arith, extension-length until, c.requires.room) in
    let wrote = c.svsc_write_extension_granted.ensures in
    let below : a.row < end_row (partner_of a.c) = omega (arith, c.if-row-end_row.true, c.end_row.ensures, ap end_row c.partner_of.ensures) in
    extended cs a.leases.now a.allowances.now a.reply.now relay a.time a.c _ until _ _ _ _ below
    made.ensures c.extend.ensures (sent-length (extension_granted until) a.reply.now _ _ wrote (extension_ranges until low) room _ c.unwrap-sent.ensures)
    (sent-buffer (extension_granted until) a.reply.now _ _ wrote (extension_ranges until low) room) c.replied.ensures

pub unwrap-sent-requires-2 : goal.unwrap-sent-requires-2
unfolding well_formed encode
unwrap-sent-requires-2 c = sent_ok extension_refused c.args.reply.now _ _ c.svsc_write_extension_refused.ensures refl (omega (arith, c.requires.room))

pub overflow_cast-sent-2 : goal.overflow_cast-sent-2
overflow_cast-sent-2 c = omega (arith, written-short _ _ _ _ c.svsc_write_extension_refused.ensures _ c.unwrap-sent-2.ensures)

pub returns : goal.returns
unfolding well_formed encode
returns c cs relay =
    let a = c.args in
    let wrote = c.svsc_write_extension_refused.ensures in
    let past : end_row (partner_of a.c) ≤ a.row = omega (arith, c.if-row-end_row.false, c.end_row.ensures, ap end_row c.partner_of.ensures) in
    not_extended cs a.leases.now a.allowances.now a.reply.now relay a.time a.c _ _ _ _ past
    (sent-length extension_refused a.reply.now _ _ wrote refl (omega (arith, c.requires.room)) _ c.unwrap-sent-2.ensures) (sent-buffer extension_refused a.reply.now _ _ wrote refl (omega (arith, c.requires.room))) c.replied-2.ensures
