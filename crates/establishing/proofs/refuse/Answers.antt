-- `refuse`: the status, written.
use native.Mathlib.Omega.{arith}
use Rattle.svsc.specs.Messages.{establish_refused}
use Rattle.answers.proofs.Writes.{sent_ok, sent-length, sent-buffer, written-short}
use Rattle.establishing.proofs.Ways.{status_ranges, status_length, session_refused}
use Rattle.establishing.proofs.refuse.Goals as goal

pub unwrap-sent-requires : goal.unwrap-sent-requires
unwrap-sent-requires c =
    let a = c.args in
    sent_ok (establish_refused a.id a.status) a.reply.now _ _ c.svsc_write_establish_refused.ensures
    (status_ranges a.id a.status c.ranges.id.fits c.requires.0 c.requires.1) (omega (arith, c.requires.2, status_length a.id a.status))

pub overflow_cast-sent : goal.overflow_cast-sent
overflow_cast-sent c = omega (arith, written-short _ _ _ _ c.svsc_write_establish_refused.ensures _ c.unwrap-sent.ensures)

pub returns : goal.returns
returns c cs ls al random relay k =
    let a = c.args in
    let wrote = c.svsc_write_establish_refused.ensures in
    let ranges = status_ranges a.id a.status c.ranges.id.fits c.requires.0 c.requires.1 in
    session_refused cs ls al a.reply.now relay k a.id random a.status _ _ _
    (sent-length (establish_refused a.id a.status) a.reply.now _ _ wrote ranges (omega (arith, c.requires.2, status_length a.id a.status)) _ c.unwrap-sent.ensures)
    (sent-buffer (establish_refused a.id a.status) a.reply.now _ _ wrote ranges (omega (arith, c.requires.2, status_length a.id a.status))) c.replied.ensures
