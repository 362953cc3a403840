-- `extension_bytes`: a row of the partner, or the end of its rows.
use Rattle.decisions.proofs.Ways.{extended_low, extended_past}
use Rattle.decisions.proofs.extension_bytes.Goals as goal

pub returns-then-row-end_row : goal.returns-then-row-end_row
returns-then-row-end_row c =
    let low = extended_low c.args.c c.partner_of.ensures c.end_row.ensures c.if-row-end_row.true in
    rw low

pub returns : goal.returns
returns c =
    let past = extended_past c.args.c c.partner_of.ensures c.end_row.ensures c.if-row-end_row.false in
    rw past
