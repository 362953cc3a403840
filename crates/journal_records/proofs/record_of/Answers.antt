-- `record_of`: nothing on 1 to 3, else field by field.
use native.Mathlib.Omega.{arith}
use mathlib.Core.Path.{sym, ap, ◌∙◌}
use Rattle.octets.specs.Octets.{big_endian}
use Rattle.journal.specs.Records.{record_with, answer_record}
use Rattle.journal_records.proofs.Written.{assembled}
use Rattle.journal_records.proofs.record_of.Goals as goal

pub returns-then-is_unrecorded : goal.returns-then-is_unrecorded
unfolding answer_record
returns-then-is_unrecorded c = rw (sym c.is_unrecorded.ensures ∙ c.if-is_unrecorded.true)

pub returns : goal.returns
unfolding answer_record record_with
returns c =
    rw (sym c.is_unrecorded.ensures ∙ c.if-is_unrecorded.false, ← c.number-called.ensures)
    (assembled _ _ _ c.bytes-t.ensures (c.bytes-p.ensures ∙ ap (big_endian 8) c.charge.ensures) (omega arith) (omega arith))
