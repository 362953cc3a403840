-- `record_at`: field by field.
use Rattle.journal_records.proofs.Items.{fields}
use Rattle.journal_records.proofs.record_at.Goals as goal

pub returns : goal.returns
returns c =
    fields _ _ c.requires _ c.number.ensures.value c.byte.ensures c.byte-2.ensures c.byte-3.ensures c.byte-4.ensures c.number-2.ensures.value
