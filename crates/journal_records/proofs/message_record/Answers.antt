-- `message_record`: by its first byte.
use Rattle.journal_records.proofs.message_record.Goals as goal

pub returns : goal.returns
returns c = rw (← c.byte.ensures) c.record_of.ensures
