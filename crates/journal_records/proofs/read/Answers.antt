-- `read`: the end, a tail or a record.
use native.Mathlib.Omega.{arith}
use Rattle.journal_records.proofs.Items.{at_the_end, at_a_tail, at_a_record}
use Rattle.journal_records.proofs.read.Goals as goal

pub returns-then-journal-place : goal.returns-then-journal-place
returns-then-journal-place c = at_the_end _ _ c.if-journal-place.true

pub returns-then-short : goal.returns-then-short
returns-then-short c = at_a_tail _ _ (omega arith) c.if-short.true

pub returns : goal.returns
returns c = at_a_record _ _ (omega arith) (omega arith) _ c.record_at.ensures
