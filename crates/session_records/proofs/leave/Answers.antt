-- `leave`: two fields.
use mathlib.Core.Path.{◌∙◌}
use Rattle.session_records.proofs.Records.{left}
use Rattle.session_records.proofs.leave.Goals as goal

pub returns : goal.returns
returns c = left _ _ _ _ (c.write8.ensures ∙ rw c.connection_at-at.ensures) (c.fill.ensures ∙ rw c.connection_at-at.ensures)
