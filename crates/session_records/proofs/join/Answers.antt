-- `join`: three fields, one behind the other.
use mathlib.Core.Path.{◌∙◌}
use Rattle.session_records.proofs.Records.{joined}
use Rattle.session_records.proofs.join.Goals as goal

pub returns : goal.returns
returns c =
    joined _ _ _ _ _ _ _ _ c.requires (c.write8.ensures ∙ rw c.connection_at-at.ensures) (c.copy.ensures ∙ rw c.connection_at-at.ensures)
    (c.copy-2.ensures ∙ rw c.connection_at-at.ensures)
