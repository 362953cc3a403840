-- `take_record`: left, or settled.
use Rattle.std.proofs.Common.{sym, ◌∙◌}
use Rattle.replay_parts.proofs.Judging.{settleable, not_done, done}
use Rattle.replay_parts.proofs.take_record.Goals as goal

pub settle-requires : goal.settle-requires
settle-requires g c = settleable g.L.Ledger.ledger _ _ (sym c.is_contradicted.ensures ∙ c.if-is_contradicted.false) c.if-done.true

pub returns-then-done : goal.returns-then-done
returns-then-done g c = (rw (← c.is_contradicted.ensures, c.if-is_contradicted.false), c.settle.ensures ∙ done g.L.Ledger.ledger _ _ c.if-done.true)

pub returns-else-done : goal.returns-else-done
returns-else-done g c = (rw (← c.is_contradicted.ensures, c.if-is_contradicted.false), not_done g.L.Ledger.ledger _ _ c.if-done.false)
