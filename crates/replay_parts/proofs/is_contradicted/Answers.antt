-- `is_contradicted`: by its connection, or by its partner's level.
use Rattle.replay_parts.proofs.Judging.{unknown_connection_lem, judged}
use Rattle.replay_parts.proofs.is_contradicted.Goals as goal

pub returns-then-made : goal.returns-then-made
returns-then-made g c = unknown_connection_lem g.L.Ledger.ledger _ _ c.if-made.true

pub returns : goal.returns
returns g c = judged g.L.Ledger.ledger _ _ _ _ _ (rw c.partner-partner.ensures at c.level-level.ensures) c.clock.ensures c.contradicts.ensures
