-- `take`: by what was read.
use mathlib.Core.Path.{refl, ◌∙◌}
use Rattle.replay_parts.proofs.ItemTurns.{turned}
use Rattle.replay_parts.proofs.take.Goals as goal

pub returns-in-Record : goal.returns-in-Record
returns-in-Record g c =
    let e = c.take_record.ensures in
    turned g.L.Ledger.ledger _ _ _ _ _ c.read.ensures c.in-Record.is _ _ e.0 (e.1 ∙ rw e.0)

pub returns-in-Tail : goal.returns-in-Tail
returns-in-Tail g c = turned g.L.Ledger.ledger _ _ _ _ _ c.read.ensures c.in-Tail.is _ _ refl refl

pub returns-in-End : goal.returns-in-End
returns-in-End g c = turned g.L.Ledger.ledger _ _ _ _ _ c.read.ensures c.in-End.is _ _ refl refl
