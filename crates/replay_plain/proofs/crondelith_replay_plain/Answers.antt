-- `crondelith_replay_plain`: refused, or the table of the levels is written, or all stays.
use Rattle.journal.specs.Plain.{replay_plain}
use Rattle.refusal_numbers.proofs.Numbers.{number-some}
use Rattle.replay_parts.proofs.Refusals.{sized, refused_way}
use Rattle.replay_plain.proofs.crondelith_replay_plain.Goals as goal

pub returns-in-Err : goal.returns-in-Err
unfolding replay_plain
returns-in-Err c = rw (c.refused.ensures, c.number.ensures, ← c.in-Err.ensures) (refused_way _ (number-some _) _ _)

pub store_table-requires : goal.store_table-requires
store_table-requires c = sized _ _ _ c.in_default.ensures

pub returns-in-Ok : goal.returns-in-Ok
unfolding replay_plain
returns-in-Ok c =
    rw (← c.in_default.ensures, ← c.judge.ensures, c.in-Ok.is)
    (rw (c.agreed.ensures, c.store_table.ensures, ← c.ledger.view_is))

pub returns-in-Err-judge : goal.returns-in-Err-judge
unfolding replay_plain
returns-in-Err-judge c = rw (← c.in_default.ensures, ← c.judge.ensures, c.in-Err-judge.is) (rw c.contradicted.ensures)
