-- `crondelith_replay`: refused, or the table that agrees is copied, or all stays.
use Rattle.std.proofs.Common.{arith}
use Rattle.journal.specs.Replays.{replay}
use Rattle.refusal_numbers.proofs.Numbers.{number-some}
use Rattle.replay_parts.proofs.Refusals.{sized, refused_way}
use Rattle.replay.proofs.crondelith_replay.Goals as goal

pub returns-in-Err : goal.returns-in-Err
unfolding replay
returns-in-Err c = rw (c.refused.ensures, c.number.ensures, ← c.in-Err.ensures) (refused_way _ (number-some _) _ _)

pub copy_from_slice-requires : goal.copy_from_slice-requires
copy_from_slice-requires c = omega (arith, sized _ _ _ c.in_default.ensures)

pub returns-in-Ok : goal.returns-in-Ok
unfolding replay
returns-in-Ok c =
    rw (← c.in_default.ensures, ← c.fresh_allowances.ensures, ← c.judge.ensures, c.in-Ok.is)
    (rw (c.agreed.ensures, c.copy_from_slice.ensures.after, c.ledger.view_is))

pub returns-in-Err-judge : goal.returns-in-Err-judge
unfolding replay
returns-in-Err-judge c =
    rw (← c.in_default.ensures, ← c.fresh_allowances.ensures, ← c.judge.ensures, c.in-Err-judge.is) (rw c.contradicted.ensures)
