-- `contradicts`: line by line.
use Rattle.journal.specs.Contradictions.{contradicts}
use Rattle.replay_parts.proofs.contradicts.Goals as goal

pub returns : goal.returns
unfolding contradicts
returns c = rw (c.is_out_of_range-range.ensures, c.is_out_of_time-time.ensures, c.is_wrongly_charged-charged.ensures)
