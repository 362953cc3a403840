-- `is_wrongly_charged`: as it is written.
use Rattle.replay_parts.proofs.is_wrongly_charged.Goals as goal

pub returns : goal.returns
returns c = rw (c.is_free-free.ensures, c.is_priced-priced.ensures)
