-- `closed`: the answer, and the map with a bit less.
use Rattle.call_answers.proofs.closed.Goals as goal

pub returns : goal.returns
returns c = rw (c.answered.ensures, c.without_bit.ensures)
