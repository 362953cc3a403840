-- `opened`: the answer, and the map with a bit more.
use Rattle.call_answers.proofs.opened.Goals as goal

pub returns : goal.returns
returns c = rw (c.answered.ensures, c.with_bit.ensures)
