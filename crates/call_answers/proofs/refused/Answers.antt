-- `refused`: nothing sent, and the map as it was.
use Rattle.call_answers.proofs.refused.Goals as goal

pub returns : goal.returns
returns c = rw (c.answered.ensures, c.sent_nothing.ensures)
