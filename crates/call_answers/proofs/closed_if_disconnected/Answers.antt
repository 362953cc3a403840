-- `closed_if_disconnected`: by what the answer says.
use borrow.Author.Tests.{eq-eqb, ne_eqb}
use Rattle.call_answers.proofs.closed_if_disconnected.Goals as goal

pub returns-then-answer-eq1 : goal.returns-then-answer-eq1
returns-then-answer-eq1 c = rw (c.closed.ensures, eq-eqb _ 1 c.if-answer-eq1.true)

pub returns : goal.returns
returns c = rw (c.answered.ensures, ne_eqb _ 1 c.if-answer-eq1.false)
