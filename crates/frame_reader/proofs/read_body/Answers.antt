-- `read_body`: a part of what is missing, or all of it.
use native.Mathlib.Omega.{arith}
use Rattle.frame_reader.proofs.Bodies.{body_partly, body_entire}
use Rattle.frame_reader.proofs.read_body.Goals as goal

pub returns-then-there-left : goal.returns-then-there-left
returns-then-there-left c =
    let a = c.args in
    rw c.answer.ensures
    (body_partly a.state.taken a.state.size a.used a.message.now a.chunk.now _ (omega (arith, c.if-there-left.true))
    c.copy_at_once.ensures)

pub returns : goal.returns
returns c =
    let a = c.args in
    rw c.answer-2.ensures
    (body_entire a.state.taken a.state.size a.used a.message.now a.chunk.now _ (omega (arith, c.if-there-left.false))
    c.copy_at_once-2.ensures)
