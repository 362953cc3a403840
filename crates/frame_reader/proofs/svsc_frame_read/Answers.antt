-- `svsc_frame_read`: too short, no valid state, a header that is refused or isn't whole, or the message.
use native.Mathlib.Omega.{arith}
use Rattle.std.proofs.Common.{Fits, w8}
use Prim.Native.Nat.{ℕ, ◌≤◌, ◌<◌}
use mathlib.Core.Path.{◌≡◌, sym, ◌∙◌}
use mathlib.Core.List.{List}
use mathlib.Core.Bool.{true, false}
use lib.ListN.{length, get_or}
use borrow.Author.Tests.{not-true, not-false}
use Rattle.octets.proofs.Tests.{bytes-known}
use Rattle.framing.specs.Frames.{message_limit}
use Rattle.framing.specs.Reading.{state, is_valid}
use Rattle.framing.proofs.Steps.{step-short}
use Rattle.framing.proofs.Reading.{step-invalid}
use Rattle.frame_reader.proofs.Steps.{valid_size, Ready, header_refused, header_partly, body_ahead, header_entire}
use Rattle.frame_reader.proofs.svsc_frame_read.Goals as goal

-- what is known behind the two tests
ready : {taken size : ℕ} {message chunk : List ℕ} → message_limit ≤ length message → is_valid (state taken size) ≡ true → ((i : ℕ) → Fits w8 (get_or chunk i 0))
    → Ready taken size message chunk
ready {taken} {size} {message} {chunk} room valid bytes =
    record { room = room; valid = valid; are_bytes_lem = bytes-known chunk (λ i l. omega (arith, bytes i)) }

pub returns-then-is_short : goal.returns-then-is_short
returns-then-is_short c =
    let a = c.args in
    rw c.answer.ensures (sym (step-short (state a.taken a.size) a.message.now a.chunk.now (omega (arith, c.if-is_short.true))))

pub returns-then-not-is_valid : goal.returns-then-not-is_valid
returns-then-not-is_valid c =
    let a = c.args in
    let invalid : is_valid (state a.taken a.size) ≡ false = sym c.is_valid.ensures ∙ not-true _ c.if-not-is_valid.true-raw in
    rw c.answer-then-not-is_valid.ensures (sym (step-invalid (state a.taken a.size) a.message.now a.chunk.now (omega (arith, c.if-is_short.false)) invalid))

pub read_header-requires : goal.read_header-requires
read_header-requires c =
    let a = c.args in
    valid_size a.taken a.size (sym c.is_valid.ensures ∙ not-false _ c.if-not-is_valid.false-raw)

pub returns-in-Err : goal.returns-in-Err
returns-in-Err c =
    let k = ready (omega (arith, c.if-is_short.false)) (sym c.is_valid.ensures ∙ not-false _ c.if-not-is_valid.false-raw) c.type_inv.chunk in
    rw c.answer-in-Err.ensures (header_refused k c.in-Err.bad c.in-Err.ensures)

pub returns-in-Ok : goal.returns-in-Ok
returns-in-Ok c =
    let partly : c.in-Ok.header.state.taken < 3 = omega (arith, c.if-header.true) in
    let k = ready (omega (arith, c.if-is_short.false)) (sym c.is_valid.ensures ∙ not-false _ c.if-not-is_valid.false-raw) c.type_inv.chunk in
    rw c.answer-in-Ok.ensures (header_partly k c.in-Ok.header c.in-Ok.ensures partly)

pub read_body-requires : goal.read_body-requires
read_body-requires c =
    let all : 3 ≤ c.in-Ok.header.state.taken = omega (arith, c.if-header.false) in
    let k = ready (omega (arith, c.if-is_short.false)) (sym c.is_valid.ensures ∙ not-false _ c.if-not-is_valid.false-raw) c.type_inv.chunk in
    body_ahead k c.in-Ok.header c.in-Ok.ensures all

pub returns-in-Ok-2 : goal.returns-in-Ok-2
returns-in-Ok-2 c =
    let all : 3 ≤ c.in-Ok.header.state.taken = omega (arith, c.if-header.false) in
    let k = ready (omega (arith, c.if-is_short.false)) (sym c.is_valid.ensures ∙ not-false _ c.if-not-is_valid.false-raw) c.type_inv.chunk in
    c.read_body.ensures ∙ header_entire k c.in-Ok.header c.in-Ok.ensures all
