-- The ways out of a step, over plain values. Assumes nothing.
use Prim.Native.Nat.{ℕ, suc, ◌+◌, ◌-◌, ◌≤◌, ◌<◌}
use mathlib.Core.Path.{◌≡◌, sym, ◌∙◌}
use mathlib.Core.Logic.{⊎_elim}
use mathlib.Core.Bool.{true}
use mathlib.Core.List.{List, [], ◌++◌, append-nil}
use native.Mathlib.Omega.{arith}
use lib.Pow.{are_bytes}
use lib.ListN.{length, drop, drop_of_length-le}
use Rattle.octets.proofs.Stores.{put-none}
use Rattle.framing.specs.Frames.{message_limit, refused, start_of}
use Rattle.framing.specs.Reading.{state, refusal, is_valid, held, step}
use Rattle.framing.proofs.States.{Valid, at_start, after_one, after_two, valid_only, held-begins}
use Rattle.framing.proofs.Reading.{step_valid}
use Rattle.std.specs.Prelude.{Ok, Err}
use Rattle.frame_headers.specs.declared.Header.{Header}
use Rattle.frame_headers.specs.declared.BadHeader.{BadHeader}
use Rattle.frame_headers.specs.Headers.{Read, read_header}
use Rattle.frame_reader.specs.Bodies.{BodyAhead, read_body}
use Rattle.frame_headers.proofs.Reached.{Reached, ReadOrRefused, header_read}
use Rattle.frame_reader.proofs.Bodies.{body_is}

pub valid_size : (taken size : ℕ) → is_valid (state taken size) ≡ true → size < 65536
valid_size taken size v = go (valid_only taken size v)
  where
    go : {taken size : ℕ} → Valid taken size → size < 65536
    go at_start = omega arith
    go (after_one high h) = omega arith
    go (after_two more size p l m) = l

-- what is known once the header was read
pub record Ready (taken size : ℕ) (buffer chunk : List ℕ) : Type 0 where
  pub room : message_limit ≤ length buffer
  pub valid : is_valid (state taken size) ≡ true
  pub are_bytes_lem : are_bytes chunk ≡ true

module _ {taken size : ℕ} {buffer chunk : List ℕ} (k : Ready taken size buffer chunk) where
  abbrev bytes : List ℕ
  bytes = held (state taken size) buffer ++ chunk

  read_or-refused : (r : Read) → r ≡ read_header taken size chunk → ReadOrRefused buffer taken size chunk r
  read_or-refused r e = rw e (header_read buffer (valid_only taken size k.valid) chunk k.are_bytes_lem)

  pub header_refused : (bad : BadHeader) → Err bad ≡ read_header taken size chunk
      → record { number = 6; complete = 0; used = bad.used; length = 0; state = refusal; buffer = buffer } ≡ step (state taken size) buffer chunk
  header_refused bad e =
      let start : start_of bytes ≡ refused (taken + bad.used) = read_or-refused (Err bad) e in
      let used : taken + bad.used - taken ≡ bad.used = omega arith in
      sym (step_valid (state taken size) buffer chunk k.room k.valid ∙ rw (start, used))

  module _ (h : Header) (e : Ok h ≡ read_header taken size chunk) where
    is_read : Reached buffer taken size chunk h
    is_read = read_or-refused (Ok h) e

    pub header_partly : h.state.taken < 3
        → record { number = 0; complete = 0; used = h.used; length = 0; state = state h.state.taken h.state.size; buffer = buffer } ≡ step (state taken size) buffer chunk
    header_partly l = ⊎_elim (λ t. go t.1 t.2) (λ t. absurd (omega (arith, t.0))) is_read.so_far
      where
        go : h.used ≡ length chunk → Valid h.state.taken h.state.size
            → record { number = 0; complete = 0; used = h.used; length = 0; state = state h.state.taken h.state.size; buffer = buffer } ≡ step (state taken size) buffer chunk
        go all w =
            let so_far = held (state h.state.taken h.state.size) buffer in
            let has = held-begins w buffer k.room in
            let none : drop h.used chunk ≡ [] = drop_of_length-le chunk {i = h.used} (omega arith) in
            let is : bytes ≡ so_far = sym is_read.same ∙ rw (none, append-nil) in
            let used : h.state.taken - taken ≡ h.used = omega (arith, is_read.count) in
            let unwritten : drop 3 so_far ≡ [] = drop_of_length-le so_far {i = 3} (omega (arith, has.count)) in
            sym
            (step_valid (state taken size) buffer chunk k.room k.valid
            ∙ rw (is, has.begins, has.back, has.count, used, unwritten, put-none))

    pub body_ahead : 3 ≤ h.state.taken → BodyAhead h.state.taken h.state.size h.used buffer chunk
    body_ahead l =
        ⊎_elim
        (λ t. absurd (omega (arith, t.0)))
        (λ t. record { header = l; frame = t.1; limit = t.2; place = is_read.place; room = k.room })
        is_read.so_far

    pub header_entire : 3 ≤ h.state.taken → read_body h.state.taken h.state.size h.used buffer chunk ≡ step (state taken size) buffer chunk
    header_entire l =
        let a = body_ahead l in
        let n = h.state.taken - 3 in
        let three : h.state.taken ≡ suc (suc (suc n)) = omega arith in
        let same : held (state (suc (suc (suc n))) h.state.size) buffer ++ drop h.used chunk ≡ bytes = rw three at is_read.same in
        let place : taken + h.used ≡ 3 + n = omega (arith, is_read.count) in
        rw three (body_is n h.state.size h.used taken buffer chunk place (omega (arith, a.frame)) a.limit a.place k.room ∙ rw same)
        ∙ sym (step_valid (state taken size) buffer chunk k.room k.valid)
