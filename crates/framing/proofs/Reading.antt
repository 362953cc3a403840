-- Reading in chunks: whatever the cuts, the messages and the end are those of the whole stream. Assumes nothing.
use Rattle.std.specs.Prelude.{if◌then◌else◌}
use Prim.Native.Nat.{ℕ, zero, suc, ◌+◌, ◌-◌, ◌/◌, ◌%◌, ◌^◌, ◌≤◌, ◌<◌}
use mathlib.Core.Path.{◌≡◌, refl, sym, ap, ap₂, subst, ◌∙◌}
use mathlib.Core.Logic.{◌≢◌, ◌⊎◌, ◌↔◌, inl, inr, ⊎_elim}
use mathlib.Core.Bool.{Bool, true, false, true≢false, ◌&&◌}
use mathlib.Core.List.{List, [], ◌∷◌, ◌++◌, append_assoc, append-nil, flatten}
use native.Mathlib.Omega.{arith}
use native.Mathlib.Nat.{add-zero}
use lib.Dec.{eqb}
use lib.Pow.{are_bytes}
use lib.ListN.{length, take, drop, replicate, length-append, length-drop, length-replicate}
use lib.Seq.{drop-append-le, drop-append-add, drop-append_seam, take-append_seam}
use borrow.Author.Tests.{le-ltb, lt-ltb, eq-eqb, ne_eqb}
use Rattle.octets.specs.Octets.{byte_at, big_endian, part, put}
use Rattle.octets.proofs.Tests.{bytes_drop, bytes-part}
use Rattle.octets.proofs.Stores.{length-put, part-put}
use Rattle.framing.specs.Frames.{message_limit, frame_length, frame_type, Start, begun, refused, whole, start_of}
use Rattle.framing.specs.Streams.{within, refused_after, Parsed, after, parse_from, parse}
use Rattle.framing.specs.Reading.{State, state, fresh, refusal, is_valid, state_after, held, Step, advance, refusing, step, Reader, starting, stepped, offer, read_chunks, end_of, result}
use Rattle.framing.specs.ReadingClaims.{LedTo}
use Rattle.framing.proofs.Starts.{never, settled, more_refused, more_whole, whole_by}
use Rattle.framing.proofs.States.{Valid, at_start, after_one, after_two, valid_taken, valid_only, held-begins, Kept, begun_kept}
use Rattle.framing.proofs.Streams.{parse-begun, parse-refused, parse-whole, first_byte, second_byte}

-- ---- a step

module _ (s : State) (buffer chunk : List ℕ) (room : message_limit ≤ length buffer) where
  pub step_valid : is_valid s ≡ true
      → step s buffer chunk ≡ advance s.taken buffer (held s buffer ++ chunk) (start_of (held s buffer ++ chunk))
  unfolding step
  step_valid v = rw (le-ltb (length buffer) message_limit room, v)

  pub step-invalid : is_valid s ≡ false → step s buffer chunk ≡ refusing buffer
  unfolding step
  step-invalid v = rw (le-ltb (length buffer) message_limit room, v)

-- the length's two bytes, with what was taken before
pub header-bytes : {taken size : ℕ} → Valid taken size → (buffer chunk : List ℕ) → are_bytes chunk ≡ true
    → (byte_at (held (state taken size) buffer ++ chunk) 0 < 256) × (byte_at (held (state taken size) buffer ++ chunk) 1 < 256)
unfolding held big_endian
header-bytes at_start buffer chunk b = (first_byte chunk b, second_byte chunk b)
header-bytes (after_one high h) buffer chunk b = (omega arith, first_byte chunk b)
header-bytes (after_two more size p l m) buffer chunk b = (omega arith, omega arith)

-- what a step does of the bytes there, b, with those that were taken before
pub record Taking (taken : ℕ) (buffer b : List ℕ) : Type 0 where
  pub from_begin : taken ≤ length b
  pub begun_kept : start_of b ≡ begun → Kept b buffer
  pub refused_later : (k : ℕ) → start_of b ≡ refused k → taken < k
  pub whole_later : (m : List ℕ) → start_of b ≡ whole m → (taken < frame_length m) × (frame_length m ≤ length b) × (length m ≤ message_limit)

pub taking : {taken size : ℕ} → Valid taken size → (buffer chunk : List ℕ) → message_limit ≤ length buffer → are_bytes chunk ≡ true
    → Taking taken buffer (held (state taken size) buffer ++ chunk)
taking {taken} {size} v buffer chunk room b =
    let h = held (state taken size) buffer in
    let has = held-begins v buffer room in
    let bytes = header-bytes v buffer chunk b in
    let count = has.count in
    record {
      from_begin = omega (arith, length-append h chunk);
      begun_kept = begun_kept (h ++ chunk) buffer room bytes.0 bytes.1;
      refused_later = λ k e. omega (arith, more_refused chunk h k has.begins e);
      whole_later = λ m e.
          let w = whole_by (h ++ chunk) m e in
          (omega (arith, more_whole chunk h m has.begins e), w.there, omega (arith, w.counted));
    }

-- ---- what a reader is going to give

-- the messages that it has, and those of what it is at and what is to come
abbrev on_top : List (List ℕ) → Parsed → Parsed
on_top ms p = record { messages = ms ++ p.messages; end = p.end }

-- within a stream, at a frame that begins at `start`
record Within (r : Reader) (d : List ℕ) (p : Parsed) : Type 0 where
  pub start : ℕ
  pub valid : Valid r.state.taken r.state.size
  pub place : r.at ≡ start + r.state.taken
  pub parsed : p ≡ on_top r.messages (parse_from start (held r.state r.buffer ++ d))

-- or refused
record Stopped (r : Reader) (p : Parsed) : Type 0 where
  pub state_is : r.state ≡ refusal
  pub parsed : p ≡ record { messages = r.messages; end = refused_after r.at }

-- with d to come, the reader gives p in all
abbrev Gives : Reader → List ℕ → Parsed → Type 0
Gives r d p = Within r d p ⊎ Stopped r p

-- at the end of the stream that is what it has
not-refused : {taken size : ℕ} → Valid taken size → eqb taken 0 && eqb size 1 ≡ false
not-refused at_start = refl
not-refused (after_one high h) = refl
not-refused (after_two more size p l m) = rw (ne_eqb (suc (suc more)) 0 (λ z. absurd (omega arith)))

gives-result : (r : Reader) (p : Parsed) → message_limit ≤ length r.buffer → Gives r [] p → result r ≡ p
unfolding end_of
gives-result r p room = ⊎_elim at-frame stopped
  where
    at-frame : Within r [] p → result r ≡ p
    at-frame w =
        let has = held-begins w.valid r.buffer room in
        let h = held r.state r.buffer in
        rw (w.parsed, append-nil h, parse-begun w.start h has.begins, append-nil r.messages, has.count, not-refused w.valid)

    stopped : Stopped r p → result r ≡ p
    stopped s = rw s.state_is (sym s.parsed)

-- and it is fresh if that ends with a whole frame
valid_start : {taken size : ℕ} → Valid taken size → taken ≡ 0 → size ≡ 0
valid_start at_start e = refl
valid_start (after_one high h) e = absurd (omega arith)
valid_start (after_two more size p l m) e = absurd (omega arith)

fresh-end : (r : Reader) (p : Parsed) → Gives r [] p → end_of r ≡ within 0 → r.state ≡ fresh
unfolding end_of
fresh-end r p g e = ⊎_elim at-frame stopped g
  where
    at-frame : Within r [] p → r.state ≡ fresh
    at-frame w =
        let ends : within r.state.taken ≡ within 0 = rw (not-refused w.valid) at e in
        let none : r.state.taken ≡ 0 = cc in
        ap₂ state none (valid_start w.valid none)

    stopped : Stopped r p → r.state ≡ fresh
    stopped z = let ends : refused_after r.at ≡ within 0 = rw z.state_is at e in never (cc)

-- one step: it has taken the chunk, or gives a message
record Stepped (r : Reader) (chunk d : List ℕ) (p : Parsed) (s : Step) : Type 0 where
  pub room : length s.buffer ≡ length r.buffer
  pub goes_on :
      ((s.complete ≡ 0) × Gives (stepped r s) d p)
      ⊎ ((s.complete ≡ 1) × (0 < s.used) × (s.used ≤ length chunk) × Gives (stepped r s) (drop s.used chunk ++ d) p)

-- what is left of a chunk
pub drop-behind : (h chunk : List ℕ) (taken n : ℕ) → length h ≡ taken → taken ≤ n → drop n (h ++ chunk) ≡ drop (n - taken) chunk
drop-behind h chunk taken n e l =
    let sum : n ≡ length h + (n - taken) = omega arith in
    ap (λ (k : ℕ). drop k (h ++ chunk)) sum ∙ drop-append-add h chunk (n - taken)

module _ (r : Reader) (chunk d : List ℕ) (p : Parsed) (room : message_limit ≤ length r.buffer) (b : are_bytes chunk ≡ true)
    (w : Within r (chunk ++ d) p) where
  abbrev bytes : List ℕ
  bytes = held r.state r.buffer ++ chunk

  abbrev taken : ℕ
  taken = r.state.taken

  t : Taking taken r.buffer bytes
  t = taking w.valid r.buffer chunk room b

  -- what is parsed begins with the bytes that are there
  with_chunk : p ≡ on_top r.messages (parse_from w.start (bytes ++ d))
  with_chunk = w.parsed ∙ ap (λ (l : List ℕ). on_top r.messages (parse_from w.start l)) (sym (append_assoc (held r.state r.buffer) chunk d))

  -- and what they settle stays
  stays_refused : (k : ℕ) → start_of bytes ≡ refused k → start_of (bytes ++ d) ≡ refused k
  stays_refused k e = ⊎_elim (λ z. never (cc)) (λ same. same ∙ e) (settled bytes d)

  stays-whole : (m : List ℕ) → start_of bytes ≡ whole m → start_of (bytes ++ d) ≡ whole m
  stays-whole m e = ⊎_elim (λ z. never (cc)) (λ same. same ∙ e) (settled bytes d)

  step-begun : start_of bytes ≡ begun → Stepped r chunk d p (advance taken r.buffer bytes begun)
  step-begun e =
      let k = t.begun_kept e in
      let after = put r.buffer 0 (drop 3 bytes) in
      let same-room : length after ≡ length r.buffer = length-put _ 0 _ in
      let count : length bytes ≡ (state_after bytes).taken = rw k.same at (held-begins k.valid after (omega arith)).count in
      record {
        room = same-room;
        goes_on =
            inl (
              refl,
              inl (record {
                start = w.start;
                valid = k.valid;
                place = omega (arith, w.place, t.from_begin, count);
                parsed = with_chunk ∙ rw k.same;
              }),
            );
      }

  step-refused : (k : ℕ) → start_of bytes ≡ refused k → Stepped r chunk d p (advance taken r.buffer bytes (refused k))
  step-refused k e =
      let place : w.start + k ≡ r.at + (k - taken) = omega (arith, w.place, t.refused_later k e) in
      record {
        room = refl;
        goes_on =
            inl (
              refl,
              inr (record {
                state_is = refl;
                parsed =
                    with_chunk
                    ∙ rw (parse-refused w.start (bytes ++ d) k (stays_refused k e), append-nil r.messages, place);
              }),
            );
      }

  step-whole : (m : List ℕ) → start_of bytes ≡ whole m → Stepped r chunk d p (advance taken r.buffer bytes (whole m))
  unfolding held part after
  step-whole m e =
      let l = t.whole_later m e in
      let h = held r.state r.buffer in
      let count : length h ≡ taken = (held-begins w.valid r.buffer room).count in
      let there : length bytes ≡ length h + length chunk = length-append h chunk in
      let behind : drop (frame_length m) (bytes ++ d) ≡ drop (frame_length m - taken) chunk ++ d =
      drop-append-le (frame_length m) bytes d l.1
      ∙ ap (λ (x : List ℕ). x ++ d) (drop-behind h chunk taken (frame_length m) count (omega (arith, l.0))) in
      let stored : take (length m) (put r.buffer 0 m) ≡ m = part-put r.buffer 0 m (omega (arith, l.2)) in
      record {
        room = length-put _ 0 m;
        goes_on =
            inr (
              refl,
              omega arith,
              omega arith,
              inl (record {
                start = w.start + frame_length m;
                valid = at_start;
                place = omega (arith, w.place, l);
                parsed =
                    with_chunk
                    ∙ rw (parse-whole w.start (bytes ++ d) m (stays-whole m e), behind, stored, append_assoc r.messages (m ∷ []));
              }),
            );
      }

  step-within : Stepped r chunk d p (step r.state r.buffer chunk)
  step-within = rw (step_valid r.state r.buffer chunk room (valid_taken w.valid)) (go (start_of bytes) refl)
    where
      go : (s : Start) → start_of bytes ≡ s → Stepped r chunk d p (advance taken r.buffer bytes s)
      go begun e = step-begun e
      go (refused k) e = step-refused k e
      go (whole m) e = step-whole m e

-- a refused one stays as it is
refusal-invalid : is_valid refusal ≡ false
unfolding is_valid
refusal-invalid = refl

stopped_step : (r : Reader) (chunk : List ℕ) → message_limit ≤ length r.buffer → r.state ≡ refusal → step r.state r.buffer chunk ≡ refusing r.buffer
stopped_step r chunk room e = step-invalid r.state r.buffer chunk room (rw e refusal-invalid)

one-step : (r : Reader) (chunk d : List ℕ) (p : Parsed) → message_limit ≤ length r.buffer → are_bytes chunk ≡ true → Gives r (chunk ++ d) p
    → Stepped r chunk d p (step r.state r.buffer chunk)
one-step r chunk d p room b =
    ⊎_elim
    (λ w. step-within r chunk d p room b w)
    (λ s. rw (stopped_step r chunk room s.state_is)
    (record { room = refl; goes_on = inl (refl, inr (record { state_is = refl; parsed = rw (add-zero r.at) s.parsed })) }))

-- ---- all steps

-- what a reader keeps: room for a message, and what it is going to give
record Going (r : Reader) (d : List ℕ) (p : Parsed) : Type 0 where
  pub room : message_limit ≤ length r.buffer
  pub gives : Gives r d p

-- a chunk to its end
if_true : {A : Type 0} (t : Bool) (x y : A) → t ≡ true → (if t then x else y) ≡ x
if_true t x y e = rw e

if_false : {A : Type 0} (t : Bool) (x y : A) → t ≡ false → (if t then x else y) ≡ y
if_false t x y e = rw e

module _ (r : Reader) (chunk : List ℕ) where
  abbrev made : Step
  made = step r.state r.buffer chunk

  offer-done : (n : ℕ) → made.complete ≡ 0 → offer n r chunk ≡ stepped r made
  unfolding offer
  offer-done zero e = refl
  offer-done (suc n) e = if_true (eqb made.complete 0) _ _ (eq-eqb _ _ e)

  offer_more : (n : ℕ) → made.complete ≡ 1 → offer (suc n) r chunk ≡ offer n (stepped r made) (drop made.used chunk)
  unfolding offer
  offer_more n e = if_false (eqb made.complete 0) _ _ (ne_eqb made.complete 0 (λ z. absurd (omega arith)))

offered : (n : ℕ) (r : Reader) (chunk d : List ℕ) (p : Parsed) → are_bytes chunk ≡ true → length chunk ≤ n → Going r (chunk ++ d) p → Going (offer n r chunk) d p
offered zero r chunk d p b l g =
    let s = one-step r chunk d p g.room b g.gives in
    ⊎_elim
    (λ k. subst (λ (x : Reader). Going x d p) (sym (offer-done r chunk zero k.0)) (record { room = omega (arith, s.room, g.room); gives = k.1 }))
    (λ w. absurd (omega arith))
    s.goes_on
offered (suc n) r chunk d p b l g =
    let s = one-step r chunk d p g.room b g.gives in
    let u = (made r chunk).used in
    ⊎_elim
    (λ k. subst (λ (x : Reader). Going x d p) (sym (offer-done r chunk (suc n) k.0)) (record { room = omega (arith, s.room, g.room); gives = k.1 }))
    (λ w. subst (λ (x : Reader). Going x d p) (sym (offer_more r chunk n w.0))
    (offered n (stepped r (made r chunk)) (drop u chunk) d p (bytes_drop u chunk b) (omega (arith, length-drop u chunk))
    (record { room = omega (arith, s.room, g.room); gives = w.3 })))
    s.goes_on

-- chunks of a byte string
bytes_left : (a b : List ℕ) → are_bytes (a ++ b) ≡ true → are_bytes a ≡ true
unfolding part
bytes_left a b h = rw (take-append_seam a b) at (bytes-part (a ++ b) 0 (length a) h)

bytes_right : (a b : List ℕ) → are_bytes (a ++ b) ≡ true → are_bytes b ≡ true
bytes_right a b h = rw (drop-append_seam a b) at (bytes_drop (length a) (a ++ b) h)

all_chunks : (r : Reader) (chunks : List (List ℕ)) (p : Parsed) → are_bytes (flatten chunks) ≡ true → Going r (flatten chunks) p → Going (read_chunks r chunks) [] p
unfolding read_chunks flatten
all_chunks r [] p b g = g
all_chunks r (chunk ∷ chunks) p b g =
    all_chunks (offer (length chunk) r chunk) chunks p (bytes_right chunk (flatten chunks) b)
    (offered (length chunk) r chunk (flatten chunks) p (bytes_left chunk (flatten chunks) b) (omega arith) g)

-- a reader at the start gives what the whole stream gives
module _ (buffer : List ℕ) (chunks : List (List ℕ)) (room : message_limit ≤ length buffer) (b : are_bytes (flatten chunks) ≡ true) where
  at_end : Going (read_chunks (starting buffer) chunks) [] (parse (flatten chunks))
  unfolding held parse
  at_end =
      all_chunks (starting buffer) chunks (parse (flatten chunks)) b
      (record { room = room; gives = inl (record { start = 0; valid = at_start; place = refl; parsed = refl }) })

  pub chunks_read : result (read_chunks (starting buffer) chunks) ≡ parse (flatten chunks)
  chunks_read = gives-result _ _ at_end.room at_end.gives

  -- and its state is valid, or the refusal
  state_valid : (s : State) → s ≢ refusal → (read_chunks (starting buffer) chunks).state ≡ s → is_valid s ≡ true
  state_valid s n e = ⊎_elim (λ w. rw e at (valid_taken w.valid)) (λ z. absurd (n (sym e ∙ z.state_is))) at_end.gives

  -- fresh exactly after whole frames
  pub fresh_exactly : ((parse (flatten chunks)).end ≡ within 0) ↔ ((read_chunks (starting buffer) chunks).state ≡ fresh)
  unfolding end_of
  fresh_exactly =
      let same = ap (λ (p : Parsed). p.end) chunks_read in
      ((λ e. fresh-end (read_chunks (starting buffer) chunks) _ at_end.gives (same ∙ e)), (λ e. sym same ∙ rw e))

-- ---- which states some bytes lead to

bytes-replicate : (n : ℕ) → are_bytes (replicate n 0) ≡ true
bytes-replicate zero = refl
bytes-replicate (suc n) = bytes-replicate n

-- with zeros for what the buffer has
zeros : List ℕ
zeros = replicate message_limit 0

zeros-bytes : are_bytes zeros ≡ true
unfolding zeros
zeros-bytes = bytes-replicate message_limit

zeros-length : length zeros ≡ message_limit
unfolding zeros
zeros-length = length-replicate {A = ℕ} message_limit 0

held_bytes : (s : State) → are_bytes (held s zeros) ≡ true
unfolding held big_endian part
held_bytes s =
    let high : s.size / 256 ^ 1 % 256 < 256 = omega arith in
    let low : s.size / 256 ^ 0 % 256 < 256 = omega arith in
    bytes-part (big_endian 2 s.size ++ (frame_type ∷ zeros)) 0 s.taken (rw (lt-ltb _ 256 high, lt-ltb _ 256 low) zeros-bytes)

leads : (buffer : List ℕ) (s : State) → message_limit ≤ length buffer → is_valid s ≡ true → LedTo buffer s
unfolding read_chunks held is_valid
leads buffer s room v =
    let bytes = held s zeros in
    let has = held-begins (valid_only s.taken s.size v) zeros (omega (arith, zeros-length)) in
    let step_is : step fresh buffer bytes ≡ advance 0 buffer bytes begun = step_valid fresh buffer bytes room refl ∙ ap (advance 0 buffer bytes) has.begins in
    let offered-is = offer-done (starting buffer) bytes (length bytes) (ap (λ (x : Step). x.complete) step_is) in
    record {
      bytes = bytes;
      are_bytes_lem = held_bytes s;
      leads = ap (λ (x : Reader). x.state) offered-is ∙ ap (λ (x : Step). x.state) step_is ∙ has.back;
    }

pub valid_exactly : (buffer : List ℕ) (s : State) → message_limit ≤ length buffer → (is_valid s ≡ true) ↔ ((s ≢ refusal) × LedTo buffer s)
unfolding flatten
valid_exactly buffer s room = (
  λ v. ((λ e. true≢false (sym v ∙ rw e refusal-invalid)), leads buffer s room v),
  λ l. state_valid buffer (l.1.bytes ∷ []) room (rw (append-nil l.1.bytes) l.1.are_bytes_lem) s l.0 l.1.leads,
)

-- ---- refused for good

same_reader : (r : Reader) → r.state ≡ refusal → stepped r (refusing r.buffer) ≡ r
same_reader r e = rw (add-zero r.at, ← e)

refused-offer : (n : ℕ) (r : Reader) (chunk : List ℕ) → message_limit ≤ length r.buffer → r.state ≡ refusal → offer n r chunk ≡ r
refused-offer n r chunk room e =
    let same = stopped_step r chunk room e in
    offer-done r chunk n (ap (λ (s : Step). s.complete) same) ∙ rw same (same_reader r e)

pub refused_for_good : (r : Reader) (chunks : List (List ℕ)) → message_limit ≤ length r.buffer → r.state ≡ refusal → read_chunks r chunks ≡ r
unfolding read_chunks
refused_for_good r [] room e = refl
refused_for_good r (chunk ∷ chunks) room e = rw (refused-offer (length chunk) r chunk room e) (refused_for_good r chunks room e)
