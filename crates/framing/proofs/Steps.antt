-- One step, from any state and with any buffer. Assumes nothing.
use Prim.Native.Nat.{ℕ, ◌+◌, ◌-◌, ◌≤◌, ◌<◌}
use mathlib.Core.Path.{◌≡◌, refl, sym, ap, ◌∙◌}
use mathlib.Core.Logic.{⊎_elim, inl, inr}
use mathlib.Core.Bool.{true, false, true≢false}
use mathlib.Core.List.{List, ◌++◌}
use native.Mathlib.Omega.{arith}
use lib.Pow.{are_bytes}
use lib.ListN.{length, take, drop, length-append, length-drop}
use lib.Seq.{take-append-add, take_at, drop_at}
use borrow.Author.Tests.{lt-ltb}
use Rattle.octets.specs.Octets.{part, put}
use Rattle.octets.proofs.Tests.{by_test, le-or-lt}
use Rattle.octets.proofs.Stores.{length-put, part-put, put_splice}
use Rattle.framing.specs.Frames.{message_limit, frame_of, frame_length, Start, begun, refused, whole, start_of}
use Rattle.framing.specs.Reading.{State, is_valid, state_after, held, advance, refusing, too_short, step}
use Rattle.framing.specs.ReadingClaims.{StepClaims}
use Rattle.framing.proofs.Starts.{never, refused-by, frame-start}
use Rattle.framing.proofs.States.{Valid, at_start, after_one, after_two, valid_taken, valid_only, held-begins}
use Rattle.framing.proofs.Streams.{length-frame}
use Rattle.framing.proofs.Reading.{step_valid, step-invalid, header-bytes, Taking, taking}

-- what a store leaves of the buffer behind it
put_rest : (buffer bytes : List ℕ) (n : ℕ) → length bytes ≡ n → length bytes ≤ length buffer → drop n (put buffer 0 bytes) ≡ drop n buffer
put_rest buffer bytes n e l =
    let count : 0 + length bytes ≡ n = omega arith in
    ap (drop n) (put_splice buffer 0 bytes (omega arith)) ∙ drop_at bytes _ n e ∙ ap (λ (k : ℕ). drop k buffer) count

valid_limit : {taken size : ℕ} → Valid taken size → taken ≤ message_limit + 2
valid_limit at_start = omega arith
valid_limit (after_one high h) = omega arith
valid_limit (after_two more size p l m) = omega arith

module _ (s : State) (buffer chunk : List ℕ) where
  pub step-short : length buffer < message_limit → step s buffer chunk ≡ too_short s buffer
  unfolding step
  step-short l = rw (lt-ltb (length buffer) message_limit l)

  short_claims : length buffer < message_limit → StepClaims s buffer chunk (too_short s buffer)
  short_claims l =
      record {
        numbers = inr (inl refl);
        short_exactly = ((λ e. l), (λ h. refl));
        short = λ e. (refl, refl);
        refused_exactly = ((λ e. absurd (omega arith)), (λ h. absurd (omega (arith, h.0))));
        last_byte = λ e v. absurd (omega arith);
        refused_state = λ e. absurd (omega arith);
        invalid = λ e v. absurd (omega arith);
        no_message = λ n. (refl, refl, refl);
        completed = λ e n. absurd (omega arith);
        kept = λ e c. absurd (omega arith);
        done_state = λ e. absurd (omega arith);
        behind = refl;
        used_there = omega arith;
        room_stays = refl;
      }

  module _ (room : message_limit ≤ length buffer) where
    invalid_claims : is_valid s ≡ false → StepClaims s buffer chunk (refusing buffer)
    invalid_claims i =
        record {
          numbers = inr (inr refl);
          short_exactly = ((λ e. absurd (omega arith)), (λ h. absurd (omega arith)));
          short = λ e. absurd (omega arith);
          refused_exactly = ((λ e. (room, λ v. absurd (true≢false (sym v ∙ i)))), (λ h. refl));
          last_byte = λ e v. absurd (true≢false (sym v ∙ i));
          refused_state = λ e. refl;
          invalid = λ e v. refl;
          no_message = λ n. (refl, refl, refl);
          completed = λ e n. absurd (omega arith);
          kept = λ e c. absurd (omega arith);
          done_state = λ e. absurd (omega arith);
          behind = refl;
          used_there = omega arith;
          room_stays = refl;
        }

    module _ (v : is_valid s ≡ true) (b : are_bytes chunk ≡ true) where
      abbrev h : List ℕ
      h = held s buffer

      count : length h ≡ s.taken
      count = (held-begins (valid_only s.taken s.size v) buffer room).count

      t : Taking s.taken buffer (h ++ chunk)
      t = taking (valid_only s.taken s.size v) buffer chunk room b

      begun_claims : start_of (h ++ chunk) ≡ begun → StepClaims s buffer chunk (advance s.taken buffer (h ++ chunk) begun)
      begun_claims e =
          let k = t.begun_kept e in
          let used : length (h ++ chunk) - s.taken ≡ length chunk = omega (arith, length-append h chunk, count) in
          let after = put buffer 0 (drop 3 (h ++ chunk)) in
          let same-room : length after ≡ length buffer = length-put _ 0 _ in
          let counted : length (h ++ chunk) ≡ (state_after (h ++ chunk)).taken = rw k.same at (held-begins k.valid after (omega arith)).count in
          let stored : length (drop 3 (h ++ chunk)) ≡ (state_after (h ++ chunk)).taken - 3 = omega (arith, length-drop 3 (h ++ chunk)) in
          record {
            numbers = inl refl;
            short_exactly = ((λ z. absurd (omega arith)), (λ l. absurd (omega arith)));
            short = λ z. absurd (omega arith);
            refused_exactly = ((λ z. absurd (omega arith)), (λ r. let said = (r.1 v).1 in never (cc)));
            last_byte = λ z w. absurd (omega arith);
            refused_state = λ z. absurd (omega arith);
            invalid = λ z i. absurd (omega arith);
            no_message = λ n. absurd (n refl);
            completed = λ z n. absurd (n refl);
            kept = λ z c. (used, refl, k.same);
            done_state = λ z. (valid_taken k.valid, λ n. absurd (n refl));
            behind = put_rest buffer (drop 3 (h ++ chunk)) (0 + ((state_after (h ++ chunk)).taken - 3)) (omega arith) (omega (arith, valid_limit k.valid));
            used_there = omega arith;
            room_stays = length-put _ 0 _;
          }

      refused_claims : (k : ℕ) → start_of (h ++ chunk) ≡ refused k → StepClaims s buffer chunk (advance s.taken buffer (h ++ chunk) (refused k))
      refused_claims k e =
          let later = t.refused_later k e in
          let place : k ≡ s.taken + (k - s.taken) = omega arith in
          let there : k ≤ length (h ++ chunk) = ⊎_elim (λ z. omega arith) (λ z. omega arith) (refused-by (h ++ chunk) k e) in
          record {
            numbers = inr (inr refl);
            short_exactly = ((λ z. absurd (omega arith)), (λ l. absurd (omega arith)));
            short = λ z. absurd (omega arith);
            refused_exactly = ((λ z. (room, λ w. (k, e))), (λ r. refl));
            last_byte = λ z w. e ∙ ap refused place;
            refused_state = λ z. refl;
            invalid = λ z i. absurd (true≢false (sym v ∙ i));
            no_message = λ n. (refl, refl, refl);
            completed = λ z n. absurd (omega arith);
            kept = λ z c. absurd (omega arith);
            done_state = λ z. absurd (omega arith);
            behind = refl;
            used_there = omega (arith, length-append h chunk, count);
            room_stays = refl;
          }

      whole_claims : (m : List ℕ) → start_of (h ++ chunk) ≡ whole m → StepClaims s buffer chunk (advance s.taken buffer (h ++ chunk) (whole m))
      unfolding part is_valid
      whole_claims m e =
          let l = t.whole_later m e in
          let bytes = header-bytes (valid_only s.taken s.size v) buffer chunk b in
          let used = frame_length m - s.taken in
          let sum : frame_length m ≡ length h + used = omega (arith, l.0, count) in
          let taken_is : h ++ take used chunk ≡ take (frame_length m) (h ++ chunk) = sym (ap (λ (n : ℕ). take n (h ++ chunk)) sum ∙ take-append-add h chunk used) in
          let frame : take (frame_length m) (h ++ chunk) ≡ frame_of m =
          ap (take (frame_length m)) (frame-start (h ++ chunk) m bytes.0 bytes.1 e) ∙ take_at (frame_of m) _ (frame_length m) (length-frame m) in
          let stored : take (length m) (put buffer 0 m) ≡ m = part-put buffer 0 m (omega (arith, l.2)) in
          record {
            numbers = inl refl;
            short_exactly = ((λ z. absurd (omega arith)), (λ s. absurd (omega arith)));
            short = λ z. absurd (omega arith);
            refused_exactly = ((λ z. absurd (omega arith)), (λ r. let said = (r.1 v).1 in never (cc)));
            last_byte = λ z w. absurd (omega arith);
            refused_state = λ z. absurd (omega arith);
            invalid = λ z i. absurd (omega arith);
            no_message = λ n. absurd (n refl);
            completed = λ z n. (refl, taken_is ∙ frame ∙ ap frame_of (sym stored), l.2);
            kept = λ z c. absurd (omega arith);
            done_state = λ z. (refl, λ n. refl);
            behind = put_rest buffer m (length m + (0 - 3)) (omega arith) (omega (arith, l.2));
            used_there = omega (arith, length-append h chunk, count, l.1);
            room_stays = length-put _ 0 m;
          }

      valid_claims : (x : Start) → start_of (h ++ chunk) ≡ x → StepClaims s buffer chunk (advance s.taken buffer (h ++ chunk) x)
      valid_claims begun e = begun_claims e
      valid_claims (refused k) e = refused_claims k e
      valid_claims (whole m) e = whole_claims m e

pub steps : (s : State) (buffer chunk : List ℕ) → are_bytes chunk ≡ true → StepClaims s buffer chunk (step s buffer chunk)
steps s buffer chunk b =
    ⊎_elim
    (λ room. ⊎_elim
    (λ v. rw (step_valid s buffer chunk room v) (valid_claims s buffer chunk room v b (start_of (held s buffer ++ chunk)) refl))
    (λ v. rw (step-invalid s buffer chunk room v) (invalid_claims s buffer chunk room v))
    (by_test (is_valid s)))
    (λ l. rw (step-short s buffer chunk l) (short_claims s buffer chunk l))
    (le-or-lt message_limit (length buffer))
