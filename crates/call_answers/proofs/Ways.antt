-- The ways out of the entry points, with the map and the record, from those without; over plain values. Assumes nothing.
use Rattle.std.specs.Prelude.{if◌then◌else◌}
use Prim.Native.Nat.{ℕ}
use mathlib.Core.Path.{◌≡◌, refl, sym, ap, ◌∙◌}
use mathlib.Core.Logic.{◌≢◌}
use mathlib.Core.Bool.{Bool, true, false}
use mathlib.Core.List.{List, []}
use lib.Dec.{eqb}
use borrow.Author.Tests.{eq-eqb, ne_eqb}
use Rattle.rules.specs.Tables.{Tables}
use Rattle.rules.specs.Calls.{Call, time_of, connection_of, refusal, reply_buffer, relay_buffer}
use Rattle.rules.specs.Checks.{check}
use Rattle.rules.specs.Step.{step, start}
use Rattle.rules.proofs.Answers.{answer-is-check}
use Rattle.connection_map.specs.Bits.{without_bit}
use Rattle.connection_map.specs.Maps.{map_of_done}
use Rattle.connection_map.specs.Steps.{step_with_map, start_with_map}
use Rattle.journal.specs.Records.{Record, priced, no_record, call_number, kind_of, record_with, record_of, answer_record}
use Rattle.journal.specs.Steps.{step_recorded, start_recorded}
use Rattle.rules.specs.Charges.{price}
use Rattle.connection_map.proofs.Calls.{refused-leaves-map, done-map}
use Rattle.answers.specs.declared.Answer.{Answer}
use Rattle.answers.specs.Applied.{coded}
use Rattle.answers.specs.Results.{Result, call_result, shown}
use Rattle.answers.proofs.Ways.{refused_way}
use Rattle.call_answers.specs.declared.CallAnswer.{CallAnswer}
use Rattle.call_answers.specs.Returned.{answer_with, Returned, returned, as_returned}

-- what is returned without the map and the record, and both
abbrev with-both : Result → ℕ → List ℕ → Returned
with-both x map bytes = returned (answer_with x.answer map bytes) x.tables x.reply x.relay

module _
    (tables : Tables) (map : ℕ) (call : Call) (k : ℕ) (e : k ≡ check tables call) (p : ℕ) (priced-as : priced k ≡ true → p ≡ price tables call)
    (bytes : List ℕ)
  where
    answered_as : (step tables call).answer.number ≡ k
    answered_as = answer-is-check tables call ∙ sym e

    -- a price counts with 0 and with 9 alone
    abbrev recorded-with : ℕ → ℕ → Record
    recorded-with n amount = record_with n (time_of call) (connection_of call) (call_number call) (kind_of call) amount

    same-with : (t : Bool) → priced k ≡ t → recorded-with k p ≡ recorded-with k (price tables call)
    unfolding record_with
    same-with true h = rw (priced-as h)
    same-with false h = rw h

    recorded_as : bytes ≡ answer_record k (recorded-with k p) → bytes ≡ answer_record (step tables call).answer.number (record_of tables call)
    recorded_as b = b ∙ rw answered_as (ap (answer_record k) (same-with (priced k) refl))

    pub refused-recorded : (k ≡ 0 → ⊥) → bytes ≡ answer_record k (recorded-with k p) → (r : CallAnswer) → r ≡ answer_with (coded (refusal k)) map bytes
        → returned r tables (reply_buffer call) (relay_buffer call) ≡ as_returned (step_recorded tables map call)
    unfolding step_with_map step_recorded
    refused-recorded h b r a =
        let stays = refused-leaves-map tables map call (λ z. h (sym answered_as ∙ z)) in
        rw (a, stays, ← recorded_as b) (ap (λ (x : Result). with-both x map bytes) (refused_way tables call k e h (coded (refusal k)) refl))

    module _
        (z : k ≡ 0) (b : bytes ≡ answer_record 0 (recorded-with 0 p)) (a : Answer) (after : Tables) (reply relay : List ℕ) (h : call_result a after reply relay ≡ shown (step tables call)) (r : CallAnswer)
      where
        pub done-recorded : r ≡ answer_with a (map_of_done call (step tables call).answer.disconnect map) bytes
            → returned r after reply relay ≡ as_returned (step_recorded tables map call)
        unfolding step_with_map step_recorded
        done-recorded q =
            let writes = done-map tables map call (answered_as ∙ z) in
            let new = map_of_done call (step tables call).answer.disconnect map in
            let same : bytes ≡ answer_record k (recorded-with k p) = b ∙ ap (λ (n : ℕ). answer_record n (recorded-with n p)) (sym z) in
            rw (q, writes, ← recorded_as same) (ap (λ (x : Result). with-both x new bytes) h)

        -- a call that closes its connection exactly if it disconnects, which the code tells by the answer's number
        pub settled-recorded : ((d : Bool) → map_of_done call d map ≡ (if d then without_bit map (connection_of call) else map))
            → r ≡ answer_with a (if eqb a.disconnect 1 then without_bit map (connection_of call) else map) bytes
            → returned r after reply relay ≡ as_returned (step_recorded tables map call)
        settled-recorded kind q = done-recorded (q ∙ rw (told, kind (step tables call).answer.disconnect))
          where
            yes_or_no : (b : Bool) → eqb (if b then 1 else 0) 1 ≡ b
            yes_or_no true = refl
            yes_or_no false = refl

            told : eqb a.disconnect 1 ≡ (step tables call).answer.disconnect
            told = ap (λ (x : Result). eqb x.answer.disconnect 1) h ∙ yes_or_no (step tables call).answer.disconnect

-- ---- a fresh start, which has no record

module _ (tables : Tables) (map time term : ℕ) where
  pub start-refused-recorded : (start tables time term).answer.number ≢ 0 → (a : Answer) (r : CallAnswer)
      → call_result a tables [] [] ≡ shown (start tables time term) → r ≡ answer_with a map no_record
      → returned r tables [] [] ≡ as_returned (start_recorded tables map time term)
  unfolding start_with_map start_recorded
  start-refused-recorded n a r h q =
      rw (q, ne_eqb (start tables time term).answer.number 0 n) (ap (λ (x : Result). with-both x map no_record) h)

  pub start-done-recorded : (start tables time term).answer.number ≡ 0 → (a : Answer) (after : Tables) (r : CallAnswer)
      → call_result a after [] [] ≡ shown (start tables time term) → r ≡ answer_with a 0 no_record
      → returned r after [] [] ≡ as_returned (start_recorded tables map time term)
  unfolding start_with_map start_recorded
  start-done-recorded z a after r h q =
      rw (q, eq-eqb (start tables time term).answer.number 0 z) (ap (λ (x : Result). with-both x 0 no_record) h)
