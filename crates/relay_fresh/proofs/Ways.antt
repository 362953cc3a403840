-- A fresh start that is refused, and one that is done, over plain values. Assumes nothing.
use Prim.Native.Nat.{ℕ, zero, suc}
use mathlib.Core.Path.{◌≡◌, refl, sym, ap, ◌∙◌}
use mathlib.Core.List.{List, []}
use Rattle.rules.specs.Tables.{lent, Tables, fresh}
use Rattle.rules.specs.Calls.{sent_nothing, refusal}
use Rattle.rules.specs.Checks.{check_start}
use Rattle.rules.specs.Step.{started, start}
use Rattle.rules.proofs.Demand3.{start-number}
use Rattle.journal.specs.Records.{no_record}
use Rattle.journal.specs.Steps.{start_recorded}
use Rattle.answers.specs.declared.Answer.{Answer}
use Rattle.answers.specs.Results.{call_result, shown}
use Rattle.answers.specs.Applied.{coded}
use Rattle.call_answers.specs.declared.CallAnswer.{CallAnswer}
use Rattle.call_answers.specs.Returned.{answer_with, returned, as_returned}
use Rattle.call_answers.proofs.Ways.{start-refused-recorded, start-done-recorded}

module _ (tables : Tables) (map time term k : ℕ) (e : k ≡ check_start tables time term) where
  numbered : (start tables time term).answer.number ≡ k
  numbered = start-number tables time term ∙ sym e

  pub start-refused : (k ≡ 0 → ⊥) → (r : CallAnswer) → r ≡ answer_with (coded (refusal k)) map no_record
      → returned r tables [] [] ≡ as_returned (start_recorded tables map time term)
  start-refused h r q = start-refused-recorded tables map time term (λ z. h (sym numbered ∙ z)) (coded (refusal k)) r without q
    where
      by : (k : ℕ) → (k ≡ 0 → ⊥) → call_result (coded (refusal k)) tables [] [] ≡ shown (started k tables time term)
      by zero h = absurd (h refl)
      by (suc n) h = refl

      without : call_result (coded (refusal k)) tables [] [] ≡ shown (start tables time term)
      without = unfold start in rw (← e) (by k h)

  pub start-done : k ≡ 0 → (a : Answer) (r : CallAnswer) (cs ls al : List ℕ) → a ≡ coded (sent_nothing 0) → r ≡ answer_with a 0 no_record
      → cs ≡ (fresh time term).connections → ls ≡ (fresh time term).leases → al ≡ (fresh time term).allowances
      → returned r (lent cs ls al) [] [] ≡ as_returned (start_recorded tables map time term)
  start-done z a r cs ls al h q c l m = start-done-recorded tables map time term (numbered ∙ z) a (lent cs ls al) r without q
    where
      without : call_result a (lent cs ls al) [] [] ≡ shown (start tables time term)
      without = unfold start in rw (h, c, l, m) (ap (λ (n : ℕ). shown (started n tables time term)) (sym z ∙ e))
