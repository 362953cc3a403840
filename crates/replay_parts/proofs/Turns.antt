-- The turns of a replay's loop, of any ledger: it begins at 0, a record is judged and settled, a tail contradicts, and at the end all agrees.
use Rattle.std.specs.Prelude.{if◌then◌else◌}
use Prim.Native.Nat.{ℕ, suc, ◌+◌, ◌-◌, ◌/◌, ◌%◌, ◌≤◌, ◌<◌}
use mathlib.Core.Path.{◌≡◌, ap, ◌∙◌}
use mathlib.Core.Bool.{true, false}
use mathlib.Core.Logic.{◌⊎◌, inl, inr}
use mathlib.Core.List.{List}
use native.Mathlib.Omega.{arith}
use lib.ListN.{length}
use borrow.Author.Tests.{ne_eqb, leb-true, le-leb, not-true, not-false}
use Rattle.octets.proofs.Tests.{both_left, both_right, le-or-lt}
use Rattle.journal.specs.Records.{record_bytes, record_at}
use Rattle.journal.specs.Replays.{Ledger, agrees, contradicted_at, records_from, records_of, tail_of, is_contradicted, advance, judge, replay_from}
use Rattle.replay_parts.specs.Turns.{judge_from, passes, taken}

module _ {State : Type 0} (L : Ledger State) (j : List ℕ) where
  pub from_the_start : (s : State) → replay_from L s j ≡ judge_from L j 0 s
  unfolding replay_from judge_from records_of tail_of
  from_the_start s = ap (λ (left : ℕ). judge L 0 (left % record_bytes) s (records_from j 0 (left / record_bytes))) (omega arith)

  module _ (place : ℕ) (s : State) where
    whole-left : place + record_bytes ≤ length j → (length j - place) / record_bytes ≡ suc ((length j - (place + record_bytes)) / record_bytes)
    whole-left h = omega arith

    same_tail : place + record_bytes ≤ length j → (length j - place) % record_bytes ≡ (length j - (place + record_bytes)) % record_bytes
    same_tail h = omega arith

    judge_record : place + record_bytes ≤ length j
        → judge_from L j place s
        ≡ (if is_contradicted L s (record_at j place) then contradicted_at place else judge_from L j (place + record_bytes) (advance L s (record_at j place)))
    unfolding judge_from judge records_from
    judge_record h = rw (whole-left h, same_tail h)

    tail_contradicts : place < length j → length j < place + record_bytes → judge_from L j place s ≡ contradicted_at place
    unfolding judge_from judge records_from
    tail_contradicts h k = rw (none, ne_eqb _ 0 some)
      where
        none : (length j - place) / record_bytes ≡ 0
        none = omega arith

        some : (length j - place) % record_bytes ≡ 0 → ⊥
        some z = omega arith

    -- a turn that passes
    module _ (e : passes L j place s ≡ true) where
      pub room : place + record_bytes ≤ length j
      unfolding passes
      room = leb-true _ _ (both_left _ _ e)

      pub goes_on : judge_from L j place s ≡ judge_from L j (place + record_bytes) (taken L j place s)
      unfolding passes taken
      goes_on = judge_record room ∙ rw (e, not-true (is_contradicted L s (record_at j place)) (both_right _ _ e))

    -- and one that doesn't, before the end
    pub stops : place < length j → passes L j place s ≡ false → judge_from L j place s ≡ contradicted_at place
    unfolding passes
    stops h e = go (le-or-lt (place + record_bytes) (length j))
      where
        go : (place + record_bytes ≤ length j) ⊎ (length j < place + record_bytes) → judge_from L j place s ≡ contradicted_at place
        go (inl k) = judge_record k ∙ rw (not-false (is_contradicted L s (record_at j place)) (rw (le-leb _ _ k) at e))
        go (inr k) = tail_contradicts h k

    pub end-agrees : length j ≤ place → judge_from L j place s ≡ agrees s
    unfolding judge_from judge records_from
    end-agrees h = rw nothing
      where
        nothing : length j - place ≡ 0
        nothing = omega arith
