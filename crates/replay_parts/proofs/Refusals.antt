-- What refuses a replay, and its way out, over plain values. Assumes nothing.
use Prim.Native.Nat.{ℕ, zero, suc, ◌≤◌, ◌<◌}
use mathlib.Core.Path.{◌≡◌, refl, sym, ◌∙◌}
use mathlib.Core.Bool.{Bool, true, false}
use mathlib.Core.List.{List}
use native.Mathlib.Omega.{arith}
use lib.Dec.{eqb}
use lib.ListN.{length}
use borrow.Author.Tests.{eqb-true, eqb-false, eq-eqb, ne_eqb, le-leb, lt-leb}
use Rattle.rules.specs.Sizes.{allowances_size, time_limit}
use Rattle.rules.specs.Checks.{wrong_term, first_applying}
use Rattle.journal.specs.Replays.{Verdict, check_replay, answered_with}
use Rattle.replay_parts.specs.Answers.{answer_of, with_allowances}

module _ (al : List ℕ) (time term : ℕ) where
  pub wrong_size_lem : (length al ≡ allowances_size → ⊥) → 1 ≡ check_replay al time term
  unfolding check_replay first_applying
  wrong_size_lem h = rw (ne_eqb _ _ h)

  module _ (size : length al ≡ allowances_size) where
    pub wrong-time : time_limit ≤ time → 2 ≡ check_replay al time term
    unfolding check_replay first_applying
    wrong-time h = rw (eq-eqb _ _ size, le-leb _ _ h)

    module _ (early : time < time_limit) where
      pub wrong_term_lem : wrong_term term ≡ true → 6 ≡ check_replay al time term
      unfolding check_replay first_applying
      wrong_term_lem h = rw (eq-eqb _ _ size, lt-leb _ _ early, h)

      pub passes : wrong_term term ≡ false → 0 ≡ check_replay al time term
      unfolding check_replay first_applying
      passes h = rw (eq-eqb _ _ size, lt-leb _ _ early, h)

  pub sized : 0 ≡ check_replay al time term → length al ≡ allowances_size
  sized e = by (eqb (length al) allowances_size) refl
    where
      by : (t : Bool) → eqb (length al) allowances_size ≡ t → length al ≡ allowances_size
      by true h = eqb-true _ _ h
      by false h = absurd (let one : 0 ≡ 1 = e ∙ sym (wrong_size_lem (eqb-false _ _ h)) in omega arith)

-- ---- the way out, of any replay's verdict

pub refused_way : (k : ℕ) → (k ≡ 0 → ⊥) → (al : List ℕ) (verdict : Verdict (List ℕ))
    → with_allowances (answer_of k 0 0) al ≡ answered_with k al verdict
refused_way zero h al verdict = absurd (h refl)
refused_way (suc k) h al verdict = refl
