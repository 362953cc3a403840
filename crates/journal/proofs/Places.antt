-- The place that a replay names: the first that is wrong, and none where it agrees. Assumes nothing.
use Rattle.std.specs.Prelude.{if◌then◌else◌}
use Prim.Native.Nat.{ℕ, zero, suc, ◌+◌, ◌*◌, ◌/◌, ◌≤◌, ◌<◌}
use mathlib.Core.Path.{◌≡◌, refl, sym, ap, ◌∙◌}
use mathlib.Core.Logic.{◌≢◌, inl, inr, ⊎_elim}
use mathlib.Core.Bool.{Bool, true, false, true≢false}
use mathlib.Core.List.{List, [], ◌∷◌, ◌++◌, foldl-append}
use native.Mathlib.Omega.{arith}
use native.Mathlib.Nat.{add-zero, zero-add}
use lib.Dec.{eqb}
use lib.ListN.{length}
use borrow.Author.Tests.{eqb-true, eqb-false, eq-eqb}
use Rattle.octets.proofs.Tests.{le-or-lt}
use Rattle.rules.specs.Sizes.{connections_size, leases_size}
use Rattle.rules.specs.Tables.{lent, sized, fresh}
use Rattle.rules.specs.Checks.{check_start}
use Rattle.journal.specs.Records.{Record, record_bytes, record_at}
use Rattle.journal.specs.Replays.{records_from, records_of, tail_of, Ledger, Verdict, agrees, contradicted_at, is_contradicted, advance, judge, replay_from, table_ledger, check_replay, answered_with, replay}
use Rattle.journal.specs.Plain.{Levels, plain_ledger, fresh_levels, level_table, as_table, replay_plain}
use Rattle.journal.specs.PlaceClaims.{state_at, WrongAt, FirstWrong, NoneWrong, final, Judged, Answered, Places}

-- ---- the state after so many records

records-last : (j : List ℕ) (place n : ℕ) → records_from j place (suc n) ≡ records_from j place n ++ (record_at j (place + record_bytes * n) ∷ [])
unfolding records_from
records-last j place zero = ap (λ (k : ℕ). record_at j k ∷ []) (sym (add-zero place))
records-last j place (suc n) =
    let e : place + record_bytes + record_bytes * n ≡ place + record_bytes * suc n = omega arith in
    rw (← e) (ap (λ (rs : List Record). record_at j place ∷ rs) (records-last j (place + record_bytes) n))

-- a verdict, with what is written of the last state
abbrev tabled : {State : Type 0} → (State → List ℕ) → Verdict State → Verdict (List ℕ)
tabled table (agrees end) = agrees (table end)
tabled table (contradicted_at place) = contradicted_at place

module _ {State : Type 0} (L : Ledger State) (s : State) (j : List ℕ) where
  state-next : (n : ℕ) → state_at L s j (suc n) ≡ advance L (state_at L s j n) (record_at j (record_bytes * n))
  unfolding state_at
  state-next n =
      rw (records-last j 0 n, zero-add (record_bytes * n))
      (foldl-append (advance L) s (records_from j 0 n) (record_at j (record_bytes * n) ∷ []))

  -- ---- the verdict

  -- what it says
  abbrev Right : Verdict State → Type 0
  Right (agrees end) = (end ≡ final L s j) × NoneWrong L s j
  Right (contradicted_at place) = FirstWrong L s j place

  -- only a place in the journal is wrong
  inside : (place : ℕ) → WrongAt L s j place → place < length j
  inside place w = ⊎_elim (λ c. omega arith) (λ t. t.0) w.wrong

  -- nothing is wrong in the first i records
  abbrev NoneBefore : ℕ → Type 0
  NoneBefore i = (place : ℕ) → place < record_bytes * i → WrongAt L s j place → ⊥

  none-next : (i : ℕ) → i < length j / record_bytes → is_contradicted L (state_at L s j i) (record_at j (record_bytes * i)) ≡ false
      → NoneBefore i → NoneBefore (suc i)
  none-next i count e none place l w = ⊎_elim at_it (λ lt. none place lt w) (le-or-lt (record_bytes * i) place)
    where
      at_it : record_bytes * i ≤ place → ⊥
      at_it le =
          let same : w.before ≡ i = omega arith in
          let at : place ≡ record_bytes * i = omega arith in
          ⊎_elim (λ c. true≢false (sym c.1 ∙ rw (same, at) e)) (λ t. omega arith) w.wrong

  right_from : (n i : ℕ) → i + n ≡ length j / record_bytes → NoneBefore i
      → Right (judge L (record_bytes * i) (tail_of j) (state_at L s j i) (records_from j (record_bytes * i) n))
  unfolding judge records_from tail_of
  right_from zero i count none = go (eqb (tail_of j) 0) refl
    where
      go : (t : Bool) → eqb (tail_of j) 0 ≡ t → Right (if t then agrees (state_at L s j i) else contradicted_at (record_bytes * i))
      go true e =
          let whole : tail_of j ≡ 0 = eqb-true _ 0 e in
          (ap (state_at L s j) (omega arith), λ place w. none place (omega (arith, inside place w)) w)
      go false e =
          let short : tail_of j ≢ 0 = eqb-false _ 0 e in
          (record { before = i; begins = refl; wrong = inr (omega arith) }, none)
  right_from (suc n) i count none =
      go _ (is_contradicted L (state_at L s j i) (record_at j (record_bytes * i))) refl λ e.
      let next : record_bytes * i + record_bytes ≡ record_bytes * suc i = omega arith in
      rw (next, ← state-next i) (right_from n (suc i) (omega arith) (none-next i (omega arith) e none))
    where
      go : (rest : Verdict State) (c : Bool) → is_contradicted L (state_at L s j i) (record_at j (record_bytes * i)) ≡ c
          → (c ≡ false → Right rest)
          → Right (if c then contradicted_at (record_bytes * i) else rest)
      go rest true e right = (record { before = i; begins = refl; wrong = inl (omega arith, e) }, none)
      go rest false e right = right refl

  right : Right (replay_from L s j)
  unfolding replay_from records_of state_at records_from
  right = right_from (length j / record_bytes) 0 (omega arith) (λ place l w. omega arith)

  -- there is only one first place
  only-first : (a b : ℕ) → FirstWrong L s j a → FirstWrong L s j b → a ≡ b
  only-first a b f g =
      ⊎_elim (λ le. ⊎_elim (λ ge. omega arith) (λ lt. absurd (g.1 a lt f.0)) (le-or-lt b a)) (λ lt. absurd (f.1 b lt g.0)) (le-or-lt a b)

  judged : Judged L s j
  judged = record {
    names = λ place. ((λ e. rw e at right), named place (replay_from L s j) right);
    agreed = λ end. ((λ e. rw e at right), agreed end (replay_from L s j) right);
  }
    where
      named : (place : ℕ) (v : Verdict State) → Right v → FirstWrong L s j place → v ≡ contradicted_at place
      named place (agrees end) r f = absurd (r.1 place f.0)
      named place (contradicted_at other) r f = ap contradicted_at (only-first other place r f)

      agreed : (end : State) (v : Verdict State) → Right v → (end ≡ final L s j) × NoneWrong L s j → v ≡ agrees end
      agreed end (agrees other) r f = ap agrees (r.0 ∙ sym f.0)
      agreed end (contradicted_at place) r f = absurd (f.1 place r.0)

  -- ---- the answers

  module _ (table : State → List ℕ) (al : List ℕ) where
    answer-of : (check : ℕ) (v : Verdict State) → Right v → Answered L s table al j check (answered_with check al (tabled table v))
    answer-of (suc n) v r = record {
      number = refl;
      refused = λ m. (refl, refl, refl);
      contradicted = λ z. absurd (omega arith);
      named = λ z. absurd (omega arith);
      agreed = λ z. absurd (omega arith);
      given = λ z. absurd (omega arith);
    }
    answer-of zero (agrees end) r = record {
      number = refl;
      refused = λ n. absurd (n refl);
      contradicted = λ z. ((λ e. absurd (omega arith)), λ w. absurd (r.1 w.0 w.1));
      named = λ z e. absurd (omega arith);
      agreed = λ z. ((λ e. r.1), λ n. refl);
      given = λ z e. (refl, ap table r.0);
    }
    answer-of zero (contradicted_at place) r = record {
      number = refl;
      refused = λ n. absurd (n refl);
      contradicted = λ z. ((λ e. (place, r.0)), λ w. refl);
      named = λ z e. (r, refl);
      agreed = λ z. ((λ e. absurd (omega arith)), λ n. absurd (n place r.0));
      given = λ z e. absurd (omega arith);
    }

    answered : (check : ℕ) → Answered L s table al j check (answered_with check al (tabled table (replay_from L s j)))
    answered check = answer-of check (replay_from L s j) right

-- "refused as there": 1, 2 or 6
as_a_start : (cs ls al : List ℕ) (now term : ℕ) → length cs ≡ connections_size → length ls ≡ leases_size
    → check_replay al now term ≡ check_start (lent cs ls al) now term
unfolding check_replay check_start sized
as_a_start cs ls al now term c l = rw (eq-eqb (length cs) connections_size c, eq-eqb (length ls) leases_size l)

pub places : Places
unfolding replay replay_plain
places = record {
  judged = judged;
  replayed = λ al j now term. rw (← same_table (replay_from table_ledger (fresh now term).allowances j)) (answered table_ledger _ j (λ end. end) al _);
  replayed_plain = λ al j now term. rw (← plain_table term (replay_from plain_ledger (fresh_levels now) j)) (answered plain_ledger _ j (level_table term) al _);
  as_a_start = as_a_start;
}
  where
    same_table : (v : Verdict (List ℕ)) → tabled (λ end. end) v ≡ v
    same_table (agrees end) = refl
    same_table (contradicted_at place) = refl

    plain_table : (term : ℕ) (v : Verdict Levels) → tabled (level_table term) v ≡ as_table term v
    plain_table term (agrees end) = refl
    plain_table term (contradicted_at place) = refl
