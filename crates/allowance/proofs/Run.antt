-- A run of a metered system: its clock and buckets are those of its history, and its history is lawful.
use Prim.Native.Nat.{ℕ, ◌≤◌, ◌<◌}
use native.Mathlib.Omega.{arith}
use mathlib.Core.Path.{◌≡◌, refl, sym, ◌∙◌, ap}
use mathlib.Core.Bool.{Bool, true, false, cond, ◌&&◌}
use mathlib.Core.List.{List, [], ◌∷◌, ◌++◌}
use lib.Dec.{eqb}
use borrow.Author.Tests.{eqb-true, eqb-false}
use Rattle.allowance.specs.Bucket.{Bucket, level_now, spend}
use Rattle.allowance.specs.History.{Entry, paid, latest}
use Rattle.allowance.specs.Lawful.{Admissible, Lawful, bucket_after, level_from}
use Rattle.allowance.specs.Meter.{Meter, Metered, after, entry, history}
use Rattle.allowance.proofs.Numbers.{verdict-zero}
use Rattle.allowance.proofs.Entries.{paid_parts}

module _ {State Call Answer : Type 0} (M : Meter State Call Answer) where
  open M use {partners, bucket, clock, partner, time, charged, precheck, price, answer, next, number, cost}

  -- The entry that a call makes on a state.
  abbrev pub made : State → Call → Entry
  made s c = entry M c (answer s c)

  -- The call that made an entry of a run's history, and the calls before it.
  pub record Source (s : State) (before : List Entry) (e : Entry) : Type 0 where
    pub calls : List Call
    pub call : Call
    pub before_is : history M s calls ≡ before
    pub entry_is : made (after M s calls) call ≡ e

  pub source : (before : List Entry) (run : List Call) (s : State) (e : Entry) (later : List Entry)
      → history M s run ≡ before ++ (e ∷ later) → Source s before e
  unfolding after history
  source [] [] s e later q = absurd (let z : ◌≡◌ {A = ℕ} 0 1 = cc in omega arith)
  source [] (c ∷ run) s e later q = record { calls = []; call = c; before_is = refl; entry_is = cc }
  source (x ∷ before) [] s e later q = absurd (let z : ◌≡◌ {A = ℕ} 0 1 = cc in omega arith)
  source (x ∷ before) (c ∷ run) s e later q =
      let v = source before run (next s c) e later (cc) in
      record { calls = c ∷ v.calls; call = v.call; before_is = cc v.before_is; entry_is = v.entry_is }

  pub history-append : (run more : List Call) (s : State) → history M s (run ++ more) ≡ history M s run ++ history M (after M s run) more
  unfolding after history
  history-append [] more s = refl
  history-append (c ∷ run) more s = ap (λ (h : List Entry). made s c ∷ h) (history-append run more (next s c))

  module _ (laws : Metered M) where
    pub passed : (s : State) (c : Call) → number (answer s c) ≡ 0
        → (precheck s c ≡ 0) × (charged c ≡ true → price s c ≤ level_now (bucket s (partner c)) (time c))
    passed s c z = verdict-zero _ _ _ _ (sym (laws.decided s c) ∙ z)

    clock-next : (s : State) (c : Call) → clock (next s c) ≡ cond (eqb (number (answer s c)) 0) (time c) (clock s)
    clock-next s c = go (eqb (number (answer s c)) 0) refl
      where
        go : (a : Bool) → eqb (number (answer s c)) 0 ≡ a → clock (next s c) ≡ cond a (time c) (clock s)
        go true a = laws.clocked s c (eqb-true _ 0 a)
        go false a = ap clock (laws.refused s c (eqb-false _ 0 a))

    bucket-next : (s : State) (c : Call) (p : ℕ) → p < partners
        → bucket (next s c) p ≡ cond (paid p (made s c)) (spend (bucket s p) (time c) (cost c (answer s c))) (bucket s p)
    unfolding paid entry
    bucket-next s c p p< = go (eqb (number (answer s c)) 0) refl
      where
        same : {A : Type 0} (k x : Bool) (y z : A) → cond (k && x) y z ≡ cond (x && (true && k)) y z
        same true true y z = refl
        same true false y z = refl
        same false true y z = refl
        same false false y z = refl

        none : {A : Type 0} (x : Bool) (y z : A) → z ≡ cond (x && false) y z
        none true y z = refl
        none false y z = refl

        go : (a : Bool) → eqb (number (answer s c)) 0 ≡ a
            → bucket (next s c) p
            ≡ cond (eqb (partner c) p && (a && charged c)) (spend (bucket s p) (time c) (cost c (answer s c))) (bucket s p)
        go true a =
            let z = eqb-true _ 0 a in
            laws.stored s c z p p< ∙ rw (laws.price_cost s c z) (same (charged c) (eqb (partner c) p) _ _)
        go false a = ap (λ (r : State). bucket r p) (laws.refused s c (eqb-false _ 0 a)) ∙ none (eqb (partner c) p) _ _

    pub clock-after : (run : List Call) (s : State) → clock (after M s run) ≡ latest (clock s) (history M s run)
    unfolding after history latest entry
    clock-after [] s = refl
    clock-after (c ∷ run) s =
        clock-after run (next s c) ∙ ap (λ (t : ℕ). latest t (history M (next s c) run)) (clock-next s c)

    pub bucket-after : (run : List Call) (s : State) (p : ℕ) → p < partners
        → bucket (after M s run) p ≡ bucket_after p (bucket s p) (history M s run)
    unfolding after history bucket_after entry
    bucket-after [] s p p< = refl
    bucket-after (c ∷ run) s p p< =
        bucket-after run (next s c) p p< ∙ ap (λ (b : Bucket). bucket_after p b (history M (next s c) run)) (bucket-next s c p p<)

    -- The entry that a call makes after a run may follow the run's history.
    made_admissible : (s : State) (run : List Call) (c : Call)
        → Admissible (level_from (bucket s)) (clock s) (history M s run) (made (after M s run) c)
    unfolding entry
    made_admissible s run c =
        record {
          in_order = λ a. rw (← clock-after run s) (laws.in_order s' c (passed s' c (eqb-true _ 0 a)).0);
          within_left =
              λ p q.
              let k = paid_parts p (made s' c) q in
              let z = eqb-true (number (answer s' c)) 0 k.1 in
              let ok = passed s' c z in
              let p< : p < partners = rw (← k.0) (laws.of_partner s' c ok.0) in
              rw (← bucket-after run s p p<, laws.price_cost s' c z, ← k.0) (ok.1 k.2);
        }
      where
        s' : State
        s' = after M s run

    -- A run's history is lawful, from any state at all.
    pub run_lawful : (s : State) (run : List Call) → Lawful (level_from (bucket s)) (clock s) (history M s run)
    unfolding Lawful
    run_lawful s run before e later cut = go (source before run s e later cut)
      where
        go : Source s before e → Admissible (level_from (bucket s)) (clock s) before e
        go v = rw (← v.before_is, ← v.entry_is) (made_admissible s v.calls v.call)
