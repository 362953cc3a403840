-- Demand 3 holds of whatever is metered as 01 says.
use Prim.Native.Nat.{ℕ, ◌+◌, ◌*◌, ◌-◌, ◌≤◌, ◌<◌}
use native.Mathlib.Omega.{arith}
use mathlib.Core.Path.{◌≡◌, sym, ◌∙◌, ap}
use mathlib.Core.Logic.{◌↔◌, ◌≢◌}
use mathlib.Core.Bool.{true}
use mathlib.Core.List.{List, ◌∷◌, ◌++◌, append-nil}
use Rattle.allowance.specs.Bucket.{capacity, refill_rate, level_now}
use Rattle.allowance.specs.History.{Entry, paid, charges, level_from_history, latest, own, NonePaid, Bounded}
use Rattle.allowance.specs.Lawful.{Lawful}
use Rattle.allowance.specs.Meter.{Meter, Metered, Fresh, Demand3, after, history}
use Rattle.allowance.proofs.Numbers.{full-level, verdict-nine, nine-verdict, zero-verdict}
use Rattle.allowance.proofs.Entries.{neighbour_not, own-append, own-level}
use Rattle.allowance.proofs.Lawful.{whole-at, whole_refilled, lawful-full, lawful-level, lawful-whole, lawful-bounded}
use Rattle.allowance.proofs.Run.{passed, history-append, clock-after, bucket-after, run_lawful}

-- An entry that p does not pay is none of its own.
own_without : (p : ℕ) (h : List Entry) (e : Entry) (k : List Entry) → e.partner ≢ p → own p (h ++ (e ∷ k)) ≡ own p (h ++ k)
unfolding own
own_without p h e k n = own-append p h (e ∷ k) ∙ rw (neighbour_not p e n) (sym (own-append p h k))

module _ {State Call Answer : Type 0} (M : Meter State Call Answer) (laws : Metered M) where
  open M use {partners, retry_after, bucket, clock, partner, time, charged, precheck, price, answer, number}

  lawful : (s : State) (run : List Call) → Lawful level_from_history (clock s) (history M s run)
  lawful s run = lawful-full (bucket s) (clock s) (history M s run) (run_lawful M laws s run)

  all-bounded : (s : State) (run : List Call) → Bounded (history M s run)
  all-bounded s run = lawful-bounded (clock s) (history M s run) (lawful s run)

  module _ (s : State) (t₀ : ℕ) (fresh : Fresh M s t₀) where
    level_is : (run : List Call) (p : ℕ) → p < partners → (t : ℕ) → latest t₀ (history M s run) ≤ t
        → level_now (bucket (after M s run) p) t ≡ level_from_history p t (history M s run)
    level_is run p p< t late =
        rw
        (bucket-after M laws run s p p<)
        (lawful-level
        (bucket s)
        p
        (clock s)
        t
        (history M s run)
        (run_lawful M laws s run)
        (λ u h. rw (fresh.filled p p<, full-level t₀ u) (omega arith))
        (rw fresh.clocked late))

    whole : (run : List Call) (p t : ℕ) → latest t₀ (history M s run) ≤ t
        → (earlier : List Entry) (e : Entry) (later : List Entry) → history M s run ≡ earlier ++ (e ∷ later) → paid p e ≡ true
        → (e.time ≤ t) × (charges p (e ∷ later) ≤ capacity + refill_rate * (t - e.time))
    whole run p t late earlier e later cut q =
        whole-at p t earlier e later (rw cut at (lawful-whole p (clock s) t (history M s run) (lawful s run) (rw fresh.clocked late))) q

    module _ (run : List Call) (c : Call) where
      on_time : precheck (after M s run) c ≡ 0 → latest t₀ (history M s run) ≤ time c
      on_time z = rw (← fresh.clocked, ← clock-after M laws run s) (laws.in_order _ c z)

      judged : precheck (after M s run) c ≡ 0
          → level_now (bucket (after M s run) (partner c)) (time c) ≡ level_from_history (partner c) (time c) (history M s run)
      judged z = level_is run (partner c) (laws.of_partner _ c z) (time c) (on_time z)

      nine : (number (answer (after M s run) c) ≡ 9)
          ↔ ((precheck (after M s run) c ≡ 0)
          × (charged c ≡ true)
          × (level_from_history (partner c) (time c) (history M s run) < price (after M s run) c))
      nine = (
        (λ e.
            let v = verdict-nine _ _ _ _ (laws.eight _ c) (sym (laws.decided _ c) ∙ e) in
            (v.0, v.1, rw (judged v.0) at v.2)),
        (λ v. laws.decided _ c ∙ nine-verdict _ _ _ _ v.0 v.1 (rw (judged v.0) v.2)),
      )

      done : (number (answer (after M s run) c) ≡ 0)
          ↔ ((precheck (after M s run) c ≡ 0)
          × (charged c ≡ true → price (after M s run) c ≤ level_from_history (partner c) (time c) (history M s run)))
      done = (
        (λ e.
            let v = passed M laws _ c e in
            (v.0, (λ k. rw (judged v.0) at (v.1 k)))),
        (λ v. laws.decided _ c ∙ zero-verdict _ _ _ _ v.0 (λ k. rw (judged v.0) (v.1 k))),
      )

    -- The figure at the second call is that of the first one's time, refilled: no price is above it.
    retried : (run : List Call) (c : Call) (between : List Call) (again : Call)
        → number (answer (after M s run) c) ≡ 9
        → NonePaid (partner c) (history M (after M s run) (c ∷ between))
        → partner again ≡ partner c
        → time c + retry_after ≤ time again
        → number (answer (after M s (run ++ (c ∷ between))) again) ≢ 9
    retried run c between again e none same late e' =
        let z = ((nine run c).0 e).0 in
        let v = (nine (run ++ (c ∷ between)) again).0 e' in
        let own_is : own (partner c) (history M s (run ++ (c ∷ between))) ≡ own (partner c) (history M s run) =
        ap (own (partner c)) (history-append M run (c ∷ between) s) ∙ own-append (partner c) (history M s run) _ ∙ rw none (append-nil _) in
        let low : level_from_history (partner c) (time again) (history M s run) < price (after M s (run ++ (c ∷ between))) again =
        rw (← own-level (partner c) (time again) _ _ own_is, ← same) v.2 in
        let first = lawful-whole (partner c) (clock s) (time c) (history M s run) (lawful s run) (rw fresh.clocked (on_time run c z)) in
        omega (
          arith,
          low,
          whole_refilled (partner c) (time c) retry_after (time again) (history M s run) first late,
          laws.payable _ again v.0 v.1,
        )

pub demand3 : {State Call Answer : Type 0} (M : Meter State Call Answer) → Metered M → Demand3 M
demand3 M laws =
    record {
      fresh_runs =
          λ s t₀ f run.
          record {
            level = level_is M laws s t₀ f run;
            none_below_zero = whole M laws s t₀ f run;
            refused_exactly = λ before c later e. nine M laws s t₀ f before c;
            accepted_exactly = λ before c later e. done M laws s t₀ f before c;
            bounded = all-bounded M laws s run;
            retry = λ before c between again later e. retried M laws s t₀ f before c between again;
            own_alone = λ p t other q. own-level p t other (history M s run) q;
            own_only = λ p earlier e later cut n. ap (own p) cut ∙ own_without p earlier e later n;
          };
      all_runs = all-bounded M laws;
    }
