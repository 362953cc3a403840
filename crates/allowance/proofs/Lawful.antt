-- Lawful histories: levels from history move as buckets do, no difference is below 0, and the charges are bounded.
use Prim.Native.Nat.{ℕ, ◌+◌, ◌*◌, ◌-◌, ◌≤◌, min}
use native.Mathlib.Omega.{arith}
use mathlib.Core.Path.{◌≡◌, refl, sym, ◌∙◌, ap}
use mathlib.Core.Bool.{Bool, true, false, cond, false≢true}
use mathlib.Core.List.{List, [], ◌∷◌, ◌++◌, append_assoc}
use Rattle.allowance.specs.Bucket.{capacity, refill_rate, Bucket, level_now}
use Rattle.allowance.specs.History.{Entry, paid, charges, level_from_history, latest, Bounded}
use Rattle.allowance.specs.Lawful.{Left, Admissible, Lawful, bucket_after, level_from}
use Rattle.allowance.proofs.Numbers.{level≤capacity, level-plain, charge_monotone, charge-level}
use Rattle.allowance.proofs.Entries.{
  forward,
  paid_parts,
  level-paid,
  level-not,
  charges-last-paid,
  charges-last-not,
  level-last-not,
  latest-last,
  bucket-last,
}

-- No difference in partner p's figure at t is below 0.
unfoldable pub Whole : ℕ → ℕ → List Entry → Type 0
Whole p t [] = Unit {0}
Whole p t (x ∷ h) = (paid p x ≡ true → (x.time ≤ t) × (charges p (x ∷ h) ≤ capacity + refill_rate * (t - x.time))) × Whole p t h

pub whole-at : (p t : ℕ) (earlier : List Entry) (e : Entry) (later : List Entry) → Whole p t (earlier ++ (e ∷ later)) → paid p e ≡ true
    → (e.time ≤ t) × (charges p (e ∷ later) ≤ capacity + refill_rate * (t - e.time))
unfolding Whole
whole-at p t [] e later w q = w.0 q
whole-at p t (x ∷ earlier) e later w q = whole-at p t earlier e later w.1 q

whole-last-not : (p t : ℕ) (h : List Entry) (e : Entry) → paid p e ≡ false → Whole p t h → Whole p t (h ++ (e ∷ []))
unfolding Whole
whole-last-not p t [] e q w = ((λ y. absurd (false≢true (sym q ∙ y))), tt)
whole-last-not p t (x ∷ h) e q w = ((λ y. rw (charges-last-not p (x ∷ h) e q) (w.0 y)), whole-last-not p t h e q w.1)

-- A refill of some seconds is there after them.
pub whole_refilled : (p r n t : ℕ) (h : List Entry) → Whole p r h → r + n ≤ t → min capacity (refill_rate * n) ≤ level_from_history p t h
unfolding Whole level_from_history
whole_refilled p r n t [] w l = omega arith
whole_refilled p r n t (x ∷ h) w l = go (paid p x) refl (whole_refilled p r n t h w.1 l)
  where
    go : (b : Bool) → paid p x ≡ b → min capacity (refill_rate * n) ≤ level_from_history p t h
        → min capacity (refill_rate * n) ≤ level_from_history p t (x ∷ h)
    go true q ih = rw q (omega (arith, w.0 q))
    go false q ih = rw q ih

-- A charge within the figure leaves it whole, and lowers and refills it as it does a bucket.
module _ (p t : ℕ) (e : Entry) (q : paid p e ≡ true) (l : e.time ≤ t) where
  record Charged (h : List Entry) : Type 0 where
    whole : Whole p t (h ++ (e ∷ []))
    level : level_from_history p t (h ++ (e ∷ [])) ≡ min capacity (level_from_history p e.time h - e.cost + refill_rate * (t - e.time))

  charged-last : (h : List Entry) → Whole p e.time h → e.cost ≤ level_from_history p e.time h → Charged h
  unfolding Whole level_from_history charges
  charged-last [] w c =
      record {
        whole = ((λ y. (l, rw (charges-last-paid p [] e q) (omega arith))), tt);
        level = rw q (omega arith);
      }
  charged-last (x ∷ h) w c = go (paid p x) refl (charged-last h w.1)
    where
      go : (b : Bool) → paid p x ≡ b → (e.cost ≤ level_from_history p e.time h → Charged h) → Charged (x ∷ h)
      go true y ih =
          let c' = rw (level-paid p e.time x h y) at c in
          let v = w.0 y in
          let within : charges p (x ∷ h) + e.cost ≤ capacity + refill_rate * (e.time - x.time) = omega arith in
          let k = ih (omega arith) in
          record {
            whole = ((λ y'. (omega arith, rw (charges-last-paid p (x ∷ h) e q) (omega arith))), k.whole);
            level =
                rw
                (level-paid p t x (h ++ (e ∷ [])) y, charges-last-paid p (x ∷ h) e q, level-paid p e.time x h y, k.level)
                (charge-level (charges p (x ∷ h)) (level_from_history p e.time h) e.cost e.time x.time t v.0 l within);
          }
      go false y ih =
          let k = ih (rw (level-not p e.time x h y) at c) in
          record {
            whole = ((λ y'. absurd (false≢true (sym y ∙ y'))), k.whole);
            level = rw (level-not p t x (h ++ (e ∷ [])) y, level-not p e.time x h y) k.level;
          }

-- What is left moves as a bucket does, and is never more than a full bucket at first.
pub record Moves (left : Left) (p : ℕ) : Type 0 where
  pub start : (t : ℕ) → left p t [] ≤ capacity
  pub idle : (t : ℕ) (h : List Entry) (e : Entry) → paid p e ≡ false → left p t (h ++ (e ∷ [])) ≡ left p t h
  pub pays : (t : ℕ) (h : List Entry) (e : Entry) → paid p e ≡ true → e.time ≤ t
      → Whole p e.time h → e.cost ≤ level_from_history p e.time h
      → left p t (h ++ (e ∷ [])) ≡ min capacity (left p e.time h - e.cost + refill_rate * (t - e.time))

history_moves : (p : ℕ) → Moves level_from_history p
unfolding level_from_history
history_moves p =
    record {
      start = λ t. omega arith;
      idle = level-last-not p;
      pays = λ t h e q l w c. (charged-last p t e q l h w c).level;
    }

bucket_moves : (start : ℕ → Bucket) (p : ℕ) → Moves (level_from start) p
unfolding bucket_after
bucket_moves start p =
    record {
      start = λ t. level≤capacity (start p) t;
      idle = λ t h e q. ap (λ (b : Bucket). level_now b t) (bucket-last p (start p) h e ∙ rw q);
      pays = λ t h e q l w c. ap (λ (b : Bucket). level_now b t) (bucket-last p (start p) h e ∙ rw q) ∙ level-plain _ t;
    }

-- At t, after a lawful history: no difference is below 0, what is left is at most the level from history, and no less from a full start.
pub record Seen (left : Left) (p t₀ t : ℕ) (h : List Entry) : Type 0 where
  pub whole : Whole p t h
  pub most : left p t h ≤ level_from_history p t h
  pub least : ((u : ℕ) → t₀ ≤ u → capacity ≤ left p u []) → level_from_history p t h ≤ left p t h

module _ (left : Left) (p t₀ : ℕ) (moves : Moves left p) where
  latest_grows : (h : List Entry) (e : Entry) → (e.accepted ≡ true → latest t₀ h ≤ e.time) → latest t₀ h ≤ latest t₀ (h ++ (e ∷ []))
  latest_grows h e k = rw (latest-last t₀ h e) (go e.accepted k)
    where
      go : (b : Bool) → (b ≡ true → latest t₀ h ≤ e.time) → latest t₀ h ≤ cond b e.time (latest t₀ h)
      go true k = k refl
      go false k = omega arith

  abbrev Always : List Entry → Type 0
  Always h = (t : ℕ) → latest t₀ h ≤ t → Seen left p t₀ t h

  seen_last : (h : List Entry) (e : Entry) → Admissible left t₀ h e → Always h → Always (h ++ (e ∷ []))
  seen_last h e a ih t late = go (paid p e) refl
    where
      go : (b : Bool) → paid p e ≡ b → Seen left p t₀ t (h ++ (e ∷ []))
      go true q =
          let done = (paid_parts p e q).1 in
          let before = ih e.time (a.in_order done) in
          let l : e.time ≤ t = rw (latest-last t₀ h e, done) at late in
          let c : e.cost ≤ level_from_history p e.time h = omega (arith, a.within_left p q, before.most) in
          let k = charged-last p t e q l h before.whole c in
          let m = moves.pays t h e q l before.whole c in
          record {
            whole = k.whole;
            most = rw (m, k.level) (charge_monotone _ _ e.cost _ before.most);
            least = λ f. rw (m, k.level) (charge_monotone _ _ e.cost _ (before.least f));
          }
      go false q =
          let before = ih t (omega (arith, latest_grows h e a.in_order)) in
          record {
            whole = whole-last-not p t h e q before.whole;
            most = rw (moves.idle t h e q, level-last-not p t h e q) before.most;
            least = λ f. rw (moves.idle t h e q, level-last-not p t h e q) (before.least f);
          }

  pub seen : (h : List Entry) → Lawful left t₀ h → (t : ℕ) → latest t₀ h ≤ t → Seen left p t₀ t h
  unfolding Lawful Whole level_from_history latest
  seen h lawful =
      forward
      Always
      h
      (λ t late. record { whole = tt; most = moves.start t; least = λ f. f t late })
      (λ before e later cut ih. seen_last before e (lawful before e later cut) ih)

-- The part before of a lawful history is lawful.
pub lawful-front : (left : Left) (t₀ : ℕ) (h front back : List Entry) → h ≡ front ++ back → Lawful left t₀ h → Lawful left t₀ front
unfolding Lawful
lawful-front left t₀ h front back cut lawful before e later q =
    lawful before e (later ++ back) (cut ∙ rw (q, append_assoc before (e ∷ later) back))

-- A history that is lawful from any allowances is lawful as from full ones.
pub lawful-full : (start : ℕ → Bucket) (t₀ : ℕ) (h : List Entry) → Lawful (level_from start) t₀ h → Lawful level_from_history t₀ h
unfolding Lawful
lawful-full start t₀ h lawful before e later cut =
    let a = lawful before e later cut in
    let front = lawful-front (level_from start) t₀ h before (e ∷ later) cut lawful in
    record {
      in_order = a.in_order;
      within_left =
          λ p q.
          omega (
            arith,
            a.within_left p q,
            (seen (level_from start) p t₀ (bucket_moves start p) before front e.time (a.in_order (paid_parts p e q).1)).most,
          );
    }

-- From full allowances what is left is the level from history.
pub lawful-level : (start : ℕ → Bucket) (p t₀ t : ℕ) (h : List Entry) → Lawful (level_from start) t₀ h
    → ((u : ℕ) → t₀ ≤ u → capacity ≤ level_now (start p) u) → latest t₀ h ≤ t
    → level_from start p t h ≡ level_from_history p t h
unfolding bucket_after
lawful-level start p t₀ t h lawful f late =
    let v = seen (level_from start) p t₀ (bucket_moves start p) h lawful t late in
    omega (arith, v.most, v.least f)

pub lawful-whole : (p t₀ t : ℕ) (h : List Entry) → Lawful level_from_history t₀ h → latest t₀ h ≤ t → Whole p t h
lawful-whole p t₀ t h lawful late = (seen level_from_history p t₀ (history_moves p) h lawful t late).whole

-- The bound: the difference of the stretch's first call, at the reading of its last, is not below 0.
pub lawful-bounded : (t₀ : ℕ) (h : List Entry) → Lawful level_from_history t₀ h → Bounded h
unfolding Bounded
lawful-bounded t₀ h lawful p w =
    let cut = w.cut ∙ sym (append_assoc w.earlier w.calls w.later) in
    let front = lawful-front level_from_history t₀ h (w.earlier ++ w.calls) w.later cut lawful in
    let whole = lawful-whole p t₀ w.last.time (w.earlier ++ w.calls) front now in
    rw w.begins (whole-at p w.last.time w.earlier w.first w.rest (rw w.begins at whole) w.first_paid).1
  where
    now : latest t₀ (w.earlier ++ w.calls) ≤ w.last.time
    now =
        let accepted = (paid_parts p w.last w.last_paid).1 in
        let last-is = latest-last t₀ (w.earlier ++ w.front) w.last in
        rw (w.ends, ← append_assoc w.earlier w.front (w.last ∷ []), last-is, accepted) (omega arith)
