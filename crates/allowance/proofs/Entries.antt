-- Lists of entries: what one more entry, first or last, does to charges, level from history, latest reading, own entries and bucket.
use Prim.Native.Nat.{ℕ, ◌+◌, ◌*◌, ◌-◌, min}
use native.Mathlib.Omega.{arith}
use native.Mathlib.Nat.{add-zero, zero-add}
use mathlib.Core.Path.{◌≡◌, refl, sym, ◌∙◌, ap}
use mathlib.Core.Logic.{◌≢◌}
use mathlib.Core.Bool.{Bool, true, false, cond, ◌&&◌, false≢true}
use mathlib.Core.List.{List, [], ◌∷◌, ◌++◌, append-nil, foldl-append}
use lib.Dec.{eqb}
use lib.Seq.{append_snoc}
use borrow.Author.Tests.{eqb-true, ne_eqb}
use Rattle.allowance.specs.Bucket.{capacity, refill_rate, Bucket, spend}
use Rattle.allowance.specs.History.{Entry, paid, charges, level_from_history, latest, own}
use Rattle.allowance.specs.Lawful.{bucket_after}

-- Induction along a list, from its first element to its last.
pub forward : {A : Type 0} (P : List A → Type 0) (h : List A) → P []
    → ((before : List A) (x : A) (later : List A) → h ≡ before ++ (x ∷ later) → P before → P (before ++ (x ∷ [])))
    → P h
forward {A} P h base step = go h [] refl base
  where
    go : (later before : List A) → before ++ later ≡ h → P before → P h
    go [] before q y = rw (← q, append-nil before) y
    go (x ∷ later) before q y = go later (before ++ (x ∷ [])) (append_snoc before x later ∙ q) (step before x later (sym q) y)

pub paid_parts : (p : ℕ) (e : Entry) → paid p e ≡ true → (e.partner ≡ p) × (e.accepted ≡ true) × (e.charged ≡ true)
unfolding paid
paid_parts p e q = go (eqb e.partner p) e.accepted e.charged refl q
  where
    go : (x a k : Bool) → eqb e.partner p ≡ x → x && (a && k) ≡ true → (e.partner ≡ p) × (a ≡ true) × (k ≡ true)
    go true true true x q = (eqb-true e.partner p x, refl, refl)
    go true true false x q = absurd (false≢true q)
    go true false k x q = absurd (false≢true q)
    go false a k x q = absurd (false≢true q)

pub neighbour_not : (p : ℕ) (e : Entry) → e.partner ≢ p → paid p e ≡ false
unfolding paid
neighbour_not p e n = rw (ne_eqb e.partner p n)

-- One entry in front.
pub level-paid : (p t : ℕ) (e : Entry) (h : List Entry) → paid p e ≡ true
    → level_from_history p t (e ∷ h) ≡ min (capacity + refill_rate * (t - e.time) - charges p (e ∷ h)) (level_from_history p t h)
unfolding level_from_history
level-paid p t e h q = rw q

pub level-not : (p t : ℕ) (e : Entry) (h : List Entry) → paid p e ≡ false → level_from_history p t (e ∷ h) ≡ level_from_history p t h
unfolding level_from_history
level-not p t e h q = rw q

-- One entry behind.
pub charges-append : (p : ℕ) (h k : List Entry) → charges p (h ++ k) ≡ charges p h + charges p k
unfolding charges
charges-append p [] k = omega arith
charges-append p (e ∷ h) k = omega (arith, charges-append p h k)

pub charges-last-paid : (p : ℕ) (h : List Entry) (e : Entry) → paid p e ≡ true → charges p (h ++ (e ∷ [])) ≡ charges p h + e.cost
unfolding charges
charges-last-paid p h e q = charges-append p h (e ∷ []) ∙ rw (q, add-zero e.cost)

pub charges-last-not : (p : ℕ) (h : List Entry) (e : Entry) → paid p e ≡ false → charges p (h ++ (e ∷ [])) ≡ charges p h
unfolding charges
charges-last-not p h e q = charges-append p h (e ∷ []) ∙ rw (q, add-zero (charges p h))

pub level-last-not : (p t : ℕ) (h : List Entry) (e : Entry) → paid p e ≡ false
    → level_from_history p t (h ++ (e ∷ [])) ≡ level_from_history p t h
unfolding level_from_history
level-last-not p t [] e q = rw q
level-last-not p t (x ∷ h) e q = rw (charges-last-not p (x ∷ h) e q, level-last-not p t h e q)

pub latest-last : (t₀ : ℕ) (h : List Entry) (e : Entry) → latest t₀ (h ++ (e ∷ [])) ≡ cond e.accepted e.time (latest t₀ h)
unfolding latest
latest-last t₀ h e = foldl-append _ t₀ h (e ∷ [])

pub bucket-last : (p : ℕ) (b : Bucket) (h : List Entry) (e : Entry)
    → bucket_after p b (h ++ (e ∷ [])) ≡ cond (paid p e) (spend (bucket_after p b h) e.time e.cost) (bucket_after p b h)
unfolding bucket_after
bucket-last p b h e = foldl-append _ b h (e ∷ [])

-- The partner's own entries give its charges and its level from history.
pub own-append : (p : ℕ) (h k : List Entry) → own p (h ++ k) ≡ own p h ++ own p k
unfolding own
own-append p [] k = refl
own-append p (e ∷ h) k = go (paid p e) (own-append p h k)
  where
    go : (b : Bool) → own p (h ++ k) ≡ own p h ++ own p k
        → cond b (e ∷ own p (h ++ k)) (own p (h ++ k)) ≡ cond b (e ∷ own p h) (own p h) ++ own p k
    go true ih = ap (λ (l : List Entry). e ∷ l) ih
    go false ih = ih

-- A figure taken from the own entries alone, entry by entry.
module _ (p t : ℕ) where
  abbrev Same : List Entry → Type 0
  Same h = (charges p (own p h) ≡ charges p h) × (level_from_history p t (own p h) ≡ level_from_history p t h)

  own_same : (h : List Entry) → Same h
  unfolding own charges level_from_history
  own_same [] = (refl, refl)
  own_same (e ∷ h) = go (paid p e) refl (own_same h)
    where
      go : (b : Bool) → paid p e ≡ b → Same h → Same (e ∷ h)
      go true q ih = rw (q, q, ih.0, ih.1) (refl, refl)
      go false q ih = rw (q, zero-add) ih

  pub own-level : (h k : List Entry) → own p h ≡ own p k → level_from_history p t h ≡ level_from_history p t k
  own-level h k q = sym (own_same h).1 ∙ ap (level_from_history p t) q ∙ (own_same k).1
