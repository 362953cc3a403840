-- Levels that are filled second by second: what they are after any number of seconds, and that full ones stay. Assumes nothing.
use Prim.Native.Nat.{ℕ, zero, suc, ◌+◌, ◌*◌, ◌-◌, min, ◌≤◌, ◌<◌}
use mathlib.Core.Path.{◌≡◌, refl, ap, ap₂, ◌∙◌}
use mathlib.Core.List.{List, [], ◌∷◌}
use native.Mathlib.Omega.{arith}
use lib.ListN.{length, get_or}
use Rattle.allowance.specs.Bucket.{capacity, refill_rate, Bucket, level_now}
use Rattle.allowance.proofs.Numbers.{level-plain}
use Rattle.journal.specs.PlainClaims.{Filling}
use Rattle.journal.specs.Plain.{filled_once, filled}

-- ---- one second

pub length_once : (levels : List ℕ) → length (filled_once levels) ≡ length levels
unfolding filled_once
length_once [] = refl
length_once (level ∷ levels) = ap suc (length_once levels)

pub level_once : (levels : List ℕ) (p : ℕ) → p < length levels → get_or (filled_once levels) p 0 ≡ min capacity (get_or levels p 0 + refill_rate)
unfolding filled_once
level_once [] p h = absurd (omega arith)
level_once (level ∷ levels) zero h = refl
level_once (level ∷ levels) (suc p) h = level_once levels p (omega arith)

-- ---- any number of seconds

pub length-filled : (n : ℕ) (levels : List ℕ) → length (filled n levels) ≡ length levels
unfolding filled
length-filled zero levels = refl
length-filled (suc n) levels = length-filled n (filled_once levels) ∙ length_once levels

-- "level + 65,536 x (reading - moment)", at most 262,144
pub level-filled : (n : ℕ) (levels : List ℕ) (p : ℕ) → p < length levels → get_or levels p 0 ≤ capacity
    → get_or (filled n levels) p 0 ≡ min capacity (get_or levels p 0 + refill_rate * n)
unfolding filled
level-filled zero levels p h c = omega arith
level-filled (suc n) levels p h c =
    let once : get_or (filled_once levels) p 0 ≡ min capacity (get_or levels p 0 + refill_rate) = level_once levels p h in
    let len : length (filled_once levels) ≡ length levels = length_once levels in
    omega (arith, level-filled n (filled_once levels) p (omega arith) (omega arith))

-- a level does not see the others: it may be filled alone
pub level_alone : (n : ℕ) (levels : List ℕ) (p level : ℕ) → p < length levels → filled n (get_or levels p 0 ∷ []) ≡ level ∷ []
    → level ≡ get_or (filled n levels) p 0
unfolding filled filled_once
level_alone zero levels p level h e = cc
level_alone (suc n) levels p level h e =
    level_alone n (filled_once levels) p level (rw (length_once levels) h) (rw (level_once levels p h) e)

-- as a bucket that had the level at some reading, so many seconds later
pub level-later : (b : Bucket) (clock time : ℕ) → b.updated ≤ clock → clock ≤ time
    → level_now b time ≡ min capacity (level_now b clock + refill_rate * (time - clock))
level-later b clock time u h =
    let all : time - b.updated ≡ (clock - b.updated) + (time - clock) = omega arith in
    rw (level-plain b time, level-plain b clock, all) (go b.level (clock - b.updated) (time - clock))
  where
    go : (level before after : ℕ)
        → min capacity (level + refill_rate * (before + after)) ≡ min capacity (min capacity (level + refill_rate * before) + refill_rate * after)
    go level before after = omega arith

-- ---- full levels

-- "a further second changes nothing": once all are full,
pub full_once : (levels : List ℕ) → ((p : ℕ) → p < length levels → get_or levels p 0 ≡ capacity) → filled_once levels ≡ levels
unfolding filled_once
full_once [] full = refl
full_once (level ∷ levels) full =
    ap₂ ◌∷◌ (omega (arith, full 0 (omega arith))) (full_once levels (λ p h. full (suc p) (omega arith)))

-- and so for any number of seconds.
pub full-stays : (n : ℕ) (levels : List ℕ) → ((p : ℕ) → p < length levels → get_or levels p 0 ≡ capacity) → filled n levels ≡ levels
unfolding filled
full-stays zero levels full = refl
full-stays (suc n) levels full = rw (full_once levels full) (full-stays n levels full)

pub filling : Filling
filling = record { after = level-filled; stays = full-stays }
