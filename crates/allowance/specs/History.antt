-- History (01, "Charges"): a run's calls with their answers; what it says of a partner's charges and level; the bound of demand 3.
use Rattle.std.specs.Prelude.{ℕ, ◌+◌, ◌*◌, ◌-◌, ◌≤◌, min, ◌≡◌, Bool, true, cond, ◌&&◌, eqb}
use mathlib.Core.List.{List, [], ◌∷◌, ◌++◌, foldl}
use Rattle.allowance.specs.Bucket.{capacity, refill_rate}

-- A call with its answer, as far as charges go: "History is the run's calls with their answers, and nothing from the tables."
-- A history is a list of these, the first call first. `time` is 01's reading, `cost` the charge.
pub record Entry : Type 0 where
  pub partner : ℕ
  pub time : ℕ
  pub accepted : Bool
  pub charged : Bool
  pub cost : ℕ

-- The entry is an accepted charged call of partner p.
unfoldable pub paid : ℕ → Entry → Bool
paid p e = eqb e.partner p && (e.accepted && e.charged)

-- "the charges of the partner's accepted calls"
unfoldable pub charges : ℕ → List Entry → ℕ
charges p [] = 0
charges p (e ∷ h) = cond (paid p e) e.cost 0 + charges p h

-- 01's figure for partner p at time t: "the smallest of 262,144 and, for each of its accepted charged calls, 262,144 + 65,536 x
-- (reading - that call's reading) - the charges of the partner's accepted calls from that one on, that one's included."
unfoldable pub level_from_history : ℕ → ℕ → List Entry → ℕ
level_from_history p t [] = capacity
level_from_history p t (e ∷ h) =
    cond
    (paid p e)
    (min (capacity + refill_rate * (t - e.time) - charges p (e ∷ h)) (level_from_history p t h))
    (level_from_history p t h)

-- "The latest reading is that of the last accepted call, at first the fresh start's."
unfoldable pub latest : ℕ → List Entry → ℕ
latest t₀ h = foldl (λ t e. cond e.accepted e.time t) t₀ h

-- The "partner's own accepted charged calls" of demand 3, in order.
unfoldable pub own : ℕ → List Entry → List Entry
own p [] = []
own p (e ∷ h) = cond (paid p e) (e ∷ own p h) (own p h)

-- Partner p "makes no accepted charged call" in h.
abbrev pub NonePaid : ℕ → List Entry → Type 0
NonePaid p h = own p h ≡ []

-- The calls "from any accepted charged call of a partner to the same or a later one of that partner, both counted".
pub record Stretch (p : ℕ) (h : List Entry) : Type 0 where
  pub earlier : List Entry
  pub calls : List Entry
  pub later : List Entry
  pub cut : h ≡ earlier ++ (calls ++ later)
  pub first : Entry
  pub rest : List Entry
  pub begins : calls ≡ first ∷ rest
  pub first_paid : paid p first ≡ true
  pub front : List Entry
  pub last : Entry
  pub ends : calls ≡ front ++ (last ∷ [])
  pub last_paid : paid p last ≡ true

-- "the charges of its accepted calls come to at most 262,144 plus 65,536 for each second of clock between the two"
unfoldable pub Bounded : List Entry → Type 0
Bounded h = (p : ℕ) (w : Stretch p h) → charges p w.calls ≤ capacity + refill_rate * (w.last.time - w.first.time)
