-- A lawful history: what 01 asks of accepted calls, said of a list of entries alone.
use Rattle.std.specs.Prelude.{ℕ, ◌≤◌, ◌≡◌, true, cond}
use mathlib.Core.List.{List, ◌∷◌, ◌++◌, foldl}
use Rattle.allowance.specs.Bucket.{Bucket, level_now, spend}
use Rattle.allowance.specs.History.{Entry, paid, latest}

-- What a partner has left at a time, after the entries before. From a fresh start this is `level_from_history`.
abbrev pub Left : Type 0
Left = ℕ → ℕ → List Entry → ℕ

-- The entry may follow those before it, in a history whose clock was t₀ at first.
pub record Admissible (left : Left) (t₀ : ℕ) (before : List Entry) (e : Entry) : Type 0 where
  -- Check 2: no accepted call's reading is below the latest.
  pub in_order : e.accepted ≡ true → latest t₀ before ≤ e.time
  -- Check 9: no accepted charge is above what its partner has left at the reading of the call. "Equal cost and level passes."
  pub within_left : (p : ℕ) → paid p e ≡ true → e.cost ≤ left p e.time before

-- A lawful history: each entry may follow those before it. After a fresh start at t₀ that is `Lawful level_from_history t₀ h`.
--
-- `left` is a parameter, so that this serves a start from other allowances too: with
-- `level_from start` it asks that each charge is within what `start` gives. Such a history is also lawful as after a fresh
-- start (law `lawful-full`): no allowances give more than full ones. So whatever is shown of `Lawful level_from_history` holds of both.
unfoldable pub Lawful : Left → ℕ → List Entry → Type 0
Lawful left t₀ h = (before : List Entry) (e : Entry) (later : List Entry) → h ≡ before ++ (e ∷ later) → Admissible left t₀ before e

-- Partner p's bucket after the entries of h: each charge is spent, in order.
unfoldable pub bucket_after : ℕ → Bucket → List Entry → Bucket
bucket_after p b h = foldl (λ b e. cond (paid p e) (spend b e.time e.cost) b) b h

-- What is left from given allowances. Not part of demand 3, which has it from history.
abbrev pub level_from : (ℕ → Bucket) → Left
level_from start p t h = level_now (bucket_after p (start p) h) t
