-- A partner's allowance (01, "Charges"): a token bucket, its level at any time, and what a charge leaves of it.
-- Numbers are natural numbers, and `a - b` is 0 where b is above a.
use Rattle.std.specs.Prelude.{ℕ, ◌+◌, ◌*◌, ◌-◌, min}

-- The most that a bucket holds, and what it gets for each second of clock.
abbrev pub capacity : ℕ
capacity = 262_144

abbrev pub refill_rate : ℕ
refill_rate = 65_536

-- A partner's allowance record: "level 8, moment 8". `updated` is 01's moment, the time at which the level was stored.
pub record Bucket : Type 0 where
  pub level : ℕ
  pub updated : ℕ

-- "Fresh, at a reading t: .. the eight partners' levels 262,144, .. every moment t."
abbrev pub full : ℕ → Bucket
full t = record { level = capacity; updated = t }

-- "Level now = the smaller of 262,144 and level + 65,536 x (reading - moment)."
-- "A level above 262,144 reads as 262,144; a moment after the reading gives no refill."
unfoldable pub level_now : Bucket → ℕ → ℕ
level_now b now = min capacity (min capacity b.level + refill_rate * (now - b.updated))

-- "A done charged call stores the level left and its reading as moment."
abbrev pub spend : Bucket → ℕ → ℕ → Bucket
spend b now cost = record { level = level_now b now - cost; updated = now }
