-- 02, Item 8: "A second, plain replay that fills every level once for each second must agree with it on every journal".
use Rattle.std.specs.Prelude.{ℕ, zero, suc, ◌+◌, ◌-◌, min, List, [], ◌∷◌, ◌++◌, replicate, get_or, set}
use Rattle.octets.specs.Octets.{big_endian}
use Rattle.allowance.specs.Bucket.{capacity, refill_rate}
use Rattle.rules.specs.Sizes.{partners}
use Rattle.rules.specs.Tables.{partner_of, bucket_bytes, named_term}
use Rattle.journal.specs.Replays.{Ledger, Verdict, agrees, contradicted_at, Replayed, replay_from, check_replay, answered_with}

-- every partner's level at the latest done reading
pub record Levels : Type 0 where
  pub clock : ℕ
  pub levels : List ℕ

-- one second: every level gets 65,536, up to 262,144
unfoldable pub filled_once : List ℕ → List ℕ
filled_once [] = []
filled_once (level ∷ levels) = min capacity (level + refill_rate) ∷ filled_once levels

-- "once for each second"
unfoldable pub filled : ℕ → List ℕ → List ℕ
filled zero levels = levels
filled (suc seconds) levels = filled seconds (filled_once levels)

-- the levels at a reading
unfoldable pub levels_at : Levels → ℕ → List ℕ
levels_at s time = filled (time - s.clock) s.levels

-- what is filled for a refused record is not kept
abbrev pub plain_ledger : Ledger Levels
plain_ledger = record {
  clock = λ s. s.clock;
  level = λ s p time. get_or (levels_at s time) p 0;
  settle = λ s r.
      let p = partner_of r.connection in
      record { clock = r.time; levels = set (levels_at s r.time) p (get_or (levels_at s r.time) p 0 - r.charge) };
}

-- "Fresh, at a reading t: .. the eight partners' levels 262,144"
abbrev pub fresh_levels : ℕ → Levels
fresh_levels now = record { clock = now; levels = replicate partners capacity }

-- as a table: each level with the latest done reading as its time of update, and in the ninth record the term and the clock
unfoldable pub level_records : ℕ → List ℕ → List ℕ
level_records clock [] = []
level_records clock (level ∷ levels) = bucket_bytes (record { level = level; updated = clock }) ++ level_records clock levels

unfoldable pub level_table : ℕ → Levels → List ℕ
level_table term s = level_records s.clock s.levels ++ (big_endian 8 (named_term term) ++ big_endian 8 s.clock)

abbrev pub as_table : ℕ → Verdict Levels → Verdict (List ℕ)
as_table term (agrees s) = agrees (level_table term s)
as_table term (contradicted_at place) = contradicted_at place

unfoldable pub replay_plain : List ℕ → List ℕ → ℕ → ℕ → Replayed
replay_plain al j now term = answered_with (check_replay al now term) al (as_table term (replay_from plain_ledger (fresh_levels now) j))
