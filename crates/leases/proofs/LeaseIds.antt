-- The search for a free id: what the rows say of a candidate, and what the candidates come to. Assumes nothing.
use Prim.Native.Nat.{ℕ, ◌+◌, ◌-◌, ◌≤◌, ◌<◌}
use mathlib.Core.Path.{◌≡◌, refl, ap, ◌∙◌}
use mathlib.Core.Bool.{Bool, true, not}
use mathlib.Core.List.{List}
use lib.Dec.{ltb}
use Rattle.std.specs.Prelude.{Some, None}
use borrow.Author.Tests.{lt-ltb}
use Rattle.rules.specs.Sizes.{row_count, candidate_count}
use Rattle.rules.specs.Searches.{first_from}
use Rattle.rules.specs.Tables.{live_with_id}
use Rattle.rules.specs.Leases.{candidate, id_taken, first_free}
use Rattle.leases.specs.Leases.{free_id}
use Rattle.lease_search.proofs.RowSearch.{first_hit, first-miss, first-none, any_first}

-- whether candidate k is free
abbrev pub is_free : List ℕ → ℕ → List ℕ → ℕ → Bool
is_free ls now random k = not (id_taken ls now (candidate random k))

-- candidate k is the id
module _ (ls : List ℕ) (now : ℕ) (random : List ℕ) {k id : ℕ} (named : id ≡ candidate random k) (inside : k < candidate_count) where
  by_row : (n : ℕ) → first_from (live_with_id ls now id) 0 row_count ≡ n → is_free ls now random k ≡ not (ltb n row_count)
  unfolding id_taken
  by_row n e = rw (← named, any_first (live_with_id ls now id) 0 row_count, e)

  -- the search over the rows has come to a row
  module _ (row : ℕ) (looked : first_from (live_with_id ls now id) 0 row_count ≡ first_from (live_with_id ls now id) row (row_count - row)) where
    -- it is live and has the id: on to the next candidate
    pub next-candidate : {t : Bool} → row < row_count → t ≡ live_with_id ls now id row → t ≡ true
        → first_from (is_free ls now random) k (candidate_count - k) ≡ first_from (is_free ls now random) (k + 1) (candidate_count - (k + 1))
    next-candidate l test hit =
        first-miss (is_free ls now random) candidate_count inside refl
        (by_row row (looked ∙ first_hit (live_with_id ls now id) row_count l test hit) ∙ ap not (lt-ltb row row_count l))

    -- it is behind the last: the candidate is free
    pub this_candidate : row ≤ row_count → row_count ≤ row → first_from (is_free ls now random) k (candidate_count - k) ≡ k
    this_candidate l h =
        first_hit (is_free ls now random) candidate_count inside refl
        (by_row row_count (looked ∙ first-none (live_with_id ls now id) row_count l h))

  pub free-at : first_free ls now random ≡ k → Some id ≡ free_id ls now random
  unfolding free_id
  free-at e = rw (e, lt-ltb k candidate_count inside, named)

pub free-none : (ls : List ℕ) (now : ℕ) (random : List ℕ) → first_free ls now random ≡ candidate_count → None ≡ free_id ls now random
unfolding free_id
free-none ls now random e = rw e
