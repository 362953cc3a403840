-- The ways out of the decision on a session, over plain values. Assumes nothing.
use Rattle.std.specs.Prelude.{if◌then◌else◌}
use Prim.Native.Nat.{ℕ, ◌≤◌, ◌<◌}
use mathlib.Core.Path.{◌≡◌, sym}
use mathlib.Core.Bool.{Bool, true, false, not, ◌&&◌}
use mathlib.Core.List.{List}
use native.Mathlib.Omega.{arith}
use lib.Dec.{eqb, ltb}
use borrow.Author.Tests.{lt-ltb, le-ltb, eq-eqb, ne_eqb}
use Rattle.rules.specs.Tables.{partner_of, owner_of, is_open, has_session, holder, holder_counts}
use Rattle.rules.specs.Searches.{end_row}
use Rattle.rules.specs.Sessions.{refused_with, established_with, row_of_id, decide_establish}

module _ (cs ls : List ℕ) (time c id : ℕ) (s : Bool) (hs : s ≡ has_session cs c) where
  pub busy : s ≡ true → refused_with 4 ≡ decide_establish cs ls time c id
  unfolding decide_establish
  busy h = rw (← hs, h)

  module _ (free : s ≡ false) (row end : ℕ) (hr : row ≡ row_of_id ls time (partner_of c) id) (he : end ≡ end_row (partner_of c)) where
    pub not_found : end ≤ row → refused_with 1 ≡ decide_establish cs ls time c id
    unfolding decide_establish
    not_found l = rw (← hs, free, ← hr, ← he, le-ltb row end l)

    module _ (l : row < end) (h : ℕ) (hh : h ≡ holder ls row) (k : Bool) (hk : k ≡ eqb (partner_of h) (owner_of row) && is_open cs h) where
      counts : holder_counts cs ls row ≡ k
      unfolding holder_counts
      counts = rw (← hh) (sym hk)

      pub offline : not k ≡ true → refused_with 2 ≡ decide_establish cs ls time c id
      unfolding decide_establish
      offline n = rw (← hs, free, ← hr, ← he, lt-ltb row end l, counts, n)

      module _ (counted : not k ≡ false) where
        pub itself : h ≡ c → refused_with 5 ≡ decide_establish cs ls time c id
        unfolding decide_establish
        itself e = rw (← hs, free, ← hr, ← he, lt-ltb row end l, counts, counted, ← hh, eq-eqb h c e)

        module _ (other : h ≡ c → ⊥) (t : Bool) (ht : t ≡ has_session cs h) where
          pub taken : t ≡ true → refused_with 3 ≡ decide_establish cs ls time c id
          unfolding decide_establish
          taken b = rw (← hs, free, ← hr, ← he, lt-ltb row end l, counts, counted, ← hh, ne_eqb h c other, ← ht, b)

          pub paired : t ≡ false → established_with h ≡ decide_establish cs ls time c id
          unfolding decide_establish
          paired b = rw (← hs, free, ← hr, ← he, lt-ltb row end l, counts, counted, ← hh, ne_eqb h c other, ← ht, b)

-- a status that refuses is 1 to 5
pub status_range : (cs ls : List ℕ) (time c id status : ℕ) → decide_establish cs ls time c id ≡ refused_with status → (1 ≤ status) × (status ≤ 5)
unfolding decide_establish
status_range cs ls time c id status e =
    by (has_session cs c) (ltb r (end_row (partner_of c))) (holder_counts cs ls r) (eqb (holder ls r) c) (has_session cs (holder ls r)) e
  where
    r : ℕ
    r = row_of_id ls time (partner_of c) id

    by : (a b d f g : Bool)
        → (if a then refused_with 4
        else if not b then refused_with 1
        else if not d then refused_with 2
        else if f then refused_with 5
        else if g then refused_with 3
        else established_with (holder ls r))
        ≡ refused_with status → (1 ≤ status) × (status ≤ 5)
    by true b d f g e = let s : ◌≡◌ {A = ℕ} 4 status = cc in (omega arith, omega arith)
    by false false d f g e = let s : ◌≡◌ {A = ℕ} 1 status = cc in (omega arith, omega arith)
    by false true false f g e = let s : ◌≡◌ {A = ℕ} 2 status = cc in (omega arith, omega arith)
    by false true true true g e = let s : ◌≡◌ {A = ℕ} 5 status = cc in (omega arith, omega arith)
    by false true true false true e = let s : ◌≡◌ {A = ℕ} 3 status = cc in (omega arith, omega arith)
    by false true true false false e = let z : ◌≡◌ {A = ℕ} 0 1 = cc in absurd (omega arith)
