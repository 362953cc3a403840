-- The lease decision: a law for each way out, and that the row is one of the partner's. Assumes nothing.
use Rattle.std.specs.Prelude.{Option, Some, None, ok_or, Result, Ok, Err, if◌then◌else◌}
use Prim.Native.Nat.{ℕ, ◌≤◌, ◌<◌}
use mathlib.Core.Path.{◌≡◌, refl, sym, ap, ◌∙◌}
use mathlib.Core.Bool.{Bool, true, false}
use mathlib.Core.List.{List}
use native.Mathlib.Omega.{arith}
use lib.Dec.{ltb}
use borrow.Author.Tests.{lt-ltb, le-ltb}
use Rattle.rules.specs.Sizes.{candidate_count}
use Rattle.rules.specs.Searches.{end_row}
use Rattle.rules.specs.Tables.{partner_of}
use Rattle.rules.specs.Leases.{random_cookie, first_free, holds_row, spare_row, cookie_taken, row_to_renew, renew_or_grant, LeaseDecision, holds_lease, no_spare_row, cookie_in_use, renewed, granted, decide_lease}
use Rattle.rules.proofs.Decisions.{is-renewed, is-granted}
use Rattle.leases.specs.declared.LeaseGrant.{LeaseGrant}
use Rattle.leases.specs.declared.LeaseGrant.TheVariants as grant
use Rattle.leases.specs.declared.LeaseRefusal.{LeaseRefusal}
use Rattle.leases.specs.declared.LeaseRefusal.TheVariants as refusal
use Rattle.leases.specs.Leases.{free_id, meaning}

-- ---- renewed, or new

module _ (cs ls : List ℕ) (now p : ℕ) (cookie : List ℕ) {old end : ℕ} (search : old ≡ row_to_renew cs ls now p cookie) (last : end ≡ end_row p) (row id : ℕ) where
  pub renews : old < end → (random : List ℕ) → renewed old ≡ renew_or_grant cs ls now p cookie row id (random_cookie random)
  unfolding renew_or_grant
  renews l random = rw (← search, ← last, lt-ltb old end l)

  pub grants : end ≤ old → (random : List ℕ) → granted row id (random_cookie random) ≡ renew_or_grant cs ls now p cookie row id (random_cookie random)
  unfolding renew_or_grant
  grants l random = rw (← search, ← last, le-ltb old end l)

-- ---- the four conditions

-- what the search for a free id answers, by its test
some-found : (t : Bool) (x id : ℕ) → Some id ≡ (if t then Some x else None) → (t ≡ true) × (x ≡ id)
some-found true x id e = (refl, cc e)
some-found false x id e = absurd (let w : ◌≡◌ {A = ℕ} 0 1 = cc e in omega arith)

none_found : (t : Bool) (x : ℕ) → None ≡ (if t then Some x else None) → t ≡ false
none_found true x e = absurd (let w : ◌≡◌ {A = ℕ} 0 1 = cc e in omega arith)
none_found false x e = refl

-- held, spare, taken and found are what the code's searches answer, in their order
module _ (cs ls : List ℕ) (now c : ℕ) (random asked : List ℕ) {held : Bool} (holds : held ≡ holds_row ls now c) where
  pub holds_lease_lem : held ≡ true → holds_lease ≡ decide_lease cs ls now c random asked
  unfolding decide_lease
  holds_lease_lem e = rw (← holds, e)

  module _ {p row end : ℕ} (none : held ≡ false) (own : p ≡ partner_of c) (spare : row ≡ spare_row ls now p) (last : end ≡ end_row p) where
    pub no_spare-row : end ≤ row → no_spare_row ≡ decide_lease cs ls now c random asked
    unfolding decide_lease
    no_spare-row full = rw (← holds, none, ← own, ← spare, ← last, le-ltb row end full)

    module _ {cookie : List ℕ} {taken : Bool} (room : row < end) (given : cookie ≡ random_cookie random) (used : taken ≡ cookie_taken ls now p cookie) where
      pub cookie_in_use_lem : taken ≡ true → cookie_in_use ≡ decide_lease cs ls now c random asked
      unfolding decide_lease
      cookie_in_use_lem e = rw (← holds, none, ← own, ← spare, ← last, lt-ltb row end room, ← given, ← used, e)

      module _ {found : Option ℕ} (unused : taken ≡ false) (looked : found ≡ free_id ls now random) where
        pub no_free_id_lem : {e : LeaseRefusal} → found ≡ None → Err e ≡ ok_or found refusal.NoFreeId → meaning (Err e) random ≡ decide_lease cs ls now c random asked
        unfolding decide_lease free_id
        no_free_id_lem {e} n v =
            let full = none_found (ltb (first_free ls now random) candidate_count) _ (sym n ∙ looked) in
            let is : e ≡ refusal.NoFreeId = let w : _ = rw n at v in cc w in
            rw (is, ← holds, none, ← own, ← spare, ← last, lt-ltb row end room, ← given, ← used, unused, full)

        pub renews_or_grants : {id : ℕ} {d : LeaseDecision} → found ≡ Some id → d ≡ renew_or_grant cs ls now p asked row id (random_cookie random)
            → d ≡ decide_lease cs ls now c random asked
        unfolding decide_lease free_id
        renews_or_grants {id} e result =
            let some = some-found (ltb (first_free ls now random) candidate_count) _ id (sym e ∙ looked) in
            result ∙ rw (← holds, none, ← own, ← spare, ← last, lt-ltb row end room, ← given, ← used, unused, some.0, some.1)

-- ---- what a caller knows of the row

module _ (cs ls : List ℕ) (now c : ℕ) (random cookie : List ℕ) {d : Result LeaseGrant LeaseRefusal} {row : ℕ} (is : meaning d random ≡ decide_lease cs ls now c random cookie) where
  pub renewed-row : d ≡ Ok (grant.Renewed row) → row < end_row (partner_of c)
  renewed-row e = (is-renewed ls now c random cs cookie row (sym is ∙ ap (λ (x : Result LeaseGrant LeaseRefusal). meaning x random) e)).own.high

  pub granted-row : {id : ℕ} → d ≡ Ok (grant.New row id) → row < end_row (partner_of c)
  granted-row {id} e =
      (is-granted ls now c random cs cookie row id (random_cookie random) (sym is ∙ ap (λ (x : Result LeaseGrant LeaseRefusal). meaning x random) e)).own.high
