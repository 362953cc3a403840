-- What a decision says: a lease that is renewed or granted, an extension's row, a session that is established. Assumes nothing.
use Rattle.std.specs.Prelude.{if◌then◌else◌}
use Prim.Native.Nat.{ℕ, ◌≤◌, ◌<◌}
use mathlib.Core.Path.{◌≡◌, refl, sym, ap, ◌∙◌}
use mathlib.Core.Logic.{◌≢◌}
use mathlib.Core.Bool.{Bool, true, false, not, ◌&&◌, true≢false}
use mathlib.Core.List.{List}
use native.Mathlib.Nat.{mod-lt}
use native.Mathlib.Omega.{arith}
use lib.Dec.{eqb, ltb, lit<}
use borrow.Author.Tests.{lt-ltb, le-ltb, ltb-true, eqb-true, eqb-false, not-true, not-false}
use Rattle.octets.specs.Octets.{same}
use Rattle.octets.proofs.Tests.{both_left, both_right}
use Rattle.rules.specs.Sizes.{rows_per_partner, candidate_count, id_limit}
use Rattle.rules.specs.Searches.{first_from, first_row, end_row, first_own}
use Rattle.rules.specs.Tables.{partner_of, owner_of, is_open, has_session, live, live_with_id, holder, cookie_of, holder_counts}
use Rattle.rules.specs.Leases.{LeaseDecision, holds_lease, no_spare_row, cookie_in_use, no_free_id, renewed, granted, holds_row, is_earliest, spare_row, cookie_taken, random_cookie, candidate, id_taken, first_free, renewable, row_to_renew, renew_or_grant, decide_lease, row_to_extend}
use Rattle.rules.specs.Sessions.{refused_with, established_with, row_of_id, decide_establish}
use Rattle.rules.specs.Effects.{is_accepted}
use Rattle.rules.proofs.Searches.{first_low, first_passes, first_found, first-none, first-is}

-- Past a test that would give another answer.
past : {A : Type 0} (t : Bool) {x y z : A} → (if t then x else y) ≡ z → (x ≡ z → ⊥) → (t ≡ false) × (y ≡ z)
past true e n = absurd (n e)
past false e n = (refl, e)

-- A row of partner p that a search found.
pub record Own (p r : ℕ) : Type 0 where
  pub low : first_row p ≤ r
  pub high : r < end_row p
  pub owner : owner_of r ≡ p

pub own_row : (p : ℕ) (f : ℕ → Bool) → first_own p f < end_row p → Own p (first_own p f)
own_row p f h =
    let l = first_low f (first_row p) rows_per_partner in
    record { low = l; high = h; owner = omega arith }

-- A row of the partner that passes is not missed, and where none passes the search ends behind its rows.
pub own-found : (p : ℕ) (f : ℕ → Bool) (r : ℕ) → owner_of r ≡ p → f r ≡ true → ltb (first_own p f) (end_row p) ≡ true
own-found p f r o h =
    let found = first_found f (first_row p) rows_per_partner r (omega arith) (omega arith) h in
    lt-ltb (first_own p f) (end_row p) (omega arith)

pub own-none : (p : ℕ) (f : ℕ → Bool) → ((r : ℕ) → owner_of r ≡ p → f r ≡ false) → ltb (first_own p f) (end_row p) ≡ false
own-none p f h =
    let none = first-none f (first_row p) rows_per_partner (λ r l u. h r (omega arith)) in
    le-ltb (first_own p f) (end_row p) (omega arith)

pub own-passes : (p : ℕ) (f : ℕ → Bool) → first_own p f < end_row p → f (first_own p f) ≡ true
own-passes p f h = first_passes f (first_row p) rows_per_partner h

pub own_is : (p : ℕ) (f : ℕ → Bool) (r : ℕ) → owner_of r ≡ p → f r ≡ true → ((k : ℕ) → owner_of k ≡ p → k < r → f k ≡ false)
    → first_own p f ≡ r
own_is p f r o h below =
    first-is f (first_row p) rows_per_partner r (omega arith) (omega arith) h (λ k l u. below k (omega arith) u)

-- ---- Lease

-- the row that is renewed
pub record Renewed (cs ls : List ℕ) (now c : ℕ) (cookie : List ℕ) (row : ℕ) : Type 0 where
  pub own : Own (partner_of c) row
  pub row_is : row ≡ row_to_renew cs ls now (partner_of c) cookie
  pub passes : renewable cs ls now cookie row ≡ true

-- what a new lease gets
pub record Granted (ls : List ℕ) (now c : ℕ) (random : List ℕ) (row id : ℕ) (cookie : List ℕ) : Type 0 where
  pub own : Own (partner_of c) row
  pub row_is : row ≡ spare_row ls now (partner_of c)
  pub id_is : id ≡ candidate random (first_free ls now random)
  pub found : first_free ls now random < candidate_count
  pub id_free : id_taken ls now id ≡ false
  pub id_small : id < id_limit
  pub cookie_is : cookie ≡ random_cookie random

module _ (ls : List ℕ) (now c : ℕ) (random : List ℕ) where
  found-spare : ltb (spare_row ls now (partner_of c)) (end_row (partner_of c)) ≡ true
      → Own (partner_of c) (spare_row ls now (partner_of c))
  unfolding spare_row
  found-spare h = own_row (partner_of c) (is_earliest ls now (partner_of c)) (ltb-true _ (end_row (partner_of c)) h)

  found_id_lem : ltb (first_free ls now random) candidate_count ≡ true → id_taken ls now (candidate random (first_free ls now random)) ≡ false
  unfolding first_free
  found_id_lem h =
      let f : ℕ → Bool = λ k. not (id_taken ls now (candidate random k)) in
      let l = ltb-true (first_from f 0 candidate_count) candidate_count h in
      not-true _ (first_passes f 0 candidate_count (omega arith))

  candidate_small : (k : ℕ) → candidate random k < id_limit
  unfolding candidate
  candidate_small k = mod-lt _ (lit< tt)

  module _ (cs cookie : List ℕ) where
    -- the last step, where all conditions hold
    abbrev pub accepted : LeaseDecision
    accepted =
        renew_or_grant cs ls now (partner_of c) cookie (spare_row ls now (partner_of c)) (candidate random (first_free ls now random)) (random_cookie random)

    -- what an accepted request has passed
    record Accepting (d : LeaseDecision) : Type 0 where
      spare : ltb (spare_row ls now (partner_of c)) (end_row (partner_of c)) ≡ true
      free : ltb (first_free ls now random) candidate_count ≡ true
      last : accepted ≡ d

    accepting : (d : LeaseDecision) → is_accepted d ≡ true → decide_lease cs ls now c random cookie ≡ d → Accepting d
    unfolding decide_lease
    accepting d y e =
        let held = past (holds_row ls now c) e (other holds_lease refl) in
        let spare = past (not (ltb (spare_row ls now (partner_of c)) (end_row (partner_of c)))) held.1 (other no_spare_row refl) in
        let taken = past (cookie_taken ls now (partner_of c) (random_cookie random)) spare.1 (other cookie_in_use refl) in
        let free = past (not (ltb (first_free ls now random) candidate_count)) taken.1 (other no_free_id refl) in
        record { spare = not-false _ spare.0; free = not-false _ free.0; last = free.1 }
      where
        other : (x : LeaseDecision) → is_accepted x ≡ false → x ≡ d → ⊥
        other x n z = true≢false (sym y ∙ sym (ap is_accepted z) ∙ n)

    -- the end of the partner's rows, if none is renewable
    abbrev renewing : ℕ
    renewing = row_to_renew cs ls now (partner_of c) cookie

    pub is-renewed : (row : ℕ) → decide_lease cs ls now c random cookie ≡ renewed row → Renewed cs ls now c cookie row
    unfolding renew_or_grant row_to_renew
    is-renewed row e = go (ltb renewing (end_row (partner_of c))) refl (accepting (renewed row) refl e).last
      where
        go : (t : Bool) → ltb renewing (end_row (partner_of c)) ≡ t
            → (if t then renewed renewing
            else granted (spare_row ls now (partner_of c)) (candidate random (first_free ls now random)) (random_cookie random))
            ≡ renewed row
            → Renewed cs ls now c cookie row
        go true h z =
            let row_is : renewing ≡ row = cc z in
            let f : ℕ → Bool = renewable cs ls now cookie in
            let l = ltb-true (first_own (partner_of c) f) (end_row (partner_of c)) h in
            rw (← row_is) (record { own = own_row (partner_of c) f l; row_is = refl; passes = own-passes (partner_of c) f l })
        go false h z = absurd (let w : ◌≡◌ {A = ℕ} 0 1 = cc z in omega arith)

    pub is-granted : (row id : ℕ) (drawn : List ℕ) → decide_lease cs ls now c random cookie ≡ granted row id drawn
        → Granted ls now c random row id drawn
    unfolding renew_or_grant
    is-granted row id drawn e =
        let a = accepting (granted row id drawn) refl e in
        let new = (past (ltb renewing (end_row (partner_of c))) a.last other).1 in
        let row_is : spare_row ls now (partner_of c) ≡ row = cc new in
        let id_is : candidate random (first_free ls now random) ≡ id = cc new in
        let cookie_is : random_cookie random ≡ drawn = cc new in
        record {
          own = rw (← row_is) (found-spare a.spare);
          row_is = sym row_is;
          id_is = sym id_is;
          found = ltb-true (first_free ls now random) candidate_count a.free;
          id_free = rw (← id_is) (found_id_lem a.free);
          id_small = rw (← id_is) (candidate_small (first_free ls now random));
          cookie_is = sym cookie_is;
        }
      where
        other : renewed renewing ≡ granted row id drawn → ⊥
        other z = let w : ◌≡◌ {A = ℕ} 0 1 = cc z in omega arith

-- ---- Extension

-- the row that is extended is live
pub is_extended : (ls : List ℕ) (now c : ℕ) (cookie : List ℕ) → ltb (row_to_extend ls now c cookie) (end_row (partner_of c)) ≡ true
    → Own (partner_of c) (row_to_extend ls now c cookie) × (live ls now (row_to_extend ls now c cookie) ≡ true)
unfolding row_to_extend
is_extended ls now c cookie h =
    let f : ℕ → Bool = λ r. live ls now r && eqb (holder ls r) c && same (cookie_of ls r) cookie in
    let l = ltb-true (first_own (partner_of c) f) (end_row (partner_of c)) h in
    (own_row (partner_of c) f l, both_left _ _ (both_left _ _ (own-passes (partner_of c) f l)))

-- ---- Establish

pub record Holding (cs : List ℕ) (c h : ℕ) : Type 0 where
  pub of_one : partner_of h ≡ partner_of c
  pub opened : is_open cs h ≡ true
  pub differ : c ≢ h

module _ (cs ls : List ℕ) (now c id : ℕ) where
  row : ℕ
  row = row_of_id ls now (partner_of c) id

  own_id : ltb row (end_row (partner_of c)) ≡ true → owner_of row ≡ partner_of c
  unfolding row row_of_id
  own_id h = (own_row (partner_of c) (live_with_id ls now id) (ltb-true _ (end_row (partner_of c)) h)).owner

  counting : holder_counts cs ls row ≡ true → (partner_of (holder ls row) ≡ owner_of row) × (is_open cs (holder ls row) ≡ true)
  unfolding holder_counts
  counting h =
      let mine = eqb (partner_of (holder ls row)) (owner_of row) in
      (eqb-true _ _ (both_left mine _ h), both_right mine _ h)

  pub is_established : (h : ℕ) → decide_establish cs ls now c id ≡ established_with h → Holding cs c h
  unfolding decide_establish row
  is_established h e =
      let a = past (has_session cs c) e (λ z. other _ z) in
      let b = past (not (ltb row (end_row (partner_of c)))) a.1 (λ z. other _ z) in
      let d = past (not (holder_counts cs ls row)) b.1 (λ z. other _ z) in
      let f = past (eqb (holder ls row) c) d.1 (λ z. other _ z) in
      let g = past (has_session cs (holder ls row)) f.1 (λ z. other _ z) in
      let h_is : holder ls row ≡ h = cc g.1 in
      let counts = counting (not-false _ d.0) in
      record {
        of_one = rw (← h_is) (counts.0 ∙ own_id (not-false _ b.0));
        opened = rw (← h_is) counts.1;
        differ = λ s. eqb-false (holder ls row) c f.0 (h_is ∙ sym s);
      }
    where
      other : (n : ℕ) → refused_with n ≡ established_with h → ⊥
      other n z = let w : ◌≡◌ {A = ℕ} 0 1 = cc in omega arith
