-- A lease is accepted, renewed and extended exactly as 01 and 02 say: the tests of the definitions against their sentences. Assumes nothing.
use Rattle.std.specs.Prelude.{if◌then◌else◌}
use Prim.Native.Nat.{ℕ, zero, suc, ◌≤◌, ◌<◌}
use mathlib.Core.Path.{◌≡◌, refl, sym, ap, ◌∙◌}
use mathlib.Core.Logic.{◌↔◌, ◌≢◌}
use mathlib.Core.Bool.{Bool, true, false, not, ◌&&◌, true≢false, false≢true}
use mathlib.Core.List.{List}
use native.Mathlib.Omega.{arith}
use lib.Dec.{eqb, ltb}
use borrow.Author.Tests.{eq-eqb, ne_eqb, eqb-true, lt-ltb, le-ltb, ltb-true, not-true, not-false}
use Rattle.octets.specs.Octets.{same}
use Rattle.octets.proofs.Tests.{both_left, both_right}
use Rattle.octets.proofs.Equality.{same-eq, same_refl}
use Rattle.rules.specs.Sizes.{rows_per_partner, row_count, candidate_count}
use Rattle.rules.specs.Searches.{first_from, first_row, end_row, first_own, any_own}
use Rattle.rules.specs.Tables.{partner_of, owner_of, has_session, expiry, live, live_with_id, id_of, holder, cookie_of, holder_counts}
use Rattle.rules.specs.Leases.{LeaseDecision, holds_lease, no_spare_row, cookie_in_use, no_free_id, renewed, granted, holds_row, is_earlier, is_earliest, spare_row, cookie_taken, random_cookie, candidate, id_taken, first_free, has_its_id, id_elsewhere, renewable, row_to_renew, renew_or_grant, decide_lease, row_to_extend}
use Rattle.rules.specs.Sessions.{refused_with, row_of_id, decide_establish}
use Rattle.rules.specs.Reasons.{condition_of}
use Rattle.rules.specs.Effects.{HoldsNone, HasSpare, NewCookie, FreeCandidate, LeaseConditions, is_accepted, EarliestSpare, FirstFree, Renewable, LowestRenewable, LowestOwn, Extendable, Statuses}
use Rattle.rules.specs.Explained.{FirstFailing}
use Rattle.rules.proofs.Exactly.{refuted, not-lt, eq-exactly, lt-exactly, not-exactly, false-exactly, and-exactly}
use Rattle.rules.proofs.Searches.{first_passes, first_below, none_passes, all_fail, first_found, first-none, any_found}
use Rattle.rules.proofs.Decisions.{accepted, is-renewed, is-granted, own_row, own-found, own-none, own-passes, own_is}

-- ---- tests, and what they say

differ : (xs ys : List ℕ) → (xs ≡ ys → ⊥) → same xs ys ≡ false
differ xs ys n = go (same xs ys) refl
  where
    go : (t : Bool) → same xs ys ≡ t → t ≡ false
    go true e = absurd (n (same-eq xs ys e))
    go false e = refl

-- no row of the partner passes both tests, exactly where the second fails of each that is live
module _ (ls : List ℕ) (now p : ℕ) (test : ℕ → Bool) where
  none-live : any_own p (λ r. live ls now r && test r) ≡ false → (r : ℕ) → owner_of r ≡ p → live ls now r ≡ true → test r ≡ false
  none-live h r o l = sym (rw l) ∙ none_passes (λ r. live ls now r && test r) (first_row p) rows_per_partner h r (omega arith) (omega arith)

  live-none : ((r : ℕ) → owner_of r ≡ p → live ls now r ≡ true → test r ≡ false) → any_own p (λ r. live ls now r && test r) ≡ false
  live-none f = all_fail (λ r. live ls now r && test r) (first_row p) rows_per_partner (λ r l u. go (live ls now r) refl (f r (omega arith)))
    where
      go : {r : ℕ} (t : Bool) → live ls now r ≡ t → (live ls now r ≡ true → test r ≡ false) → t && test r ≡ false
      go true e f = f e
      go false e f = refl

-- a row that has not the id, where it is live
pub no_id : (ls : List ℕ) (now id r : ℕ) → (live ls now r ≡ true → id_of ls r ≢ id) → live_with_id ls now id r ≡ false
unfolding live_with_id
no_id ls now id r f = go (live ls now r) refl
  where
    go : (t : Bool) → live ls now r ≡ t → t && eqb (id_of ls r) id ≡ false
    go true e = ne_eqb (id_of ls r) id (f e)
    go false e = refl

-- ---- the row of a new lease

module _ (ls : List ℕ) (now p : ℕ) where
  -- "among those not live"
  abbrev Spare : ℕ → Type 0
  Spare k = (owner_of k ≡ p) × (live ls now k ≡ false)

  earlier-exactly : (r k : ℕ) → (is_earlier ls now r k ≡ true) ↔ ((live ls now k ≡ false) × (expiry ls k < expiry ls r))
  unfolding is_earlier
  earlier-exactly r k = and-exactly _ _ (false-exactly (live ls now k)) (lt-exactly (expiry ls k) (expiry ls r))

  none-earlier : (r : ℕ) → (not (any_own p (is_earlier ls now r)) ≡ true) ↔ ((k : ℕ) → Spare k → expiry ls r ≤ expiry ls k)
  none-earlier r = (
    (λ h k s.
        let fails = none_passes (is_earlier ls now r) (first_row p) rows_per_partner (not-true _ h) k (omega (arith, s.0)) (omega (arith, s.0)) in
        not-lt (λ l. true≢false (sym ((earlier-exactly r k).1 (s.1, l)) ∙ fails))),
    (λ f.
        rw
        (all_fail (is_earlier ls now r) (first_row p) rows_per_partner
        (λ k l u.
        refuted (is_earlier ls now r k) (λ e. let q = (earlier-exactly r k).0 e in omega (arith, q.1, f k (omega arith, q.0)))))),
  )

  earliest-exactly : (r : ℕ) → (is_earliest ls now p r ≡ true) ↔ ((live ls now r ≡ false) × ((k : ℕ) → Spare k → expiry ls r ≤ expiry ls k))
  unfolding is_earliest
  earliest-exactly r = and-exactly _ _ (false-exactly (live ls now r)) (none-earlier r)

  -- Of rows that are not live one is the earliest: from any of them, earlier and earlier ones are at most as many as its expiry.
  abbrev Earliest : Type 0
  Earliest = (k : ℕ) × (owner_of k ≡ p) × (is_earliest ls now p k ≡ true)

  some-earliest : (n r : ℕ) → expiry ls r < n → Spare r → Earliest
  unfolding is_earliest
  some-earliest zero r less s = absurd (omega arith)
  some-earliest (suc n) r less s = go (any_own p (is_earlier ls now r)) refl (some-earliest n)
    where
      go : (t : Bool) → any_own p (is_earlier ls now r) ≡ t → ((k : ℕ) → expiry ls k < n → Spare k → Earliest) → Earliest
      go false e ih = (r, s.0, rw (s.1, e))
      go true e ih =
          let k = any_found (is_earlier ls now r) (first_row p) rows_per_partner e in
          let q = (earlier-exactly r k.0).0 k.3 in
          ih k.0 (omega (arith, q.1)) (omega (arith, k.1, k.2), q.0)

  -- The row by what it is: not live, no row that isn't live is earlier, and a lower one is later.
  pub spare-is : (r : ℕ) → Spare r → ((k : ℕ) → Spare k → expiry ls r ≤ expiry ls k) → ((k : ℕ) → Spare k → k < r → expiry ls r < expiry ls k)
      → spare_row ls now p ≡ r
  unfolding spare_row
  spare-is r s least lower =
      own_is p (is_earliest ls now p) r s.0 ((earliest-exactly r).1 (s.1, least))
      (λ k o below.
      refuted (is_earliest ls now p k) (λ e. let q = (earliest-exactly k).0 e in omega (arith, q.1 r s, lower k (o, q.0) below)))

  pub spare-none : ((k : ℕ) → owner_of k ≡ p → live ls now k ≡ true) → spare_row ls now p ≡ end_row p
  unfolding spare_row
  spare-none all =
      first-none (is_earliest ls now p) (first_row p) rows_per_partner
      (λ k l u. refuted (is_earliest ls now p k) (λ e. true≢false (sym (all k (omega arith)) ∙ ((earliest-exactly k).0 e).0)))

  pub earliest-spare : (c : ℕ) → p ≡ partner_of c → spare_row ls now p < end_row p → EarliestSpare ls now c (spare_row ls now p)
  unfolding spare_row
  earliest-spare c e l =
      let row = first_own p (is_earliest ls now p) in
      let is = (earliest-exactly row).0 (own-passes p (is_earliest ls now p) l) in
      record {
        own = (own_row p (is_earliest ls now p) l).owner ∙ e;
        spare = is.0;
        earliest = λ k o s. is.1 k (o ∙ sym e, s);
        lowest = λ k o s q.
            let passes = (earliest-exactly k).1 (s, λ j i. rw q (is.1 j i)) in
            not-lt
            (λ below.
            true≢false (sym passes ∙ first_below (is_earliest ls now p) (first_row p) rows_per_partner k (omega (arith, o, e)) below));
      }

-- ---- a row that is renewable

its_id_exactly : (ls : List ℕ) (now r k : ℕ)
    → (has_its_id ls now r k ≡ true) ↔ ((k ≢ r) × ((live ls now k ≡ true) × (id_of ls k ≡ id_of ls r)))
unfolding has_its_id live_with_id
its_id_exactly ls now r k =
    and-exactly _ _ (not-exactly _ (eq-exactly k r)) (and-exactly _ _ ((λ h. h), (λ h. h)) (eq-exactly (id_of ls k) (id_of ls r)))

-- "an id that no other live row has"
alone_exactly : (ls : List ℕ) (now r : ℕ)
    → (not (id_elsewhere ls now r) ≡ true) ↔ ((k : ℕ) → k < row_count → k ≢ r → live ls now k ≡ true → id_of ls k ≢ id_of ls r)
unfolding id_elsewhere
alone_exactly ls now r = (
  (λ h k k< n l e.
      true≢false
      (sym ((its_id_exactly ls now r k).1 (n, (l, e))) ∙ none_passes (has_its_id ls now r) 0 row_count (not-true _ h) k (omega arith) k<)),
  (λ f.
      rw (all_fail (has_its_id ls now r) 0 row_count
      (λ k l u. refuted (has_its_id ls now r k) (λ e. let q = (its_id_exactly ls now r k).0 e in f k u q.0 q.1.0 q.1.1)))),
)

pub renewable-exactly : (cs ls : List ℕ) (now : ℕ) (cookie : List ℕ) (r : ℕ)
    → (renewable cs ls now cookie r ≡ true) ↔ Renewable cs ls now cookie r
unfolding renewable
renewable-exactly cs ls now cookie r =
    let e = and-exactly _ _ has-cookie (and-exactly _ _ (lt-exactly 0 (expiry ls r)) (and-exactly _ _ held (alone_exactly ls now r))) in (
      (λ h. let q = e.0 h in record { cookie_is = q.0; used = q.1.0; not_held = q.1.1.0; id_alone = q.1.1.1 }),
      (λ q. e.1 (q.cookie_is, (q.used, (q.not_held, q.id_alone)))),
    )
  where
    has-cookie : (same (cookie_of ls r) cookie ≡ true) ↔ (cookie_of ls r ≡ cookie)
    has-cookie = (same-eq (cookie_of ls r) cookie, (λ e. rw e (same_refl cookie)))

    held : (not (live ls now r && holder_counts cs ls r) ≡ true) ↔ (live ls now r ≡ true → holder_counts cs ls r ≡ false)
    held = implies (live ls now r) (holder_counts cs ls r)
      where
        implies : (t u : Bool) → (not (t && u) ≡ true) ↔ (t ≡ true → u ≡ false)
        implies true true = ((λ h. absurd (false≢true h)), (λ f. absurd (true≢false (f refl))))
        implies true false = ((λ h e. refl), (λ f. refl))
        implies false u = ((λ h e. absurd (false≢true e)), (λ f. refl))

-- ---- Lease: the four conditions

module _ (ls : List ℕ) (now c : ℕ) (random : List ℕ) where
  abbrev p : ℕ
  p = partner_of c

  -- each condition as a test
  holds_exactly : (not (holds_row ls now c) ≡ true) ↔ HoldsNone ls now c
  unfolding holds_row
  holds_exactly =
      let held : ℕ → Bool = λ r. eqb (holder ls r) c in (
        (λ h r o l e. false≢true (sym (none-live ls now p held (not-true _ h) r o l) ∙ eq-eqb (holder ls r) c e)),
        (λ f. rw (live-none ls now p held (λ r o l. ne_eqb (holder ls r) c (f r o l)))),
      )

  spare-exactly : (ltb (spare_row ls now p) (end_row p) ≡ true) ↔ HasSpare ls now c
  unfolding spare_row
  spare-exactly = (
    (λ h.
        let row = earliest-spare ls now p c refl (ltb-true _ (end_row p) h) in
        (first_own p (is_earliest ls now p), row.own, row.spare)),
    (λ q.
        let k = some-earliest ls now p (suc (expiry ls q.0)) q.0 (omega arith) (q.1, q.2) in
        own-found p (is_earliest ls now p) k.0 k.1 k.2),
  )

  cookie-exactly : (not (cookie_taken ls now p (random_cookie random)) ≡ true) ↔ NewCookie ls now c random
  unfolding cookie_taken
  cookie-exactly =
      let has : ℕ → Bool = λ r. same (cookie_of ls r) (random_cookie random) in (
        (λ h r o l e. false≢true (sym (none-live ls now p has (not-true _ h) r o l) ∙ rw e (same_refl (random_cookie random)))),
        (λ f. rw (live-none ls now p has (λ r o l. differ (cookie_of ls r) (random_cookie random) (f r o l)))),
      )

  free-exactly : (ltb (first_free ls now random) candidate_count ≡ true) ↔ FreeCandidate ls now random
  unfolding first_free id_taken live_with_id candidate
  free-exactly =
      let free : ℕ → Bool = λ k. not (id_taken ls now (candidate random k)) in
      let k = first_from free 0 candidate_count in (
        (λ h.
            let l = ltb-true k candidate_count h in
            let none = none_passes (live_with_id ls now (candidate random k)) 0 row_count (not-true _ (first_passes free 0 candidate_count l)) in
            (k, l, λ r r< live e. false≢true (sym (none r (omega arith) r<) ∙ rw live (eq-eqb (id_of ls r) (candidate random k) e)))),
        (λ q.
            let id = candidate random q.0 in
            let none : id_taken ls now id ≡ false = all_fail (live_with_id ls now id) 0 row_count (λ r l u. no_id ls now id r (q.2 r u)) in
            let found = first_found free 0 candidate_count q.0 (omega arith) q.1 (rw none) in
            lt-ltb k candidate_count (omega (arith, q.1))),
      )

  all-exactly : (not (holds_row ls now c)
      && (ltb (spare_row ls now p) (end_row p)
      && (not (cookie_taken ls now p (random_cookie random)) && ltb (first_free ls now random) candidate_count))
      ≡ true)
      ↔ LeaseConditions ls now c random
  all-exactly =
      let e = and-exactly _ _ holds_exactly (and-exactly _ _ spare-exactly (and-exactly _ _ cookie-exactly free-exactly)) in (
        (λ h. let q = e.0 h in record { holds_none = q.0; spare = q.1.0; new_cookie = q.1.1.0; free = q.1.1.1 }),
        (λ q. e.1 (q.holds_none, (q.spare, (q.new_cookie, q.free)))),
      )

  -- ---- what is decided: of any connections and any cookie in the request

  module _ (cs cookie : List ℕ) where
    abbrev decision : LeaseDecision
    decision = decide_lease cs ls now c random cookie

    abbrev decide : Bool → Bool → Bool → Bool → LeaseDecision → LeaseDecision
    decide holds spare taken free last =
        if holds then holds_lease
        else if not spare then no_spare_row
        else if taken then cookie_in_use
        else if not free then no_free_id
        else last

    -- by the four tests
    record ByTests (none spare new free : Bool) (last d : LeaseDecision) : Type 0 where
      one : eqb (condition_of d) 1 ≡ not none
      two : eqb (condition_of d) 2 ≡ none && not spare
      three : eqb (condition_of d) 3 ≡ none && (spare && not new)
      four : eqb (condition_of d) 4 ≡ none && (spare && (new && not free))
      all : eqb (condition_of d) 0 ≡ none && (spare && (new && free))
      accepts : is_accepted d ≡ none && (spare && (new && free))
      then_last : none && (spare && (new && free)) ≡ true → d ≡ last

    not_yet : {A : Type 0} → false ≡ true → A
    not_yet h = absurd (false≢true h)

    by_tests : (holds spare taken free : Bool) (last : LeaseDecision) → condition_of last ≡ 0 → is_accepted last ≡ true
        → ByTests (not holds) spare (not taken) free last (decide holds spare taken free last)
    by_tests true spare taken free last z y = record { one = refl; two = refl; three = refl; four = refl; all = refl; accepts = refl; then_last = not_yet }
    by_tests false false taken free last z y = record { one = refl; two = refl; three = refl; four = refl; all = refl; accepts = refl; then_last = not_yet }
    by_tests false true true free last z y = record { one = refl; two = refl; three = refl; four = refl; all = refl; accepts = refl; then_last = not_yet }
    by_tests false true false false last z y = record { one = refl; two = refl; three = refl; four = refl; all = refl; accepts = refl; then_last = not_yet }
    by_tests false true false true last z y =
        record { one = rw z; two = rw z; three = rw z; four = rw z; all = rw z; accepts = y; then_last = λ h. refl }

    abbrev Accepts : LeaseDecision → Type 0
    Accepts d = (condition_of d ≡ 0) × (is_accepted d ≡ true)

    last_accepts : Accepts (accepted ls now c random cs cookie)
    unfolding renew_or_grant
    last_accepts = go (ltb (row_to_renew cs ls now p cookie) (end_row p)) _ _ (refl, refl) (refl, refl)
      where
        go : (t : Bool) (x y : LeaseDecision) → Accepts x → Accepts y → Accepts (if t then x else y)
        go true x y f g = f
        go false x y f g = g

    tested : ByTests (not (holds_row ls now c)) (ltb (spare_row ls now p) (end_row p)) (not (cookie_taken ls now p (random_cookie random)))
        (ltb (first_free ls now random) candidate_count)
        (accepted ls now c random cs cookie)
        decision
    unfolding decide_lease
    tested = by_tests (holds_row ls now c) _ (cookie_taken ls now p (random_cookie random)) _ _ last_accepts.0 last_accepts.1

    -- Accepted as 01 says, "cookie or not".
    pub lease-exactly : (is_accepted decision ≡ true) ↔ LeaseConditions ls now c random
    lease-exactly = rw tested.accepts all-exactly

    -- "which of the four lease conditions failed first in 01's order, or that all held"
    pub first_failing : FirstFailing ls now c random (condition_of decision)
    first_failing = record {
      one = by_number 1 tested.one (not-exactly _ holds_exactly);
      two = by_number 2 tested.two (and-exactly _ _ holds_exactly (not-exactly _ spare-exactly));
      three = by_number 3 tested.three (and-exactly _ _ holds_exactly (and-exactly _ _ spare-exactly (not-exactly _ cookie-exactly)));
      four =
          by_number 4 tested.four
          (and-exactly _ _ holds_exactly (and-exactly _ _ spare-exactly (and-exactly _ _ cookie-exactly (not-exactly _ free-exactly))));
      all = by_number 0 tested.all all-exactly;
    }
      where
        by_number : {A : Type 0} {t : Bool} (k : ℕ) → eqb (condition_of decision) k ≡ t → (t ≡ true) ↔ A → (condition_of decision ≡ k) ↔ A
        by_number k e f =
            let number = eq-exactly (condition_of decision) k in
            ((λ h. f.0 (sym e ∙ number.1 h)), (λ a. number.0 (e ∙ f.1 a)))

    -- What is granted: the first free candidate, in the earliest row that isn't live.
    pub first-free : (row id : ℕ) (drawn : List ℕ) → decision ≡ granted row id drawn → FirstFree ls now c random row id drawn
    unfolding first_free id_taken live_with_id candidate
    first-free row id drawn e =
        let g = is-granted ls now c random cs cookie row id drawn e in
        let free_test : ℕ → Bool = λ k. not (id_taken ls now (candidate random k)) in
        record {
          row_is = rw g.row_is (earliest-spare ls now p c refl (rw (← g.row_is) g.own.high));
          place = first_from free_test 0 candidate_count;
          in_fourteen = g.found;
          id_is = g.id_is;
          free = λ r r< l h.
              false≢true
              (sym (none_passes (live_with_id ls now id) 0 row_count g.id_free r (omega arith) r<)
              ∙ rw l (eq-eqb (id_of ls r) id h));
          earlier_taken = λ j l f.
              false≢true
              (sym (all_fail (live_with_id ls now (candidate random j)) 0 row_count (λ r a b. no_id ls now (candidate random j) r (f r b)))
              ∙ not-false _ (first_below free_test 0 candidate_count j (omega arith) l));
          cookie_is = g.cookie_is;
        }

    -- ---- renewed, or new

    abbrev row_test : ℕ → Bool
    row_test = renewable cs ls now cookie

    not-renewable : (k : ℕ) → (Renewable cs ls now cookie k → ⊥) → row_test k ≡ false
    not-renewable k n = not-true _ ((not-exactly _ (renewable-exactly cs ls now cookie k)).1 n)

    -- what the search finds
    lowest-renewable : ltb (row_to_renew cs ls now p cookie) (end_row p) ≡ true
        → LowestRenewable cs ls now c cookie (row_to_renew cs ls now p cookie)
    unfolding row_to_renew
    lowest-renewable h =
        let l = ltb-true (first_own p row_test) (end_row p) h in
        record {
          own = (own_row p row_test l).owner;
          renewable = (renewable-exactly cs ls now cookie _).0 (own-passes p row_test l);
          lower_not = λ k o below q.
              true≢false
              (sym ((renewable-exactly cs ls now cookie k).1 q) ∙ first_below row_test (first_row p) rows_per_partner k (omega arith) below);
        }

    -- "If accepted, and a row of the partner has that cookie, .., the lowest such row is renewed"
    pub renewed-exactly : (row : ℕ) → (decision ≡ renewed row) ↔ (LeaseConditions ls now c random × LowestRenewable cs ls now c cookie row)
    unfolding renew_or_grant row_to_renew
    renewed-exactly row = (
      (λ e.
          let is = is-renewed ls now c random cs cookie row e in
          let found = lt-ltb (row_to_renew cs ls now p cookie) (end_row p) (rw (← is.row_is) is.own.high) in
          (lease-exactly.0 (ap is_accepted e), rw is.row_is (lowest-renewable found))),
      (λ q.
          let lowest = q.1 in
          let passes = (renewable-exactly cs ls now cookie row).1 lowest.renewable in
          let found = own-found p row_test row lowest.own passes in
          let row_is = own_is p row_test row lowest.own passes (λ k o l. not-renewable k (lowest.lower_not k o l)) in
          tested.then_last (all-exactly.1 q.0) ∙ rw found (ap renewed row_is)),
    )

    -- and else a new lease is granted
    pub granted-exactly : ((row : ℕ) × (id : ℕ) × (drawn : List ℕ) × (decision ≡ granted row id drawn))
        ↔ (LeaseConditions ls now c random × ((r : ℕ) → owner_of r ≡ partner_of c → Renewable cs ls now cookie r → ⊥))
    unfolding renew_or_grant row_to_renew
    granted-exactly = (
      (λ g. (
        lease-exactly.0 (ap is_accepted g.3),
        (λ r o q.
            let found = own-found p row_test r o ((renewable-exactly cs ls now cookie r).1 q) in
            clash (sym ((renewed-exactly _).1 (lease-exactly.0 (ap is_accepted g.3), lowest-renewable found)) ∙ g.3)),
      )),
      (λ q.
          let none = own-none p row_test (λ r o. not-renewable r (q.1 r o)) in (
            spare_row ls now p,
            candidate random (first_free ls now random),
            random_cookie random,
            tested.then_last (all-exactly.1 q.0) ∙ rw none,
          )),
    )
      where
        clash : {row spare id : ℕ} {drawn : List ℕ} → renewed row ≡ granted spare id drawn → ⊥
        clash z = let w : ◌≡◌ {A = ℕ} 0 1 = cc z in omega arith

-- ---- Extension

module _ (ls : List ℕ) (now c : ℕ) (cookie : List ℕ) where
  abbrev extends : ℕ → Bool
  extends r = live ls now r && eqb (holder ls r) c && same (cookie_of ls r) cookie

  pub extension-exactly : (ltb (row_to_extend ls now c cookie) (end_row (partner_of c)) ≡ true) ↔ Extendable ls now c cookie
  unfolding row_to_extend
  extension-exactly = (
    (λ e.
        let l = ltb-true (first_own (partner_of c) extends) (end_row (partner_of c)) e in
        let r = first_own (partner_of c) extends in
        let all = own-passes (partner_of c) extends l in
        let two = both_left (live ls now r && eqb (holder ls r) c) (same (cookie_of ls r) cookie) all in (
          r,
          (own_row (partner_of c) extends l).owner,
          both_left (live ls now r) (eqb (holder ls r) c) two,
          eqb-true (holder ls r) c (both_right (live ls now r) (eqb (holder ls r) c) two),
          same-eq (cookie_of ls r) cookie (both_right (live ls now r && eqb (holder ls r) c) (same (cookie_of ls r) cookie) all),
        )),
    (λ q. own-found (partner_of c) extends q.0 q.1 (rw (q.2, eq-eqb (holder ls q.0) c q.3, q.4) (same_refl cookie))),
  )

-- ---- the lowest such row

lowest-own : (p : ℕ) (f : ℕ → Bool) → LowestOwn p f (first_own p f)
lowest-own p f = record {
  passes = λ l. ((own_row p f l).owner, own-passes p f l);
  lower_fail = λ k o l. first_below f (first_row p) rows_per_partner k (omega arith) l;
}

pub row_to_extend_lowest : (ls : List ℕ) (now c : ℕ) (cookie : List ℕ)
    → LowestOwn (partner_of c) (λ r. live ls now r && eqb (holder ls r) c && same (cookie_of ls r) cookie) (row_to_extend ls now c cookie)
unfolding row_to_extend
row_to_extend_lowest ls now c cookie = lowest-own (partner_of c) (extends ls now c cookie)

pub row-of_id_lowest : (ls : List ℕ) (now p id : ℕ) → LowestOwn p (λ r. live ls now r && eqb (id_of ls r) id) (row_of_id ls now p id)
unfolding row_of_id live_with_id
row-of_id_lowest ls now p id = lowest-own p (live_with_id ls now id)

-- ---- Establish: the statuses, in their order

pub statuses : (cs ls : List ℕ) (now c id : ℕ) → Statuses cs ls c (row_of_id ls now (partner_of c) id) (decide_establish cs ls now c id)
unfolding decide_establish
statuses cs ls now c id =
    let r = row_of_id ls now (partner_of c) id in
    let e = end_row (partner_of c) in
    record {
      four = λ s. rw s;
      one = λ s l. rw (s, le-ltb r e l);
      two = λ s l h. rw (s, lt-ltb r e l, h);
      five = λ s l h o. rw (s, lt-ltb r e l, h, eq-eqb (holder ls r) c o);
      three = λ s l h o t. rw (s, lt-ltb r e l, h, ne_eqb (holder ls r) c o, t);
      zero = λ s l h o t. rw (s, lt-ltb r e l, h, ne_eqb (holder ls r) c o, t);
    }

-- ---- Establish: an id that no live row of the partner has

pub id_under_another : (cs ls : List ℕ) (now c id : ℕ) → has_session cs c ≡ false
    → ((r : ℕ) → owner_of r ≡ partner_of c → live ls now r ≡ true → id_of ls r ≢ id) → decide_establish cs ls now c id ≡ refused_with 1
unfolding decide_establish row_of_id
id_under_another cs ls now c id free none =
    rw (free, own-none (partner_of c) (live_with_id ls now id) (λ r o. no_id ls now id r (none r o)))
