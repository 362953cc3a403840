-- Two tables that differ in some partners' records alone: what is read for the others is the same, and what is written for them stays so.
-- Assumes nothing.
use Rattle.std.specs.Prelude.{if◌then◌else◌}
use Prim.Native.Nat.{ℕ, zero, suc, ◌+◌, ◌/◌, ◌≤◌, ◌<◌}
use mathlib.Core.Path.{◌≡◌, refl, sym, ap, ◌∙◌, subst}
use mathlib.Core.Bool.{Bool, true, false, not, ◌&&◌}
use mathlib.Core.List.{List, [], ◌∷◌}
use native.Mathlib.Omega.{arith}
use lib.Dec.{eqb, leb, ltb}
use borrow.Author.Tests.{ltb-true, eqb-true, not-false}
use Rattle.octets.proofs.Tests.{both_left}
use Rattle.rules.specs.Sizes.{rows_per_partner, candidate_count, lease_bytes, time_bytes, nobody}
use Rattle.rules.specs.Searches.{first_from, any_from, first_row, end_row, first_own, any_own}
use Rattle.rules.specs.Tables.{partner_of, owner_of, connection_at, peer_at, unanswered_at, last_sent_at, keepalive_at, keys_at, lease_at, id_at, holder_at, cookie_at, opened, closed, state, peer, in_session, has_session, is_unanswered, last_sent, keepalive_sent, expiry, id_of, holder, cookie_of, live, live_with_id, holder_counts}
use Rattle.rules.specs.Leases.{random_cookie, candidate, id_taken, first_free, holds_row, is_earlier, is_earliest, spare_row, cookie_taken, id_elsewhere, renewable, row_to_renew, renew_or_grant, decide_lease, row_to_extend, release_from}
use Rattle.rules.specs.Sessions.{row_of_id, decide_establish}
use Rattle.rules.specs.Keepalives.{is_dead, is_due}
use Rattle.rules.specs.Bytes.{SameAt}
use Rattle.rules.proofs.Searches.{first_turn, any_turn}
use Rattle.rules.proofs.Same.{same-part, same_number, same-put}
use Rattle.rules.proofs.Decisions.{own_row}

-- ---- searches by tests that agree

-- two choices by tests that agree; each way is compared only where it is taken
pub if_same : {A : Type 0} (x y : Bool) {a b c d : A} → x ≡ y → (x ≡ true → a ≡ b) → (x ≡ false → c ≡ d)
    → (if x then a else c) ≡ (if y then b else d)
if_same true y e f g = rw (← e) (f refl)
if_same false y e f g = rw (← e) (g refl)

-- the same of any relation
pub by_both : {A : Type 0} (R : A → A → Type 0) (x y : Bool) {a b c d : A} → x ≡ y → (x ≡ true → R a b) → (x ≡ false → R c d)
    → R (if x then a else c) (if y then b else d)
by_both R true y e f g = rw (← e) (f refl)
by_both R false y e f g = rw (← e) (g refl)

and_same : (x y : Bool) {a b : Bool} → x ≡ y → (x ≡ true → a ≡ b) → x && a ≡ y && b
and_same true y e f = rw (← e) (f refl)
and_same false y e f = rw (← e)

any_same : (f g : ℕ → Bool) (n i : ℕ) → ((r : ℕ) → i ≤ r → r < i + n → f r ≡ g r) → any_from f i n ≡ any_from g i n
any_same f g zero i h = unfold any_from in refl
any_same f g (suc n) i h =
    rw (any_turn f i n, any_turn g i n)
    (if_same (f i) (g i) (h i (omega arith) (omega arith)) (λ e. refl)
    (λ e. any_same f g n (suc i) (λ r l u. h r (omega arith) (omega arith))))

first-same : (f g : ℕ → Bool) (n i : ℕ) → ((r : ℕ) → i ≤ r → r < i + n → f r ≡ g r) → first_from f i n ≡ first_from g i n
first-same f g zero i h = unfold first_from in refl
first-same f g (suc n) i h =
    rw (first_turn f i n, first_turn g i n)
    (if_same (f i) (g i) (h i (omega arith) (omega arith)) (λ e. refl)
    (λ e. first-same f g n (suc i) (λ r l u. h r (omega arith) (omega arith))))

-- ---- connections

-- Q holds of the partners whose records are the same, P of the places of the connection table that are: of the bytes before the keys, in
-- each of their records.
module _
    (Q P : ℕ → Type 0) (heads : (c i : ℕ) → Q (partner_of c) → connection_at c ≤ i → i < keys_at c → P i)
    (cs ds : List ℕ) (s : SameAt P cs ds)
  where
    pub state-same : (c : ℕ) → Q (partner_of c) → state cs c ≡ state ds c
    unfolding state
    state-same c h = ap (λ (x : ℕ). if leb x opened then x else closed) (s.at (connection_at c) (heads c _ h (omega arith) (omega arith)))

    pub peer-same : (c : ℕ) → Q (partner_of c) → peer cs c ≡ peer ds c
    peer-same c h = s.at (peer_at c) (heads c _ h (omega arith) (omega arith))

    -- "are of one partner": the records of both are the same, or the test fails in both
    in_session_same : (c d : ℕ) → Q (partner_of c) → in_session cs c d ≡ in_session ds c d
    unfolding in_session
    in_session_same c d h =
        and_same (eqb (partner_of c) (partner_of d)) _ refl
        (λ e.
        let k : Q (partner_of d) = subst Q (eqb-true (partner_of c) (partner_of d) e) h in
        rw (state-same c h, state-same d k, peer-same c h, peer-same d k))

    pub has_session_same : (c : ℕ) → Q (partner_of c) → has_session cs c ≡ has_session ds c
    unfolding has_session
    has_session_same c h = in_session_same c (peer cs c) h ∙ ap (in_session ds c) (peer-same c h)

    -- ---- an unanswered keepalive

    unanswered-same : (c : ℕ) → Q (partner_of c) → is_unanswered cs c ≡ is_unanswered ds c
    unfolding is_unanswered
    unanswered-same c h = ap (λ (n : ℕ). eqb n 1) (s.at (unanswered_at c) (heads c _ h (omega arith) (omega arith)))

    last-sent-same : (c : ℕ) → Q (partner_of c) → last_sent cs c ≡ last_sent ds c
    unfolding last_sent
    last-sent-same c h = same_number s (last_sent_at c) time_bytes (λ i l u. heads c i h (omega arith) (omega arith))

    keepalive-same : (c : ℕ) → Q (partner_of c) → keepalive_sent cs c ≡ keepalive_sent ds c
    unfolding keepalive_sent
    keepalive-same c h = same_number s (keepalive_at c) time_bytes (λ i l u. heads c i h (omega arith) (omega arith))

    pub dead-same : (now c : ℕ) → Q (partner_of c) → is_dead cs now c ≡ is_dead ds now c
    unfolding is_dead
    dead-same now c h = rw (unanswered-same c h, keepalive-same c h)

    pub due-same : (now c : ℕ) → Q (partner_of c) → is_due cs now c ≡ is_due ds now c
    unfolding is_due
    due-same now c h = rw (unanswered-same c h, last-sent-same c h)

-- ---- lease rows

module _ (Q : ℕ → Type 0) where
  -- the places of their lease rows
  abbrev pub InLeases : ℕ → Type 0
  InLeases i = Q (owner_of (i / lease_bytes))

  in_row : (r i : ℕ) → lease_at r ≤ i → i < lease_at r + lease_bytes → Q (owner_of r) → InLeases i
  in_row r i l u h = subst Q (let e : owner_of r ≡ owner_of (i / lease_bytes) = omega arith in e) h

  module _ (ls ms : List ℕ) (s : SameAt InLeases ls ms) where
    expiry-same : (r : ℕ) → Q (owner_of r) → expiry ls r ≡ expiry ms r
    unfolding expiry
    expiry-same r h = same_number s (lease_at r) 8 (λ i l u. in_row r i (omega arith) (omega arith) h)

    live_same : (now r : ℕ) → Q (owner_of r) → live ls now r ≡ live ms now r
    unfolding live
    live_same now r h = rw (expiry-same r h)

    pub id_same : (r : ℕ) → Q (owner_of r) → id_of ls r ≡ id_of ms r
    unfolding id_of
    id_same r h = same_number s (id_at r) 4 (λ i l u. in_row r i (omega arith) (omega arith) h)

    pub with_id_same : (now id r : ℕ) → Q (owner_of r) → live_with_id ls now id r ≡ live_with_id ms now id r
    unfolding live_with_id
    with_id_same now id r h = rw (live_same now r h, id_same r h)

    holder-same : (r : ℕ) → Q (owner_of r) → holder ls r ≡ holder ms r
    holder-same r h = s.at (holder_at r) (in_row r (holder_at r) (omega arith) (omega arith) h)

    pub cookie-same : (r : ℕ) → Q (owner_of r) → cookie_of ls r ≡ cookie_of ms r
    unfolding cookie_of
    cookie-same r h = same-part s (cookie_at r) 24 (λ i l u. in_row r i (omega arith) (omega arith) h)

    module _ (now c : ℕ) (h : Q (partner_of c)) where
      own_same : (r : ℕ) → first_row (partner_of c) ≤ r → r < end_row (partner_of c) → Q (owner_of r)
      own_same r l u = subst Q (let e : partner_of c ≡ owner_of r = omega arith in e) h

      any_own-same : (f g : ℕ → Bool) → ((r : ℕ) → Q (owner_of r) → f r ≡ g r) → any_own (partner_of c) f ≡ any_own (partner_of c) g
      any_own-same f g e = any_same f g rows_per_partner (first_row (partner_of c)) (λ r l u. e r (own_same r l u))

      first-own-same : (f g : ℕ → Bool) → ((r : ℕ) → Q (owner_of r) → f r ≡ g r) → first_own (partner_of c) f ≡ first_own (partner_of c) g
      first-own-same f g e = first-same f g rows_per_partner (first_row (partner_of c)) (λ r l u. e r (own_same r l u))

      holds_row-same : holds_row ls now c ≡ holds_row ms now c
      unfolding holds_row
      holds_row-same = any_own-same _ _ (λ r o. rw (live_same now r o, holder-same r o))

      any_earlier-same : (r : ℕ) → Q (owner_of r) → any_own (partner_of c) (is_earlier ls now r) ≡ any_own (partner_of c) (is_earlier ms now r)
      unfolding is_earlier
      any_earlier-same r q = any_own-same _ _ (λ k o. rw (live_same now k o, expiry-same k o, expiry-same r q))

      spare-row-same : spare_row ls now (partner_of c) ≡ spare_row ms now (partner_of c)
      unfolding spare_row is_earliest
      spare-row-same = first-own-same _ _ (λ r o. rw (live_same now r o, any_earlier-same r o))

      cookie-taken-same : (cookie : List ℕ) → cookie_taken ls now (partner_of c) cookie ≡ cookie_taken ms now (partner_of c) cookie
      unfolding cookie_taken
      cookie-taken-same cookie = any_own-same _ _ (λ r o. rw (live_same now r o, cookie-same r o))

      pub row_to_extend_same : (cookie : List ℕ) → row_to_extend ls now c cookie ≡ row_to_extend ms now c cookie
      unfolding row_to_extend
      row_to_extend_same cookie = first-own-same _ _ (λ r o. rw (live_same now r o, holder-same r o, cookie-same r o))

      row-of_id_same : (id : ℕ) → row_of_id ls now (partner_of c) id ≡ row_of_id ms now (partner_of c) id
      unfolding row_of_id
      row-of_id_same id = first-own-same _ _ (with_id_same now id)

  -- the same ids are live
  pub first-free-same : (ls ms : List ℕ) (now : ℕ) → ((id : ℕ) → id_taken ls now id ≡ id_taken ms now id)
      → (random : List ℕ) → first_free ls now random ≡ first_free ms now random
  unfolding first_free
  first-free-same ls ms now e random = first-same _ _ candidate_count 0 (λ k l u. ap not (e (candidate random k)))

  -- ---- both

  module _
      (P : ℕ → Type 0) (heads : (c i : ℕ) → Q (partner_of c) → connection_at c ≤ i → i < keys_at c → P i)
      (cs ds ls ms : List ℕ) (s : SameAt P cs ds) (t : SameAt InLeases ls ms)
    where
      holder_counts_same : (r : ℕ) → Q (owner_of r) → holder_counts cs ls r ≡ holder_counts ds ms r
      unfolding holder_counts
      holder_counts_same r h =
          rw (← holder-same ls ms t r h)
          (and_same (eqb (partner_of (holder ls r)) (owner_of r)) _ refl
          (λ e. rw (state-same Q P heads cs ds s (holder ls r) (subst Q (sym (eqb-true (partner_of (holder ls r)) (owner_of r) e)) h))))

      -- The candidates that are free, and the ids of own rows that are live elsewhere, are all that is read of other partners' rows.
      module _ (now c : ℕ) (h : Q (partner_of c)) (elsewhere : (r : ℕ) → Q (owner_of r) → id_elsewhere ls now r ≡ id_elsewhere ms now r) where
        row_to_renew-same : (cookie : List ℕ) → row_to_renew cs ls now (partner_of c) cookie ≡ row_to_renew ds ms now (partner_of c) cookie
        unfolding row_to_renew renewable
        row_to_renew-same cookie =
            first-own-same ls ms t now c h _ _
            (λ r o.
            rw (cookie-same ls ms t r o, expiry-same ls ms t r o, live_same ls ms t now r o, holder_counts_same r o, elsewhere r o))

        pub lease-same : (random cookie : List ℕ) → first_free ls now random ≡ first_free ms now random
            → decide_lease cs ls now c random cookie ≡ decide_lease ds ms now c random cookie
        unfolding decide_lease renew_or_grant
        lease-same random cookie e =
            rw (
              holds_row-same ls ms t now c h,
              spare-row-same ls ms t now c h,
              cookie-taken-same ls ms t now c h (random_cookie random),
              row_to_renew-same cookie,
              e,
            )

      -- a holder that counts is of the row's partner
      counted : (r : ℕ) → Q (owner_of r) → holder_counts cs ls r ≡ true → Q (partner_of (holder ls r))
      unfolding holder_counts
      counted r h k = subst Q (sym (eqb-true _ _ (both_left (eqb (partner_of (holder ls r)) (owner_of r)) _ k))) h

      pub establish-same : (now c id : ℕ) → Q (partner_of c) → decide_establish cs ls now c id ≡ decide_establish ds ms now c id
      unfolding decide_establish row_of_id
      establish-same now c id h =
          let row = first_own (partner_of c) (live_with_id ls now id) in
          rw (← row-of_id_same ls ms t now c h id)
          (if_same _ _ (has_session_same Q P heads cs ds s c h) (λ e. refl)
          (λ e. if_same (not (ltb row (end_row (partner_of c)))) _ refl (λ f. refl)
          (λ f.
          let own = own_row (partner_of c) (live_with_id ls now id) (ltb-true _ _ (not-false _ f)) in
          let mine : Q (owner_of row) = subst Q (sym own.owner) h in
          if_same _ _ (ap not (holder_counts_same row mine)) (λ g. refl)
          (λ g.
          rw (← holder-same ls ms t row mine, has_session_same Q P heads cs ds s (holder ls row) (counted row mine (not-false _ g)))))))

  -- rows that a close gives back: each names the connection in both tables or in neither
  pub release-same : (c n r : ℕ) → ((i : ℕ) → r ≤ i → i < r + n → Q (owner_of i)) → (ls ms : List ℕ) → SameAt InLeases ls ms
      → SameAt InLeases (release_from ls c r n) (release_from ms c r n)
  unfolding release_from
  release-same c zero r h ls ms s = s
  release-same c (suc n) r h ls ms s =
      release-same c n (suc r) (λ i l u. h i (omega arith) (omega arith)) _ _
      (by_both (SameAt InLeases) (eqb (holder ls r) c) _
      (ap (λ (x : ℕ). eqb x c) (holder-same ls ms s r (h r (omega arith) (omega arith))))
      (λ e. same-put s (holder_at r) (nobody ∷ []))
      (λ e. s))
