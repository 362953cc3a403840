-- Lease and Extension (01, "Effects"; 02, Items 2 and 6): what decides, and what is written to the rows; and which rows a close gives back.
use Rattle.std.specs.Prelude.{ℕ, zero, suc, ◌+◌, ◌*◌, ◌%◌, Bool, not, ◌&&◌, List, eqb, ltb, if◌then◌else◌}
use Rattle.octets.specs.Octets.{part, number_at, same}
use Rattle.svsc.specs.Messages.{cookie_bytes}
use Rattle.rules.specs.Sizes.{rows_per_partner, row_count, nobody, candidate_count, candidate_bytes, id_limit}
use Rattle.rules.specs.Searches.{first_from, any_from, first_row, end_row, first_own, any_own}
use Rattle.rules.specs.Tables.{partner_of, lease_term, expiry, id_of, holder, cookie_of, live, live_with_id, holder_counts, set_expiry, set_id, set_holder, set_cookie}

-- when a lease that is given, renewed or extended now ends: "expiry reading +" the term; 02, Item 6: "Extensions and Item 2's renewals use the
-- same term."
unfoldable pub lease_end : List ℕ → ℕ → ℕ
lease_end al now = now + lease_term al

-- ---- Lease

-- "the draw's bytes 0-23"
abbrev pub random_cookie : List ℕ → List ℕ
random_cookie random = part random 0 cookie_bytes

-- "Draw bytes 24-79 are fourteen candidates of four bytes, each taken modulo 67,108,864"
unfoldable pub candidate : List ℕ → ℕ → ℕ
candidate random k = number_at random (cookie_bytes + candidate_bytes * k) candidate_bytes % id_limit

-- "one is free if no live row of all 128 has it"
unfoldable pub id_taken : List ℕ → ℕ → ℕ → Bool
id_taken ls now id = any_from (live_with_id ls now id) 0 row_count

-- "The first free candidate": its number, from 0; fourteen if none is free
unfoldable pub first_free : List ℕ → ℕ → List ℕ → ℕ
first_free ls now random = first_from (λ k. not (id_taken ls now (candidate random k))) 0 candidate_count

-- the connection holds a live row of its partner
unfoldable pub holds_row : List ℕ → ℕ → ℕ → Bool
holds_row ls now c = any_own (partner_of c) (λ r. live ls now r && eqb (holder ls r) c)

-- row k isn't live, and expires earlier than row r
unfoldable pub is_earlier : List ℕ → ℕ → ℕ → ℕ → Bool
is_earlier ls now r k = not (live ls now k) && ltb (expiry ls k) (expiry ls r)

-- row r isn't live, and no such row of the partner expires earlier
unfoldable pub is_earliest : List ℕ → ℕ → ℕ → ℕ → Bool
is_earliest ls now p r = not (live ls now r) && not (any_own p (is_earlier ls now r))

-- 02, Item 2: "the row with the earliest expiry among those not live, the lowest on a tie", or the end of the partner's rows
unfoldable pub spare_row : List ℕ → ℕ → ℕ → ℕ
spare_row ls now p = first_own p (is_earliest ls now p)

-- "the cookie of a live row of the partner"
unfoldable pub cookie_taken : List ℕ → ℕ → ℕ → List ℕ → Bool
cookie_taken ls now p cookie = any_own p (λ r. live ls now r && same (cookie_of ls r) cookie)

-- row k is another than row r, is live, and has its id
unfoldable pub has_its_id : List ℕ → ℕ → ℕ → ℕ → Bool
has_its_id ls now r k = not (eqb k r) && live_with_id ls now (id_of ls r) k

-- another live row, of any partner, has the id of row r
unfoldable pub id_elsewhere : List ℕ → ℕ → ℕ → Bool
id_elsewhere ls now r = any_from (has_its_id ls now r) 0 row_count

-- 02, Item 2: a row that "has that cookie, an expiry above 0, no counting holder while live, and an id that no other live row has"
unfoldable pub renewable : List ℕ → List ℕ → ℕ → List ℕ → ℕ → Bool
renewable cs ls now cookie r =
    same (cookie_of ls r) cookie && (ltb 0 (expiry ls r) && (not (live ls now r && holder_counts cs ls r) && not (id_elsewhere ls now r)))

-- "the lowest such row", or the end of the partner's rows
unfoldable pub row_to_renew : List ℕ → List ℕ → ℕ → ℕ → List ℕ → ℕ
row_to_renew cs ls now p cookie = first_own p (renewable cs ls now cookie)

-- which of the four conditions fails first, in 01's order; or that all hold, and which row is renewed or what a new lease gets
pub data LeaseDecision : Type 0 where
  holds_lease : LeaseDecision
  no_spare_row : LeaseDecision
  cookie_in_use : LeaseDecision
  no_free_id : LeaseDecision
  renewed : (row : ℕ) → LeaseDecision
  granted : (row id : ℕ) (cookie : List ℕ) → LeaseDecision

-- "If accepted, and a row of the partner has that cookie, .., the lowest such row is renewed .., and no new row is used." Else there is a new
-- lease, in this row, with this id and this drawn cookie.
unfoldable pub renew_or_grant : List ℕ → List ℕ → ℕ → ℕ → List ℕ → ℕ → ℕ → List ℕ → LeaseDecision
renew_or_grant cs ls now p cookie row id drawn =
    let old = row_to_renew cs ls now p cookie in
    if ltb old (end_row p) then renewed old else granted row id drawn

-- "accepted exactly if the connection holds no live row, the partner has a row that isn't live, the draw's bytes 0-23 aren't the cookie of
-- a live row of the partner, and one of the candidates is free". The cookie is the request's, no bytes if it has none: no row of a table of
-- the right size has those.
unfoldable pub decide_lease : List ℕ → List ℕ → ℕ → ℕ → List ℕ → List ℕ → LeaseDecision
decide_lease cs ls now c random cookie =
    if holds_row ls now c then holds_lease
    else if not (ltb (spare_row ls now (partner_of c)) (end_row (partner_of c))) then no_spare_row
    else if cookie_taken ls now (partner_of c) (random_cookie random) then cookie_in_use
    else if not (ltb (first_free ls now random) candidate_count) then no_free_id
    else renew_or_grant cs ls now (partner_of c) cookie (spare_row ls now (partner_of c)) (candidate random (first_free ls now random)) (random_cookie random)

-- "The first free candidate goes into" that row, "with those 24 bytes as cookie, this holder, expiry reading +" the term
unfoldable pub grant : List ℕ → ℕ → ℕ → ℕ → List ℕ → ℕ → List ℕ
grant ls row until id cookie c = set_cookie (set_holder (set_id (set_expiry ls row until) row id) row c) row cookie

-- "renewed for this connection with its id and cookie"
unfoldable pub renew : List ℕ → ℕ → ℕ → ℕ → List ℕ
renew ls row until c = set_holder (set_expiry ls row until) row c

-- ---- Extension

-- "a live row of the partner, held by this connection, has that cookie (the lowest such row)", or the end of the partner's rows
unfoldable pub row_to_extend : List ℕ → ℕ → ℕ → List ℕ → ℕ
row_to_extend ls now c cookie = first_own (partner_of c) (λ r. live ls now r && eqb (holder ls r) c && same (cookie_of ls r) cookie)

-- ---- Close

-- "sets byte 12 to 255 in the partner's rows that name this connection": in those of the n rows from r on
unfoldable pub release_from : List ℕ → ℕ → ℕ → ℕ → List ℕ
release_from ls c r zero = ls
release_from ls c r (suc n) = release_from (if eqb (holder ls r) c then set_holder ls r nobody else ls) c (suc r) n

unfoldable pub release : List ℕ → ℕ → List ℕ
release ls c = release_from ls c (first_row (partner_of c)) rows_per_partner
