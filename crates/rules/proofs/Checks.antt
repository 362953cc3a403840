-- The laws of the checks: the first that applies decides, one more check behind others, and what is known once the first eight are passed.
-- Assumes nothing.
use Prim.Native.Nat.{ℕ, zero, suc, ◌+◌, ◌≤◌, ◌<◌, max}
use mathlib.Core.Path.{◌≡◌, refl, sym, ◌∙◌}
use mathlib.Core.Bool.{Bool, true, false, not, ◌&&◌, ◌||◌, cond, true≢false, false≢true}
use mathlib.Core.List.{List, [], ◌∷◌, ◌++◌}
use native.Mathlib.Omega.{arith}
use lib.Dec.{eqb, leb, ltb}
use lib.ListN.{length, get_or}
use borrow.Author.Tests.{ltb-false, leb-false, eqb-true, not-false, le-ltb}
use Rattle.octets.proofs.Tests.{both_left, both_right}
use Rattle.svsc.specs.Messages.{type_of, from_peer}
use Rattle.allowance.specs.Meter.{verdict}
use Rattle.rules.specs.Sizes.{partners, connection_count, connections_size, leases_size, allowances_size, time_limit, random_bytes, least_buffer}
use Rattle.rules.specs.Tables.{Tables, opened, state, has_session, clock, sized}
use Rattle.rules.specs.Calls.{Call, opening, message, closing, keepalive, time_of, connection_of, caller_of}
use Rattle.rules.specs.Charges.{charged, price, caller_level}
use Rattle.rules.specs.Checks.{wrong_time, wrong_lengths, not_from_peer, permits, not_permitted, no_session, above_level, first_eight, checks, first_applying, precheck, check}

-- ---- the first that applies

-- Nothing applies exactly where the number is 0.
pub none_applies : (n : ℕ) (xs : List Bool) → first_applying (suc n) xs ≡ 0 → (i : ℕ) → get_or xs i false ≡ false
unfolding first_applying
none_applies n [] h i = refl
none_applies n (true ∷ xs) h i = absurd (omega arith)
none_applies n (false ∷ xs) h zero = refl
none_applies n (false ∷ xs) h (suc i) = none_applies (suc n) xs h i

pub all_pass : (n : ℕ) (xs : List Bool) → ((i : ℕ) → get_or xs i false ≡ false) → first_applying n xs ≡ 0
unfolding first_applying
all_pass n [] h = refl
all_pass n (true ∷ xs) h = absurd (true≢false (h 0))
all_pass n (false ∷ xs) h = all_pass (suc n) xs (λ i. h (suc i))

-- The number is that of a check that applies and before which none does.
pub first_applies : (n : ℕ) (xs : List Bool) (k : ℕ) → get_or xs k false ≡ true → ((i : ℕ) → i < k → get_or xs i false ≡ false)
    → first_applying n xs ≡ n + k
unfolding first_applying
first_applies n [] k h low = absurd (false≢true h)
first_applies n (true ∷ xs) zero h low = omega arith
first_applies n (true ∷ xs) (suc k) h low = absurd (true≢false (low 0 (omega arith)))
first_applies n (false ∷ xs) zero h low = absurd (false≢true h)
first_applies n (false ∷ xs) (suc k) h low = omega (arith, first_applies (suc n) xs k h (λ i l. low (suc i) (omega arith)))

-- And the other way: it applies, and none before it does.
no_less : (n : ℕ) (xs : List Bool) (k : ℕ) → k < n → first_applying n xs ≡ k → k ≡ 0
unfolding first_applying
no_less n [] k l e = sym e
no_less n (true ∷ xs) k l e = absurd (omega arith)
no_less n (false ∷ xs) k l e = no_less (suc n) xs k (omega arith) e

pub applied-first : (n : ℕ) (xs : List Bool) (k : ℕ) → first_applying (suc n) xs ≡ suc n + k
    → (get_or xs k false ≡ true) × ((i : ℕ) → i < k → get_or xs i false ≡ false)
unfolding first_applying
applied-first n [] k e = absurd (omega arith)
applied-first n (true ∷ xs) zero e = (refl, λ i l. absurd (omega arith))
applied-first n (true ∷ xs) (suc k) e = absurd (omega arith)
applied-first n (false ∷ xs) zero e =
    let none = no_less (suc (suc n)) xs (suc n) (omega arith) (e ∙ omega arith) in absurd (omega arith)
applied-first n (false ∷ xs) (suc k) e =
    let rest = applied-first (suc n) xs k (e ∙ omega arith) in
    (rest.0, earlier rest.1)
  where
    earlier : ((i : ℕ) → i < k → get_or xs i false ≡ false) → (i : ℕ) → i < suc k → get_or (false ∷ xs) i false ≡ false
    earlier f zero l = refl
    earlier f (suc i) l = f i (omega arith)

pub at_most : (n : ℕ) (xs : List Bool) → first_applying (suc n) xs ≤ n + length xs
unfolding first_applying
at_most n [] = omega arith
at_most n (true ∷ xs) = omega arith
at_most n (false ∷ xs) = omega (arith, at_most (suc n) xs)

-- ---- one more check, behind the others

abbrev decides : ℕ → ℕ → ℕ
decides zero k = k
decides (suc n) k = suc n

one_more : (n : ℕ) (xs : List Bool) (x : Bool)
    → first_applying (suc n) (xs ++ (x ∷ [])) ≡ decides (first_applying (suc n) xs) (cond x (suc n + length xs) 0)
unfolding first_applying
one_more n [] true = omega arith
one_more n [] false = refl
one_more n (true ∷ xs) x = refl
one_more n (false ∷ xs) x =
    let e : suc (suc n) + length xs ≡ suc n + suc (length xs) = omega arith in
    one_more (suc n) xs x ∙ rw e

verdict-decides : (n : ℕ) (k : Bool) (level price : ℕ) → verdict n k level price ≡ decides n (cond (k && ltb level price) 9 0)
unfolding verdict
verdict-decides zero k level price = refl
verdict-decides (suc n) k level price = refl

-- A call that is not charged costs nothing, so check 9 passes it.
pub free-price : (tables : Tables) (call : Call) → charged call ≡ false → price tables call ≡ 0
unfolding price
free-price tables call e = rw e

above-level-charged : (tables : Tables) (call : Call)
    → above_level tables call ≡ charged call && ltb (caller_level tables.allowances call) (price tables call)
unfolding above_level
above-level-charged tables call = go (caller_level tables.allowances call) (charged call) refl
  where
    go : (level : ℕ) (k : Bool) → charged call ≡ k → ltb level (price tables call) ≡ k && ltb level (price tables call)
    go level true e = refl
    go level false e = rw (free-price tables call e) (le-ltb level 0 (omega arith))

-- The answer's number: one of checks 1 to 8, else 9 where the price is above the level, else 0.
pub check-verdict : (tables : Tables) (call : Call)
    → check tables call ≡ verdict (precheck tables call) (charged call) (caller_level tables.allowances call) (price tables call)
unfolding check checks precheck first_eight
check-verdict tables call =
    one_more 0 (first_eight tables call) (above_level tables call)
    ∙ rw (above-level-charged tables call)
    (sym (verdict-decides (precheck tables call) (charged call) (caller_level tables.allowances call) (price tables call)))

-- ---- what is known of a call that passed the first eight

neither : (a b : Bool) → a || b ≡ false → (a ≡ false) × (b ≡ false)
neither true b h = absurd (true≢false h)
neither false b h = (refl, h)

pub record Passed (tables : Tables) (call : Call) : Type 0 where
  pub connections : length tables.connections ≡ connections_size
  pub leases : length tables.leases ≡ leases_size
  pub allowances : length tables.allowances ≡ allowances_size
  pub in_limit : time_of call < time_limit
  pub in_order : clock tables.allowances ≤ time_of call
  pub known : connection_of call < connection_count
  pub of_partner : caller_of call < partners

pub passed : (tables : Tables) (call : Call) → precheck tables call ≡ 0 → Passed tables call
unfolding precheck first_eight sized wrong_time
passed tables call h =
    let no : (i : ℕ) → get_or (first_eight tables call) i false ≡ false = none_applies 0 (first_eight tables call) h in
    let all = not-false (sized tables) (no 0) in
    let two-sizes = eqb (length tables.connections) connections_size && eqb (length tables.leases) leases_size in
    let two = both_left two-sizes _ all in
    let times = neither (leb time_limit (time_of call)) (ltb (time_of call) (clock tables.allowances)) (no 1) in
    let known : connection_of call < connection_count = leb-false connection_count (connection_of call) (no 2) in
    record {
      connections = eqb-true (length tables.connections) connections_size (both_left _ _ two);
      leases = eqb-true (length tables.leases) leases_size (both_right (eqb (length tables.connections) connections_size) _ two);
      allowances = eqb-true (length tables.allowances) allowances_size (both_right two-sizes _ all);
      in_limit = leb-false time_limit (time_of call) times.0;
      in_order = ltb-false (time_of call) (clock tables.allowances) times.1;
      known = known;
      of_partner = omega arith;
    }

no_check-of : (tables : Tables) (call : Call) → precheck tables call ≡ 0 → (i : ℕ) → get_or (first_eight tables call) i false ≡ false
unfolding precheck
no_check-of tables call h = none_applies 0 (first_eight tables call) h

pub open_room : (tables : Tables) (now c : ℕ) (reply : List ℕ) → precheck tables (opening now c reply) ≡ 0 → least_buffer ≤ length reply
unfolding first_eight wrong_lengths
open_room tables now c reply h = ltb-false (length reply) least_buffer (no_check-of tables (opening now c reply) h 4)

pub close_room : (tables : Tables) (now c : ℕ) (relay : List ℕ) → precheck tables (closing now c relay) ≡ 0 → least_buffer ≤ length relay
unfolding first_eight wrong_lengths
close_room tables now c relay h = ltb-false (length relay) least_buffer (no_check-of tables (closing now c relay) h 4)

pub keepalive-room : (tables : Tables) (now c : ℕ) (reply relay : List ℕ) → precheck tables (keepalive now c reply relay) ≡ 0
    → (least_buffer ≤ length reply) × (least_buffer ≤ length relay)
unfolding first_eight wrong_lengths
keepalive-room tables now c reply relay h =
    let two = neither (ltb (length reply) least_buffer) _ (no_check-of tables (keepalive now c reply relay) h 4) in
    (ltb-false (length reply) least_buffer two.0, ltb-false (length relay) least_buffer two.1)

module _ (tables : Tables) (now c : ℕ) (m random reply relay : List ℕ) (h : precheck tables (message now c m random reply relay) ≡ 0) where
  no_check : (i : ℕ) → get_or (first_eight tables (message now c m random reply relay)) i false ≡ false
  no_check = no_check-of tables (message now c m random reply relay) h

  pub from-peer : from_peer m ≡ true
  unfolding first_eight not_from_peer
  from-peer = not-false (from_peer m) (no_check 5)

  room : (not (eqb (length random) random_bytes) ≡ false)
      × (ltb (length reply) least_buffer ≡ false)
      × (ltb (length relay) (max least_buffer (length m)) ≡ false)
  unfolding first_eight wrong_lengths
  room =
      let two = neither (not (eqb (length random) random_bytes) || ltb (length reply) least_buffer) _ (no_check 4) in
      let one = neither (not (eqb (length random) random_bytes)) _ two.0 in
      (one.0, one.1, two.1)

  pub random-length : length random ≡ random_bytes
  random-length = eqb-true (length random) random_bytes (not-false _ room.0)

  pub reply_room : least_buffer ≤ length reply
  reply_room = ltb-false (length reply) least_buffer room.1

  pub relay_room : max least_buffer (length m) ≤ length relay
  relay_room = ltb-false (length relay) (max least_buffer (length m)) room.2

  pub has_session_lem : eqb (type_of m) 9 || eqb (type_of m) 11 ≡ true → has_session tables.connections c ≡ true
  unfolding first_eight no_session
  has_session_lem e = not-false (has_session tables.connections c) (sym (rw e) ∙ no_check 7)

  pub is-permitted : permits (state tables.connections c) (type_of m) ≡ true
  unfolding first_eight not_permitted
  is-permitted = not-false (permits (state tables.connections c) (type_of m)) (no_check 6)

-- type 6 comes on open connections alone
pub open_permits : (s : ℕ) → permits s 6 ≡ true → s ≡ opened
open_permits zero h = absurd (false≢true h)
open_permits (suc zero) h = absurd (false≢true h)
open_permits (suc (suc zero)) h = refl
open_permits (suc (suc (suc s))) h = absurd (false≢true h)
