-- The numbers of checks: a list of them in two parts, what passed checks show, and the ways out of the functions that check.
-- Assumes nothing.
use Rattle.std.specs.Prelude.{if◌then◌else◌}
use Prim.Native.Nat.{ℕ, zero, suc, ◌+◌, ◌≤◌, ◌<◌}
use mathlib.Core.Path.{◌≡◌, refl, sym, ap, ◌∙◌}
use mathlib.Core.Bool.{Bool, true, false, not, ◌&&◌, ◌||◌}
use mathlib.Core.List.{List, [], ◌∷◌, ◌++◌}
use native.Mathlib.Omega.{arith}
use lib.Dec.{eqb, leb, ltb}
use lib.ListN.{length}
use borrow.Author.Tests.{eqb-true, leb-false, le-leb, lt-leb, lt-ltb, le-ltb, ltb-false, eq-eqb, ne_eqb, not-false}
use Rattle.octets.proofs.Tests.{both_left, both_right, either_false}
use Rattle.rules.specs.Sizes.{connection_count, connections_size, leases_size, time_limit, least_buffer, open_cost}
use Rattle.rules.specs.Tables.{Tables, partner_of, state, is_closed, sized, bucket_of, clock}
use Rattle.allowance.specs.Bucket.{level_now}
use Rattle.rules.specs.Calls.{Call, opening, closing, keepalive, time_of, connection_of}
use Rattle.allowance.specs.Meter.{verdict}
use Rattle.rules.specs.Charges.{price, caller_level}
use Rattle.rules.proofs.Checks.{check-verdict}
use Rattle.rules.proofs.Prices.{prices}
use Rattle.rules.specs.Checks.{wrong_size, unknown_connection, wrong_time, wrong_state, wrong_lengths, not_from_peer, not_permitted, no_session, above_level, past_limit, first_applying, first_eight, checks, precheck, check, wrong_term, check_start}
use Rattle.refusal_numbers.specs.declared.Refusal.{Refusal}
use Rattle.refusal_numbers.specs.Numbers.{number_of}
use Rattle.refusal_numbers.proofs.Numbers.{number-some}
use Rattle.refusals.specs.Passed.{first_three, Sized, Payable}

-- ---- a list in two parts

pub stopped : (n : ℕ) (xs ys : List Bool) (k : ℕ) → k ≡ first_applying (suc n) xs → (k ≡ 0 → ⊥) → k ≡ first_applying (suc n) (xs ++ ys)
unfolding first_applying
stopped n [] ys k e h = absurd (h e)
stopped n (true ∷ xs) ys k e h = e
stopped n (false ∷ xs) ys k e h = stopped (suc n) xs ys k e h

pub passed : (n : ℕ) (xs ys : List Bool) (k : ℕ) → k ≡ first_applying (suc n) xs → k ≡ 0 → first_applying (suc n) (xs ++ ys) ≡ first_applying (suc n + length xs) ys
unfolding first_applying
passed n [] ys k e z = ap (λ (m : ℕ). first_applying m ys) (omega arith)
passed n (true ∷ xs) ys k e z = absurd (omega arith)
passed n (false ∷ xs) ys k e z = passed (suc n) xs ys k e z ∙ ap (λ (m : ℕ). first_applying m ys) (omega arith)

-- what a number of 0 shows of the first check, and of the others
pub first_passed : (n : ℕ) (x : Bool) (xs : List Bool) → first_applying (suc n) (x ∷ xs) ≡ 0 → x ≡ false
unfolding first_applying
first_passed n true xs h = absurd (omega arith)
first_passed n false xs h = refl

pub others_passed : (n : ℕ) (x : Bool) (xs : List Bool) → first_applying (suc n) (x ∷ xs) ≡ 0 → first_applying (suc (suc n)) xs ≡ 0
unfolding first_applying
others_passed n true xs h = absurd (omega arith)
others_passed n false xs h = h

-- ---- checks 1 to 3

pub sizes-known : (tables : Tables) → sized tables ≡ true → Sized tables
unfolding sized
sizes-known tables h = record {
  connections = eqb-true _ _ (both_left _ _ (both_left _ _ h));
  leases = eqb-true _ _ (both_right (eqb (length tables.connections) connections_size) _ (both_left _ _ h));
  allowances = eqb-true _ _ (both_right (eqb (length tables.connections) connections_size && eqb (length tables.leases) leases_size) _ h);
}

module _ (tables : Tables) (time c : ℕ) (s u : Bool) (hs : s ≡ sized tables) (hu : u ≡ past_limit time || ltb time (clock tables.allowances)) where
  pub wrong_size_lem : not s ≡ true → 1 ≡ first_three tables time c
  unfolding first_three first_applying
  wrong_size_lem h = rw (← hs, h)

  pub wrong-time : not s ≡ false → u ≡ true → 2 ≡ first_three tables time c
  unfolding first_three first_applying
  wrong-time h k = rw (← hs, ← hu, h, k)

  pub wrong-connection : not s ≡ false → u ≡ false → connection_count ≤ c → 3 ≡ first_three tables time c
  unfolding first_three first_applying
  wrong-connection h k l = rw (← hs, ← hu, h, k, le-leb connection_count c l)

  pub three_pass : not s ≡ false → u ≡ false → c < connection_count → 0 ≡ first_three tables time c
  unfolding first_three first_applying
  three_pass h k l = rw (← hs, ← hu, h, k, lt-leb connection_count c l)

-- ---- a fresh start

module _ (tables : Tables) (time term : ℕ) (s : Bool) (hs : s ≡ sized tables) where
  pub start-wrong-size : not s ≡ true → 1 ≡ check_start tables time term
  unfolding check_start first_applying
  start-wrong-size h = rw (← hs, h)

  pub start-wrong-time : not s ≡ false → time_limit ≤ time → 2 ≡ check_start tables time term
  unfolding check_start first_applying
  start-wrong-time h l = rw (← hs, h, le-leb time_limit time l)

  pub start-wrong_term : not s ≡ false → time < time_limit → wrong_term term ≡ true → 6 ≡ check_start tables time term
  unfolding check_start first_applying
  start-wrong_term h l t = rw (← hs, h, lt-leb time_limit time l, t)

  pub start-passes : not s ≡ false → time < time_limit → wrong_term term ≡ false → 0 ≡ check_start tables time term
  unfolding check_start first_applying
  start-passes h l t = rw (← hs, h, lt-leb time_limit time l, t)

pub start-sized : (tables : Tables) (time term : ℕ) → 0 ≡ check_start tables time term → Sized tables
unfolding check_start
start-sized tables time term e = sizes-known tables (not-false _ (first_passed 0 _ _ (sym e)))

-- ---- any call on a connection: its first three checks, then the others

fourth_to_eighth : Tables → Call → List Bool
fourth_to_eighth tables call =
    wrong_state tables.connections call
    ∷ wrong_lengths call
    ∷ not_from_peer call
    ∷ not_permitted tables.connections call
    ∷ no_session tables.connections call
    ∷ []

others : Tables → Call → List Bool
others tables call =
    wrong_state tables.connections call
    ∷ wrong_lengths call
    ∷ not_from_peer call
    ∷ not_permitted tables.connections call
    ∷ no_session tables.connections call
    ∷ above_level tables call
    ∷ []

module _ (tables : Tables) (call : Call) where
  abbrev three : List Bool
  three = wrong_size tables ∷ wrong_time tables.allowances call ∷ unknown_connection call ∷ []

  pub three-stop : (refusal : Refusal) → number_of refusal ≡ first_three tables (time_of call) (connection_of call) → number_of refusal ≡ precheck tables call
  unfolding first_three precheck first_eight wrong_time fourth_to_eighth
  three-stop refusal e = stopped 0 three (fourth_to_eighth tables call) _ e (number-some refusal)

  three_go : 0 ≡ first_three tables (time_of call) (connection_of call) → precheck tables call ≡ first_applying 4 (fourth_to_eighth tables call)
  unfolding first_three precheck first_eight wrong_time fourth_to_eighth
  three_go e = passed 0 three (fourth_to_eighth tables call) 0 e refl

  -- one of the first eight stops it, or it is left to check 9
  pub eight-stop : (refusal : Refusal) → number_of refusal ≡ precheck tables call → number_of refusal ≡ check tables call
  unfolding precheck check checks
  eight-stop refusal e = stopped 0 (first_eight tables call) (above_level tables call ∷ []) _ e (number-some refusal)

  pub last-left : 0 ≡ precheck tables call → check tables call ≡ (if above_level tables call then 9 else 0)
  unfolding precheck check checks first_eight first_applying
  last-left e = passed 0 (first_eight tables call) (above_level tables call ∷ []) 0 e refl ∙ by (above_level tables call)
    where
      by : (t : Bool) → first_applying 9 (t ∷ []) ≡ (if t then 9 else 0)
      by true = refl
      by false = refl

-- what passed checks show of any call
module _ (tables : Tables) (call : Call) (e : 0 ≡ check tables call) where
  all_passed : first_applying 1 (wrong_size tables ∷ wrong_time tables.allowances call ∷ unknown_connection call ∷ others tables call) ≡ 0
  unfolding check checks first_eight others
  all_passed = sym e

  pub call-sized : Sized tables
  call-sized = sizes-known tables (not-false _ (first_passed 0 _ _ all_passed))

  pub call_known : connection_of call < connection_count
  call_known = leb-false _ _ (first_passed 2 _ _ (others_passed 1 _ _ (others_passed 0 _ _ all_passed)))

  pub call-timely : time_of call < time_limit
  unfolding wrong_time
  call-timely = leb-false _ _ (either_false _ _ (first_passed 1 _ _ (others_passed 0 _ _ all_passed))).0

  from_fourth : first_applying 4 (others tables call) ≡ 0
  from_fourth = others_passed 2 _ _ (others_passed 1 _ _ (others_passed 0 _ _ all_passed))

  pub right_state : wrong_state tables.connections call ≡ false
  unfolding others
  right_state = first_passed 3 _ _ from_fourth

  pub right_lengths : wrong_lengths call ≡ false
  unfolding others
  right_lengths = first_passed 4 _ _ (others_passed 3 _ _ from_fourth)

  pub sent-by-peer : not_from_peer call ≡ false
  unfolding others
  sent-by-peer = first_passed 5 _ _ (others_passed 4 _ _ (others_passed 3 _ _ from_fourth))

  pub payable : Payable tables.allowances (time_of call) (connection_of call) (price tables call)
  unfolding others above_level caller_level
  payable = record {
    size = call-sized.allowances;
    known = call_known;
    enough =
        ltb-false _ _
        (first_passed 8 _ _ (others_passed 7 _ _ (others_passed 6 _ _ (others_passed 5 _ _ (others_passed 4 _ _ (others_passed 3 _ _ from_fourth))))));
  }

-- ---- open

pub open_known : (tables : Tables) (time c : ℕ) (reply : List ℕ) → 0 ≡ check tables (opening time c reply)
    → (Payable tables.allowances time c open_cost) × (least_buffer ≤ length reply)
unfolding wrong_lengths
open_known tables time c reply e =
    (rw ((prices tables).open_price time c reply) at (payable tables (opening time c reply) e), ltb-false _ _ (right_lengths tables (opening time c reply) e))

module _ (tables : Tables) (time c : ℕ) (reply : List ℕ) (s : ℕ) (e : 0 ≡ first_three tables time c) (hs : s ≡ state tables.connections c) where
  go : precheck tables (opening time c reply) ≡ first_applying 4 (not (eqb s 0) ∷ ltb (length reply) least_buffer ∷ false ∷ false ∷ false ∷ [])
  unfolding fourth_to_eighth wrong_state wrong_lengths not_from_peer not_permitted no_session
  go = rw hs (three_go tables (opening time c reply) e)

  pub open_wrong-state : (s ≡ 0 → ⊥) → 4 ≡ precheck tables (opening time c reply)
  unfolding first_applying
  open_wrong-state h = sym (go ∙ rw (ne_eqb s 0 h))

  module _ (h : s ≡ 0) where
    pub open_wrong_lengths : length reply < least_buffer → 5 ≡ precheck tables (opening time c reply)
    unfolding first_applying
    open_wrong_lengths l = sym (go ∙ rw (eq-eqb s 0 h, lt-ltb (length reply) least_buffer l))

    pub open_passes : least_buffer ≤ length reply → 0 ≡ precheck tables (opening time c reply)
    unfolding first_applying
    open_passes l = sym (go ∙ rw (eq-eqb s 0 h, le-ltb (length reply) least_buffer l))

-- check 9 compares with the price, which is the same whatever the buffer holds
pub open_last : (tables : Tables) (time c : ℕ) (reply : List ℕ) (k : ℕ) → 0 ≡ precheck tables (opening time c reply)
    → k ≡ (if ltb (level_now (bucket_of tables.allowances (partner_of c)) time) open_cost then 9 else 0) → k ≡ check tables (opening time c reply)
unfolding above_level caller_level
open_last tables time c reply k e h = h ∙ sym (last-left tables (opening time c reply) e ∙ rw ((prices tables).open_price time c reply))

-- ---- close

pub close_known : (tables : Tables) (time c : ℕ) (relay : List ℕ) → 0 ≡ check tables (closing time c relay)
    → (c < connection_count) × (least_buffer ≤ length relay)
unfolding wrong_lengths
close_known tables time c relay e =
    (call_known tables (closing time c relay) e, ltb-false _ _ (right_lengths tables (closing time c relay) e))

module _ (tables : Tables) (time c : ℕ) (relay : List ℕ) (s : ℕ) (e : 0 ≡ first_three tables time c) (hs : s ≡ state tables.connections c) where
  close_go : precheck tables (closing time c relay) ≡ first_applying 4 (eqb s 0 ∷ ltb (length relay) least_buffer ∷ false ∷ false ∷ false ∷ [])
  unfolding fourth_to_eighth wrong_state wrong_lengths not_from_peer not_permitted no_session
  close_go = rw hs (three_go tables (closing time c relay) e)

  pub close_wrong-state : s ≡ 0 → 4 ≡ precheck tables (closing time c relay)
  unfolding first_applying
  close_wrong-state h = sym (close_go ∙ rw (eq-eqb s 0 h))

  module _ (h : s ≡ 0 → ⊥) where
    pub close_wrong_lengths : length relay < least_buffer → 5 ≡ precheck tables (closing time c relay)
    unfolding first_applying
    close_wrong_lengths l = sym (close_go ∙ rw (ne_eqb s 0 h, lt-ltb (length relay) least_buffer l))

    pub close_passes : least_buffer ≤ length relay → 0 ≡ precheck tables (closing time c relay)
    unfolding first_applying
    close_passes l = sym (close_go ∙ rw (ne_eqb s 0 h, le-ltb (length relay) least_buffer l))

-- a close is free: no check 9
pub close_free : (tables : Tables) (time c : ℕ) (relay : List ℕ) (k : ℕ) → k ≡ precheck tables (closing time c relay) → k ≡ check tables (closing time c relay)
unfolding verdict
close_free tables time c relay k e =
    e ∙ sym (check-verdict tables (closing time c relay) ∙ free (precheck tables (closing time c relay)))
  where
    free : (n : ℕ) → verdict n false (caller_level tables.allowances (closing time c relay)) (price tables (closing time c relay)) ≡ n
    free zero = refl
    free (suc n) = refl

-- ---- keepalive: a close that also has a reply buffer

-- checks 1 to 4 and the lengths of two buffers, where no other check applies
abbrev five_checks : Bool → Bool → Bool → Bool → Bool → ℕ
five_checks a b c d lengths = first_applying 1 (a ∷ b ∷ c ∷ d ∷ lengths ∷ false ∷ false ∷ false ∷ false ∷ [])

longer_stops : (a b c d reply relay : Bool) → (five_checks a b c d relay ≡ 0 → ⊥) → five_checks a b c d relay ≡ five_checks a b c d (reply || relay)
unfolding first_applying
longer_stops true b c d reply relay n = refl
longer_stops false true c d reply relay n = refl
longer_stops false false true d reply relay n = refl
longer_stops false false false true reply relay n = refl
longer_stops false false false false true true n = refl
longer_stops false false false false false true n = refl
longer_stops false false false false reply false n = absurd (n refl)

longer_goes : (a b c d reply relay : Bool) → five_checks a b c d relay ≡ 0 → five_checks a b c d (reply || relay) ≡ (if reply then 5 else 0)
unfolding first_applying
longer_goes true b c d reply relay z = absurd (omega arith)
longer_goes false true c d reply relay z = absurd (omega arith)
longer_goes false false true d reply relay z = absurd (omega arith)
longer_goes false false false true reply relay z = absurd (omega arith)
longer_goes false false false false reply true z = absurd (omega arith)
longer_goes false false false false true false z = refl
longer_goes false false false false false false z = refl

module _ (tables : Tables) (time c : ℕ) (reply relay : List ℕ) where
  -- neither costs anything
  abbrev free : ltb (level_now (bucket_of tables.allowances (partner_of c)) time) 0 ≡ false
  free = le-ltb (level_now (bucket_of tables.allowances (partner_of c)) time) 0 (omega arith)

  abbrev by_lengths : Bool → ℕ
  by_lengths =
      five_checks (wrong_size tables) (past_limit time || ltb time (clock tables.allowances)) (leb connection_count c) (is_closed tables.connections c)

  as_close : check tables (closing time c relay) ≡ by_lengths (ltb (length relay) least_buffer)
  unfolding check checks first_eight wrong_time wrong_state wrong_lengths not_from_peer not_permitted no_session above_level caller_level price
  as_close = rw free

  as_keepalive : check tables (keepalive time c reply relay) ≡ by_lengths (ltb (length reply) least_buffer || ltb (length relay) least_buffer)
  unfolding check checks first_eight wrong_time wrong_state wrong_lengths not_from_peer not_permitted no_session above_level caller_level price
  as_keepalive = rw free

  pub keepalive_stops : (refusal : Refusal) → number_of refusal ≡ check tables (closing time c relay)
      → number_of refusal ≡ check tables (keepalive time c reply relay)
  keepalive_stops refusal e =
      e ∙ as_close ∙ longer_stops _ _ _ _ (ltb (length reply) least_buffer) _ (λ z. number-some refusal (e ∙ as_close ∙ z)) ∙ sym as_keepalive

  module _ (e : 0 ≡ check tables (closing time c relay)) where
    with-reply : check tables (keepalive time c reply relay) ≡ (if ltb (length reply) least_buffer then 5 else 0)
    with-reply =
        as_keepalive ∙ longer_goes _ _ _ _ (ltb (length reply) least_buffer) (ltb (length relay) least_buffer) (sym (e ∙ as_close))

    pub keepalive-wrong_lengths : length reply < least_buffer → 5 ≡ check tables (keepalive time c reply relay)
    keepalive-wrong_lengths l = sym (with-reply ∙ rw (lt-ltb (length reply) least_buffer l))

    pub keepalive-passes : least_buffer ≤ length reply → 0 ≡ check tables (keepalive time c reply relay)
    keepalive-passes l = sym (with-reply ∙ rw (le-ltb (length reply) least_buffer l))

-- what passed checks show of it
pub keepalive-known : (tables : Tables) (time c : ℕ) (reply relay : List ℕ) → 0 ≡ check tables (keepalive time c reply relay)
    → (c < connection_count) × (least_buffer ≤ length reply) × (least_buffer ≤ length relay)
unfolding wrong_lengths
keepalive-known tables time c reply relay e =
    let fits = either_false _ _ (right_lengths tables (keepalive time c reply relay) e) in
    (call_known tables (keepalive time c reply relay) e, ltb-false _ _ fits.0, ltb-false _ _ fits.1)
