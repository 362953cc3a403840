-- Each check applies exactly if its sentence holds, and the answer's number is that of the first which applies. Assumes nothing.
use Prim.Native.Nat.{ℕ, zero, suc, ◌+◌, ◌-◌, ◌≤◌, ◌<◌, max}
use mathlib.Core.Path.{◌≡◌, refl, sym, ap, ◌∙◌}
use mathlib.Core.Logic.{⊎_elim, ◌↔◌}
use mathlib.Core.Bool.{Bool, true, false, not, ◌||◌, true≢false, false≢true}
use mathlib.Core.Option.{Option, none, some}
use mathlib.Core.List.{List, [], ◌∷◌, map}
use native.Mathlib.Nat.{zero-add}
use native.Mathlib.Omega.{arith}
use lib.Dec.{eqb, leb}
use lib.ListN.{length, get_or}
use borrow.Author.Tests.{eq-eqb, ne_eqb, not-true}
use Rattle.octets.proofs.Tests.{by_test}
use Rattle.svsc.specs.Messages.{Message, sent_by_peers, type_of, is_some, decode, from_peer, types_in}
use Rattle.rules.specs.Sizes.{connection_count, connections_size, leases_size, allowances_size, time_limit, random_bytes, least_buffer}
use Rattle.rules.specs.Tables.{Tables, closed, state, in_session, has_session, clock, term_in_range, sized}
use Rattle.rules.specs.Calls.{Call, opening, message, closing, keepalive, time_of, connection_of, Answer}
use Rattle.rules.specs.Charges.{price, caller_level}
use Rattle.rules.specs.Checks.{wrong_time, wrong_state, wrong_lengths, not_from_peer, permitted, permits, not_permitted, no_session, above_level, first_eight, checks, first_applying, check, wrong_term, check_start}
use Rattle.rules.specs.Step.{step, start, started}
use Rattle.rules.specs.Refusals.{Applies, RightSizes, is_one_of, permitted_types, InWrongState, OfWrongLengths, SentByPeer, NotSentByPeer, NotPermittedHere, WithoutSession, EachExactly, MayBeNamed, StartExactly}
use Rattle.rules.proofs.Exactly.{not-le, eq-exactly, lt-exactly, le-exactly, not-exactly, and-exactly, or-exactly, false-exactly, never}
use Rattle.rules.proofs.Connections.{session_with}
use Rattle.rules.proofs.Checks.{none_applies, all_pass, first_applies, applied-first, at_most}
use Rattle.rules.proofs.Answers.{answer-is-check}
use Rattle.rules.proofs.Demand3.{start-number}

-- ---- tables by type

-- a row says true of the types that it has, and of no others
below : (row : List Bool) (k n : ℕ) → n < k → is_one_of n (types_in k row) ≡ false
unfolding is_one_of types_in
below [] k n l = refl
below (true ∷ row) k n l = rw (ne_eqb n k (λ e. omega arith)) (below row (k + 1) n (omega arith))
below (false ∷ row) k n l = below row (k + 1) n (omega arith)

row_is : (row : List Bool) (k i : ℕ) → get_or row i false ≡ is_one_of (k + i) (types_in k row)
unfolding is_one_of types_in
row_is [] k i = refl
row_is (true ∷ row) k zero = rw (eq-eqb (k + 0) k (omega arith))
row_is (true ∷ row) k (suc i) =
    let e : k + suc i ≡ k + 1 + i = omega arith in
    rw (ne_eqb (k + suc i) k (λ e. omega arith)) (row_is row (k + 1) i ∙ ap (λ (n : ℕ). is_one_of n (types_in (k + 1) row)) (sym e))
row_is (false ∷ row) k zero = sym (below row (k + 1) (k + 0) (omega arith))
row_is (false ∷ row) k (suc i) = let e : k + suc i ≡ k + 1 + i = omega arith in row_is row (k + 1) i ∙ ap (λ (n : ℕ). is_one_of n (types_in (k + 1) row)) (sym e)

at_type : (row : List Bool) (type : ℕ) → get_or row type false ≡ is_one_of type (types_in 0 row)
at_type row type = row_is row 0 type ∙ ap (λ (n : ℕ). is_one_of n (types_in 0 row)) (zero-add type)

-- "is a table of three rows and fourteen columns; awaiting permits 1 only, open permits 2, 4, 6, 9, 11, 13"
pub permitted_types_lem : (s type : ℕ) → permits s type ≡ is_one_of type (permitted_types s)
unfolding types_in
permitted_types_lem zero type = at_type (get_or permitted 0 []) type
permitted_types_lem (suc zero) type = at_type (get_or permitted 1 []) type
permitted_types_lem (suc (suc zero)) type = at_type (get_or permitted 2 []) type
permitted_types_lem (suc (suc (suc s))) type =
    rw (ne_eqb (suc (suc (suc s))) 1 (λ e. omega arith), ne_eqb (suc (suc (suc s))) 2 (λ e. omega arith)) (at_type [] type)

pub table_shape : map length permitted ≡ 14 ∷ 14 ∷ 14 ∷ []
table_shape = refl

-- ---- each check

right_sizes : (tables : Tables) → (sized tables ≡ true) ↔ RightSizes tables
unfolding sized
right_sizes tables =
    let e = and-exactly _ _ (and-exactly _ _ (eq-exactly _ connections_size) (eq-exactly _ leases_size)) (eq-exactly _ allowances_size) in (
      (λ h. let q = e.0 h in record { connections = q.0.0; leases = q.0.1; allowances = q.1 }),
      (λ q. e.1 ((q.connections, q.leases), q.allowances)),
    )

read_exactly : (m : List ℕ) → (from_peer m ≡ true) ↔ SentByPeer m
unfolding from_peer types_in
read_exactly m = and-exactly (get_or sent_by_peers (type_of m) false) (is_some (decode m)) peers (go (decode m))
  where
    peers : (get_or sent_by_peers (type_of m) false ≡ true) ↔ (is_one_of (type_of m) (1 ∷ 2 ∷ 4 ∷ 6 ∷ 9 ∷ 11 ∷ 13 ∷ []) ≡ true)
    peers = let e = at_type sent_by_peers (type_of m) in ((λ h. sym e ∙ h), (λ h. e ∙ h))

    go : (o : Option Message) → (is_some o ≡ true) ↔ ((x : Message) × (o ≡ some x))
    go none = ((λ h. absurd (false≢true h)), (λ q. absurd (let z : ◌≡◌ {A = ℕ} 0 1 = cc q.1 in omega arith)))
    go (some x) = ((λ h. (x, refl)), (λ q. refl))

without_session : (cs : List ℕ) (c : ℕ) → (not (has_session cs c) ≡ true) ↔ ((d : ℕ) → in_session cs c d ≡ true → ⊥)
unfolding has_session
without_session cs c = (
  (λ h d s. true≢false (sym (session_with cs c d s) ∙ not-true _ h)),
  (λ n. ⊎_elim (λ s. absurd (n _ s)) (λ s. rw s) (by_test (has_session cs c))),
)

module _ (tables : Tables) where
  open tables use {connections as cs}

  state-exactly : (call : Call) → (wrong_state cs call ≡ true) ↔ InWrongState cs call
  unfolding wrong_state
  state-exactly (opening now c reply) = not-exactly _ (eq-exactly (state cs c) closed)
  state-exactly (message now c m random reply relay) = eq-exactly (state cs c) closed
  state-exactly (closing now c relay) = eq-exactly (state cs c) closed
  state-exactly (keepalive now c reply relay) = eq-exactly (state cs c) closed

  lengths_exactly : (call : Call) → (wrong_lengths call ≡ true) ↔ OfWrongLengths call
  unfolding wrong_lengths
  lengths_exactly (opening now c reply) = lt-exactly (length reply) least_buffer
  lengths_exactly (message now c m random reply relay) =
      or-exactly _ _
      (or-exactly _ _ (not-exactly _ (eq-exactly (length random) random_bytes)) (lt-exactly (length reply) least_buffer))
      (lt-exactly (length relay) (max least_buffer (length m)))
  lengths_exactly (closing now c relay) = lt-exactly (length relay) least_buffer
  lengths_exactly (keepalive now c reply relay) =
      or-exactly _ _ (lt-exactly (length reply) least_buffer) (lt-exactly (length relay) least_buffer)

  peer-exactly : (call : Call) → (not_from_peer call ≡ true) ↔ NotSentByPeer call
  unfolding not_from_peer
  peer-exactly (opening now c reply) = never
  peer-exactly (message now c m random reply relay) = not-exactly _ (read_exactly m)
  peer-exactly (closing now c relay) = never
  peer-exactly (keepalive now c reply relay) = never

  permitted-exactly : (call : Call) → (not_permitted cs call ≡ true) ↔ NotPermittedHere cs call
  unfolding not_permitted
  permitted-exactly (opening now c reply) = never
  permitted-exactly (message now c m random reply relay) =
      rw (permitted_types_lem (state cs c) (type_of m)) (false-exactly (is_one_of (type_of m) (permitted_types (state cs c))))
  permitted-exactly (closing now c relay) = never
  permitted-exactly (keepalive now c reply relay) = never

  without_exactly : (call : Call) → (no_session cs call ≡ true) ↔ WithoutSession cs call
  unfolding no_session
  without_exactly (opening now c reply) = never
  without_exactly (message now c m random reply relay) =
      and-exactly _ _ (or-exactly _ _ (eq-exactly (type_of m) 9) (eq-exactly (type_of m) 11)) (without_session cs c)
  without_exactly (closing now c relay) = never
  without_exactly (keepalive now c reply relay) = never

  pub each_exactly : (call : Call) → EachExactly tables call
  unfolding checks first_eight wrong_time above_level caller_level
  each_exactly call = record {
    one = not-exactly (sized tables) (right_sizes tables);
    two = or-exactly _ _ (le-exactly time_limit (time_of call)) (lt-exactly (time_of call) (clock tables.allowances));
    three = le-exactly connection_count (connection_of call);
    four = state-exactly call;
    five = lengths_exactly call;
    six = peer-exactly call;
    seven = permitted-exactly call;
    eight = without_exactly call;
    nine = lt-exactly _ (price tables call);
  }

-- ---- "the first that applies decides"

module _ (tables : Tables) (call : Call) where
  pub number-at-most : (step tables call).answer.number ≤ 9
  unfolding check checks first_eight
  number-at-most = rw (answer-is-check tables call) (at_most 0 (checks tables call))

  pub fails : (i : ℕ) → (Applies (suc i) tables call → ⊥) → get_or (checks tables call) i false ≡ false
  fails i n =
      let e : suc i - 1 ≡ i = omega arith in
      ⊎_elim (λ h. absurd ((rw e at n) h)) (λ h. h) (by_test (get_or (checks tables call) i false))

  -- Done exactly if no check applies,
  pub done-exactly : ((step tables call).answer.number ≡ 0) ↔ ((n : ℕ) → 1 ≤ n → Applies n tables call → ⊥)
  unfolding check
  done-exactly = rw (answer-is-check tables call) (
    (λ e n l h. true≢false (sym h ∙ none_applies 0 (checks tables call) e (n - 1))),
    (λ f. all_pass 1 (checks tables call) (λ i. fails i (f (suc i) (omega arith)))),
  )

  -- and answered with n exactly if check n applies and no earlier one does.
  pub number-exactly : (n : ℕ) → 1 ≤ n
      → ((step tables call).answer.number ≡ n) ↔ (Applies n tables call × ((k : ℕ) → 1 ≤ k → k < n → Applies k tables call → ⊥))
  unfolding check
  number-exactly n l = rw (answer-is-check tables call) (
    (λ e.
        let first = applied-first 0 (checks tables call) (n - 1) (e ∙ omega arith) in
        (first.0, λ k l u h. true≢false (sym h ∙ first.1 (k - 1) (omega arith)))),
    (λ q. first_applies 1 (checks tables call) (n - 1) q.0 (λ i u. fails i (q.1 (suc i) (omega arith) (omega arith))) ∙ omega arith),
  )

-- ---- making a fresh relay

-- a test that says no says that it is not so
said_no : {A : Type 0} → (false ≡ true) ↔ A → A → ⊥
said_no e x = false≢true (e.1 x)

may_be_named : (term : ℕ) → (eqb term 0 || term_in_range term ≡ true) ↔ MayBeNamed term
unfolding term_in_range
may_be_named term = or-exactly _ _ (eq-exactly term 0) (and-exactly _ _ (le-exactly 600 term) (le-exactly term 86400))

module _ (tables : Tables) (now term : ℕ) where
  -- what the three tests, of the sizes, of the time and of the term, come to
  by_tests : (s t u : Bool) → (s ≡ true) ↔ RightSizes tables → (t ≡ true) ↔ (time_limit ≤ now) → (u ≡ true) ↔ MayBeNamed term → (a : Answer)
      → a.number ≡ first_applying 1 (not s ∷ t ∷ false ∷ false ∷ false ∷ not u ∷ [])
      → a ≡ record { number = a.number; reply_length = 0; relay_length = 0; destination = 255; disconnect = false }
      → StartExactly tables now term a
  unfolding first_applying is_one_of
  by_tests false t u right late named a e sent = record {
    done = ((λ z. absurd (omega arith)), (λ q. absurd (said_no right q.0)));
    one = ((λ z. said_no right), (λ n. e));
    two = ((λ z. absurd (omega arith)), (λ q. absurd (said_no right q.0)));
    six = ((λ z. absurd (omega arith)), (λ q. absurd (said_no right q.0)));
    no_other = rw e;
    nothing_sent = sent;
  }
  by_tests true true u right late named a e sent = record {
    done = ((λ z. absurd (omega arith)), (λ q. absurd (omega (arith, late.0 refl, q.1))));
    one = ((λ z. absurd (omega arith)), (λ n. absurd (n (right.0 refl))));
    two = ((λ z. (right.0 refl, late.0 refl)), (λ q. e));
    six = ((λ z. absurd (omega arith)), (λ q. absurd (omega (arith, late.0 refl, q.1))));
    no_other = rw e;
    nothing_sent = sent;
  }
  by_tests true false true right late named a e sent = record {
    done = ((λ z. (right.0 refl, not-le (said_no late), named.0 refl)), (λ q. e));
    one = ((λ z. absurd (omega arith)), (λ n. absurd (n (right.0 refl))));
    two = ((λ z. absurd (omega arith)), (λ q. absurd (said_no late q.1)));
    six = ((λ z. absurd (omega arith)), (λ q. absurd (q.2 (named.0 refl))));
    no_other = rw e;
    nothing_sent = sent;
  }
  by_tests true false false right late named a e sent = record {
    done = ((λ z. absurd (omega arith)), (λ q. absurd (said_no named q.2)));
    one = ((λ z. absurd (omega arith)), (λ n. absurd (n (right.0 refl))));
    two = ((λ z. absurd (omega arith)), (λ q. absurd (said_no late q.1)));
    six = ((λ z. (right.0 refl, not-le (said_no late), said_no named)), (λ q. e));
    no_other = rw e;
    nothing_sent = sent;
  }

  pub start-exactly : StartExactly tables now term (start tables now term).answer
  unfolding start check_start wrong_term
  start-exactly =
      by_tests (sized tables) (leb time_limit now) (eqb term 0 || term_in_range term) (right_sizes tables) (le-exactly time_limit now) (may_be_named term)
      (start tables now term).answer
      (start-number tables now term)
      (go (check_start tables now term))
    where
      go : (n : ℕ) → (started n tables now term).answer
          ≡ record { number = (started n tables now term).answer.number; reply_length = 0; relay_length = 0; destination = 255; disconnect = false }
      go zero = refl
      go (suc n) = refl
