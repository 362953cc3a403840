-- The journal of a run: none of its records contradicts, and what they settle is what the calls do to the allowances. Assumes nothing.
use Rattle.std.specs.Prelude.{if◌then◌else◌}
use Prim.Native.Nat.{ℕ, zero, suc, ◌+◌, ◌%◌, ◌≤◌, ◌<◌}
use mathlib.Core.Path.{◌≡◌, refl, sym, ap, ◌∙◌}
use mathlib.Core.Logic.{⊎_elim}
use mathlib.Core.Bool.{Bool, true, false, not, cond, false≢true}
use mathlib.Core.List.{List, [], ◌∷◌, ◌++◌, map}
use native.Mathlib.Nat.{lt_of_lt_of_le, mod-eq_of_lt}
use native.Mathlib.Omega.{arith}
use lib.Dec.{eqb, leb, ltb, lit≤, lit<}
use lib.ListN.{length, get_or, get_or-eq_default}
use borrow.Author.Tests.{eqb-true, eqb-false, leb-false, ltb-false, not-true, eq-eqb, ne_eqb, le-leb}
use Rattle.octets.specs.Octets.{byte_at, big_endian}
use Rattle.octets.proofs.Tests.{and-false, both_left, either, either_false, le-or-lt}
use Rattle.svsc.specs.Messages.{type_of, sent_by_peers, decode, is_some, from_peer}
use Rattle.allowance.specs.Bucket.{level_now, spend}
use Rattle.allowance.specs.History.{Entry, paid, own}
use Rattle.allowance.specs.Meter as meter
use Rattle.allowance.proofs.Numbers.{verdict-nine, verdict-zero}
use Rattle.rules.specs.Sizes.{allowances_size, connection_count, time_limit, call_cost, greatest_price}
use Rattle.rules.specs.Tables.{Tables, bucket_of, set_bucket, set_clock, clock, fresh}
use Rattle.rules.specs.Calls.{Call, opening, message, closing, keepalive, time_of, connection_of, caller_of, Outcome}
use Rattle.rules.specs.Charges.{charged, price, charge}
use Rattle.rules.specs.Checks.{wrong_time, first_eight, checks, past_limit, wrong_term, precheck, check, check_start}
use Rattle.rules.specs.Step.{step, done, start}
use Rattle.rules.specs.Runs.{relay_meter, after, history}
use Rattle.rules.proofs.Answers.{answer-is-check, is-done}
use Rattle.rules.proofs.Checks.{none_applies, applied-first, all_pass, at_most, free-price, from-peer}
use Rattle.rules.proofs.Demand3.{start-number, started-fresh}
use Rattle.rules.proofs.Metered.{relay_metered}
use Rattle.rules.proofs.Prices.{prices}
use Rattle.connection_map.specs.Steps.{start_with_map}
use Rattle.journal.specs.Records.{Record, record_bytes, call_number, kind_of, unrecorded, priced, no_record, record_with, record_of, written, answer_record}
use Rattle.journal.specs.Contradictions.{has_charge, is_free}
use Rattle.journal.specs.Replays.{agrees, is_contradicted, advance, judge, records_of, replay_from, settled, table_ledger, check_replay, replay}
use Rattle.journal.specs.Steps.{step_recorded, start_recorded, records_of_run, journal_bytes, journal_of}
use Rattle.journal.specs.RecordClaims.{Fits, AllFit}
use Rattle.journal.specs.RunClaims.{as_read, Recorded, RunsReplay}
use Rattle.journal.specs.BoundClaims.{entry_of, history_of}
use Rattle.journal.proofs.Records.{priced_passed}
use Rattle.journal.proofs.Contradictions.{then_fails, uncontradicted}
use Rattle.journal.proofs.Written.{records-kept, journals_kept}

-- ---- the record of a call, as its bytes keep it

abbrev kept_of : Tables → Call → Record
kept_of tables call = as_read (record_of tables call)

one_byte : (k : ℕ) → big_endian 1 (k % 256) ≡ big_endian 1 k
unfolding big_endian
one_byte k = ap (λ (x : ℕ). x ∷ []) (omega arith)

same_bytes : (rs : List Record) → journal_bytes (map as_read rs) ≡ journal_bytes rs
unfolding journal_bytes written as_read
same_bytes [] = refl
same_bytes (r ∷ rs) = rw (one_byte r.kind, same_bytes rs)

same_if_byte : (r : Record) → r.kind < 256 → as_read r ≡ r
unfolding as_read
same_if_byte r h = λ i. record {
  time = r.time;
  connection = r.connection;
  call = r.call;
  kind = mod-eq_of_lt h i;
  answer = r.answer;
  charge = r.charge;
}

four-calls : (call : Call) → call_number call < 4
four-calls (opening now c reply) = lit< tt
four-calls (message now c m random reply relay) = lit< tt
four-calls (closing now c relay) = lit< tt
four-calls (keepalive now c reply relay) = lit< tt

-- A message that peers send has a type of one byte, so what is as_read of it tells a SessionEnd from all others.
type_kept : (m : List ℕ) → from_peer m ≡ true → byte_at m 0 % 256 ≡ type_of m
unfolding from_peer
type_kept [] h = absurd (false≢true h)
type_kept (x ∷ m) h = omega (arith, ⊎_elim past (λ l. l) (le-or-lt (length sent_by_peers) x))
  where
    past : length sent_by_peers ≤ x → x < length sent_by_peers
    past l = absurd (false≢true (sym (get_or-eq_default sent_by_peers false l) ∙ both_left _ (is_some (decode (x ∷ m))) h))

charged-not-free : (tables : Tables) (call : Call) → precheck tables call ≡ 0 → charged call ≡ true → is_free (kept_of tables call) ≡ false
unfolding as_read record_with
charged-not-free tables (opening now c reply) h k = refl
charged-not-free tables (message now c m random reply relay) h k =
    rw (type_kept m (from-peer tables now c m random reply relay h)) (not-true (eqb (type_of m) 9) k)
charged-not-free tables (closing now c relay) h k = absurd (false≢true k)
charged-not-free tables (keepalive now c reply relay) h k = absurd (false≢true k)

-- ---- a call beside its record

module _ (tables : Tables) (call : Call) where
  abbrev al : List ℕ
  al = tables.allowances

  abbrev n : ℕ
  n = (step tables call).answer.number

  abbrev amount : ℕ
  amount = price tables call

  abbrev level : ℕ
  level = level_now (bucket_of al (caller_of call)) (time_of call)

  abbrev r : Record
  r = kept_of tables call

  is-check : n ≡ check tables call
  is-check = answer-is-check tables call

  passed_eight : priced n ≡ true → precheck tables call ≡ 0
  passed_eight h = priced_passed tables call (rw is-check at h)

  -- Charged calls cost something, and no others do.
  costs : not (eqb amount 0) ≡ charged call
  unfolding price
  costs = go (charged call) refl
    where
      go : (k : Bool) → charged call ≡ k → not (eqb amount 0) ≡ k
      go true e = ap not (ne_eqb amount 0 (λ z. let least : call_cost ≤ amount = rw e (omega arith) in omega arith))
      go false e = ap not (eq-eqb amount 0 (free-price tables call e))

  -- The charge, by the answer.
  abbrev charge_with : ℕ → ℕ
  charge_with k = (as_read (record_with k (time_of call) (connection_of call) (call_number call) (kind_of call) amount)).charge

  done-charge : n ≡ 0 → r.charge ≡ amount
  unfolding as_read record_with
  done-charge e = ap charge_with e

  nine-charge : n ≡ 9 → r.charge ≡ amount
  unfolding as_read record_with
  nine-charge e = ap charge_with e

  unpriced_charge : priced n ≡ false → r.charge ≡ 0
  unfolding as_read record_with
  unpriced_charge h = ap (λ (p : Bool). if p then amount else 0) h

  priced-charge : priced n ≡ true → r.charge ≡ amount
  priced-charge h =
      either (eqb n 0) (eqb n 9) h (r.charge ≡ amount) (λ e. done-charge (eqb-true n 0 e)) (λ e. nine-charge (eqb-true n 9 e))

  -- A record has a charge only with 0 and 9, and only of a charged call.
  with-charge : has_charge r ≡ true → (priced n ≡ true) × (charged call ≡ true)
  with-charge h = go (priced n) refl
    where
      go : (p : Bool) → priced n ≡ p → (priced n ≡ true) × (charged call ≡ true)
      go true e = (e, sym costs ∙ rw (priced-charge e) at h)
      go false e = absurd (false≢true (rw (unpriced_charge e) at h))

  charge-most : r.charge ≤ greatest_price
  charge-most = go (priced n) refl
    where
      go : (p : Bool) → priced n ≡ p → r.charge ≤ greatest_price
      go true e = rw (priced-charge e) ((prices tables).most call (passed_eight e))
      go false e = rw (unpriced_charge e) (omega arith)

  -- Check 9, from both sides.
  done-within : n ≡ 0 → amount ≤ level
  done-within e = go (charged call) refl
    where
      go : (k : Bool) → charged call ≡ k → amount ≤ level
      go true k = (verdict-zero _ _ _ _ (sym (relay_metered.decided tables call) ∙ e)).1 k
      go false k = omega (arith, free-price tables call k)

  nine-above : n ≡ 9 → level < amount
  nine-above e = (verdict-nine _ _ _ _ (relay_metered.eight tables call) (sym (relay_metered.decided tables call) ∙ e)).2

  -- What a done record settles is what the done call does, and a refused one leaves all.
  settles : n ≡ 0 → settled al r ≡ set_clock (charge al call amount) (time_of call)
  unfolding settled charge as_read record_with
  settles z = go r.charge (done-charge z)
    where
      go : (x : ℕ) → x ≡ amount
          → set_clock (if not (eqb x 0) then set_bucket al (caller_of call) (spend (bucket_of al (caller_of call)) (time_of call) x) else al) (time_of call)
          ≡ set_clock (charge al call amount) (time_of call)
      go x e = rw (e, costs)

  advances : advance table_ledger al r ≡ (step tables call).tables.allowances
  unfolding advance as_read record_with
  advances = go (eqb n 0) refl
    where
      go : (d : Bool) → eqb n 0 ≡ d → (if d then settled al r else al) ≡ (step tables call).tables.allowances
      go true e = let z = eqb-true n 0 e in settles z ∙ unfold done in ap (λ (o : Outcome). o.tables.allowances) (sym (is-done tables call z))
      go false e = ap (λ (t : Tables). t.allowances) (sym (relay_metered.refused tables call (eqb-false n 0 e)))

  -- 01's history has a done call as its record does.
  abbrev entry : Entry
  entry = meter.entry relay_meter call (step tables call).answer

  told-entry : n ≡ 0 → entry_of r ≡ entry
  unfolding meter.entry as_read record_with
  told-entry z = λ i. record {
    partner = caller_of call;
    time = time_of call;
    accepted = eqb n 0;
    charged = (ap (λ (x : ℕ). not (eqb x 0)) (done-charge z) ∙ costs) i;
    cost = (done-charge z ∙ sym (relay_metered.price_cost tables call z)) i;
  }

  -- a refused one is paid by neither
  refused-unpaid : eqb n 0 ≡ false → (p : ℕ) → (paid p (entry_of r) ≡ false) × (paid p entry ≡ false)
  unfolding paid meter.entry as_read record_with
  refused-unpaid e p = (rw (e, and-false (eqb (caller_of call) p)), rw (e, and-false (eqb (caller_of call) p)))

  -- ---- where checks 1 to 3 are passed

  module _ (h : unrecorded n ≡ false) where
    passed_three : (i : ℕ) → i < 3 → get_or (checks tables call) i false ≡ false
    unfolding check
    passed_three i l = go n (sym is-check) h
      where
        go : (k : ℕ) → check tables call ≡ k → unrecorded k ≡ false → get_or (checks tables call) i false ≡ false
        go zero e u = none_applies 0 (checks tables call) e i
        go (suc k) e u =
            let least : 3 < suc k = leb-false (suc k) 3 (then_fails (leb 1 (suc k)) _ u (le-leb 1 (suc k) (omega arith))) in
            (applied-first 0 (checks tables call) k (e ∙ omega arith)).1 i (omega arith)

    times : (leb time_limit (time_of call) ≡ false) × (ltb (time_of call) (clock al) ≡ false)
    unfolding checks first_eight wrong_time
    times = either_false _ _ (passed_three 1 (lit< tt))

    in_limit : time_of call < time_limit
    in_limit = leb-false time_limit (time_of call) times.0

    known : connection_of call < connection_count
    unfolding checks first_eight
    known = leb-false connection_count (connection_of call) (passed_three 2 (lit< tt))

    at-most-nine : n ≤ 9
    unfolding check checks first_eight
    at-most-nine = rw is-check (at_most 0 (checks tables call))

    fits : Fits r
    unfolding as_read record_with
    fits = record {
      time = lt_of_lt_of_le in_limit (lit≤ tt);
      connection = omega (arith, known);
      call = omega (arith, four-calls call);
      kind = omega arith;
      answer = omega (arith, at-most-nine);
      charge = omega (arith, charge-most);
    }

    not-contradicted : is_contradicted table_ledger al r ≡ false
    unfolding is_contradicted as_read record_with
    not-contradicted =
        uncontradicted (clock al) level r
        (record {
          connected = known;
          called = four-calls call;
          recorded = h;
          known = at-most-nine;
          timely = in_limit;
          ordered = ltb-false _ _ times.1;
          charged = λ c. let p = with-charge c in charged-not-free tables call (passed_eight p.0) p.1;
          chargeable = λ c. (with-charge c).0;
          covered = λ d. let e = eqb-true n 0 d in rw (done-charge e) (done-within e);
          refused = λ e. rw (nine-charge e) (nine-above e);
        })

-- ---- runs

recorded : (tables : Tables) (bits : ℕ) (call : Call) → Recorded tables bits call
unfolding step_recorded answer_record records_of_run journal_bytes
recorded tables bits call = record { as_without = refl; sized = sized b; zeros = λ e. rw e; told = λ e. rw e; appended = λ later. appended b later }
  where
    b : Bool
    b = unrecorded (n tables call)

    bytes : Bool → List ℕ
    bytes u = if u then no_record else written (record_of tables call)

    sized : (u : Bool) → length (bytes u) ≡ record_bytes
    sized true = refl
    sized false = records-kept.sized (record_of tables call)

    appended : (u : Bool) (later : List Call)
        → let rest = records_of_run (step tables call).tables later in
        journal_bytes (if u then rest else record_of tables call ∷ rest) ≡ (if u then [] else bytes u) ++ journal_bytes rest
    appended true later = refl
    appended false later = refl

-- the records of a run: they fit their bytes, and judging them gives the allowances that the calls leave
record Passes (tables : Tables) (calls : List Call) (rs : List Record) : Type 0 where
  all_fit : AllFit rs
  judged : (place : ℕ) → judge table_ledger place 0 tables.allowances rs ≡ agrees (after tables calls).allowances

run_kept : (calls : List Call) (tables : Tables) → Passes tables calls (map as_read (records_of_run tables calls))
unfolding records_of_run judge meter.after
run_kept [] tables = record { all_fit = tt; judged = λ place. refl }
run_kept (call ∷ calls) tables = go (unrecorded (n tables call)) refl (run_kept calls next)
  where
    next : Tables
    next = (step tables call).tables

    go : (u : Bool) → unrecorded (n tables call) ≡ u → Passes next calls (map as_read (records_of_run next calls))
        → Passes tables (call ∷ calls) (map as_read (if u then records_of_run next calls else record_of tables call ∷ records_of_run next calls))
    go true u rest =
        let same : next ≡ tables = relay_metered.refused tables call (λ z. false≢true (sym (ap unrecorded z) ∙ u)) in
        record {
          all_fit = rest.all_fit;
          judged = λ place.
              ap (λ (t : Tables). judge table_ledger place 0 t.allowances (map as_read (records_of_run next calls))) (sym same) ∙ rest.judged place;
        }
    go false u rest = record {
      all_fit = (fits tables call u, rest.all_fit);
      judged = λ place. rw (not-contradicted tables call u, advances tables call) (rest.judged (place + record_bytes));
    }

records_read : (tables : Tables) (calls : List Call) → records_of (journal_of tables calls) ≡ map as_read (records_of_run tables calls)
records_read tables calls =
    ap records_of (sym (same_bytes (records_of_run tables calls))) ∙ journals_kept.read_back _ (run_kept calls tables).all_fit

run_replays : (tables : Tables) (calls : List Call)
    → replay_from table_ledger tables.allowances (journal_of tables calls) ≡ agrees (after tables calls).allowances
unfolding replay_from
run_replays tables calls = rw (journals_kept.no_tail (records_of_run tables calls), records_read tables calls) ((run_kept calls tables).judged 0)

-- Each partner's accepted charged calls are the same in the journal and in history.
own-told : (p : ℕ) (calls : List Call) (tables : Tables) → own p (history_of (map as_read (records_of_run tables calls))) ≡ own p (history tables calls)
unfolding own records_of_run meter.history
own-told p [] tables = refl
own-told p (call ∷ calls) tables = go (unrecorded (n tables call)) (eqb (n tables call) 0) refl refl (own-told p calls next)
  where
    next : Tables
    next = (step tables call).tables

    go : (u z : Bool) → unrecorded (n tables call) ≡ u → eqb (n tables call) 0 ≡ z
        → own p (history_of (map as_read (records_of_run next calls))) ≡ own p (history next calls)
        → own p (history_of (map as_read (if u then records_of_run next calls else record_of tables call ∷ records_of_run next calls)))
        ≡ cond (paid p (entry tables call)) (entry tables call ∷ own p (history next calls)) (own p (history next calls))
    go true true u z same = absurd (false≢true (sym (ap unrecorded (eqb-true (n tables call) 0 z)) ∙ u))
    go true false u z same = rw (refused-unpaid tables call z p).1 same
    go false true u z same = rw (told-entry tables call (eqb-true (n tables call) 0 z), same)
    go false false u z same = let none = refused-unpaid tables call z p in rw (none.0, none.1) same

-- A replay is refused as a start is, the table's size apart.
replay-starts : (lent : Tables) (now term : ℕ) → (start lent now term).answer.number ≡ 0 → (al : List ℕ) → length al ≡ allowances_size
    → check_replay al now term ≡ 0
unfolding check_replay check_start
replay-starts lent now term e al size = all_pass 1 _ go
  where
    go : (i : ℕ) → get_or (not (eqb (length al) allowances_size) ∷ past_limit now ∷ false ∷ false ∷ false ∷ wrong_term term ∷ []) i false ≡ false
    go zero = ap not (eq-eqb (length al) allowances_size size)
    go (suc i) = none_applies 0 _ (sym (start-number lent now term) ∙ e) (suc i)

started : (tables : Tables) (bits now term : ℕ)
    → start_recorded tables bits now term ≡ record { mapped = start_with_map tables bits now term; bytes = no_record }
unfolding start_recorded
started tables bits now term = refl

pub runs_replay : RunsReplay
unfolding replay
runs_replay = record {
  recorded = recorded;
  started = started;
  same_if_byte = same_if_byte;
  records = records_read;
  no_tail = λ tables calls. journals_kept.no_tail (records_of_run tables calls);
  any_tables = run_replays;
  every_run = λ lent now term e calls al size.
      rw (started-fresh lent now term e, replay-starts lent now term e al size, run_replays (fresh now term) calls);
  charges_told = λ tables calls p. rw (records_read tables calls) (own-told p calls tables);
}
