-- A journal that is not contradicted is bounded: its replay keeps the clock and the buckets of its history, and that history is lawful. Assumes
-- nothing.
use Rattle.std.specs.Prelude.{if◌then◌else◌}
use Prim.Native.Nat.{ℕ, ◌+◌, ◌^◌, ◌≤◌, ◌<◌}
use mathlib.Core.Path.{◌≡◌, refl, sym, ap, ◌∙◌}
use mathlib.Core.Bool.{Bool, true, false, cond, ◌&&◌}
use mathlib.Core.List.{List, [], ◌∷◌, ◌++◌, map-append, foldl, foldl-append, append_assoc, append-nil}
use native.Mathlib.Nat.{lt_of_lt_of_le}
use native.Mathlib.Omega.{arith}
use lib.Dec.{eqb, lit≤}
use lib.ListN.{length}
use borrow.Author.Tests.{eqb-true, eqb-false}
use Rattle.octets.proofs.Tests.{and-false}
use Rattle.octets.proofs.Stores.{length-put}
use Rattle.allowance.specs.Bucket.{Bucket, full, level_now, spend}
use Rattle.allowance.specs.History.{Entry, paid, level_from_history, latest}
use Rattle.allowance.specs.Lawful.{Admissible, Lawful, bucket_after, level_from}
use Rattle.allowance.proofs.Numbers.{level≤capacity, full-level}
use Rattle.allowance.proofs.Entries.{forward, paid_parts, latest-last, bucket-last}
use Rattle.allowance.proofs.Lawful.{whole-at, lawful-front, lawful-full, lawful-level, lawful-whole, lawful-bounded}
use Rattle.rules.specs.Sizes.{partners, allowances_size, time_limit}
use Rattle.rules.specs.Tables.{partner_of, bucket_of, set_bucket, set_clock, fresh}
use Rattle.rules.specs.Tables as tables
use Rattle.rules.proofs.Allowances.{bucket-set, bucket-other, bucket-clocked, clock-set, fresh-bucket, fresh-clock}
use Rattle.rules.proofs.Fresh.{fresh-sizes}
use Rattle.journal.specs.Records.{Record, record_bytes}
use Rattle.journal.specs.Contradictions.{is_done, has_charge}
use Rattle.journal.specs.Replays.{records_of, tail_of, Ledger, Verdict, agrees, contradicted_at, is_contradicted, advance, judge, replay_from, table_ledger, settled, check_replay, replay}
use Rattle.journal.specs.Plain.{replay_plain}
use Rattle.journal.specs.PlaceClaims.{state_at}
use Rattle.journal.specs.BoundClaims.{entry_of, history_of, BoundedBy, BoundedIfPassed, JournalBounded}
use Rattle.journal.specs.ContradictionClaims.{Consistent}
use Rattle.journal.proofs.Contradictions.{consistent}
use Rattle.journal.proofs.Plain.{in_limit, replays_agree}
use Rattle.journal.proofs.Places.{places}

-- ---- one record that does not contradict

module _ (al : List ℕ) (size : length al ≡ allowances_size) (r : Record) (e : is_contradicted table_ledger al r ≡ false) where
  abbrev p : ℕ
  p = partner_of r.connection

  right : Consistent (tables.clock al) (level_now (bucket_of al p) r.time) r
  unfolding is_contradicted
  right = consistent _ _ r e

  p< : p < partners
  p< = omega (arith, right.connected)

  cell : r.time < 256 ^ 8
  cell = lt_of_lt_of_le right.timely (lit≤ tt)

  abbrev spent : ℕ → Bucket
  spent q = spend (bucket_of al q) r.time r.charge

  -- with its charge stored, or none
  abbrev charged : Bool → List ℕ
  charged k = if k then set_bucket al p (spent p) else al

  charged-size : (k : Bool) → length (charged k) ≡ allowances_size
  charged-size true = length-put al _ _ ∙ size
  charged-size false = size

  charged-bucket : (k x : Bool) (q : ℕ) → eqb p q ≡ x → bucket_of (charged k) q ≡ cond (x && k) (spent q) (bucket_of al q)
  charged-bucket true true q x =
      rw (← eqb-true p q x) (bucket-set al size p (spent p) p< (omega (arith, level≤capacity (bucket_of al p) r.time)) cell)
  charged-bucket true false q x = bucket-other al p (spent p) q (λ f. eqb-false p q x (sym f))
  charged-bucket false x q h = rw (and-false x)

  -- a done record is settled, and a refused one leaves all
  by_answer : (P : Bool → List ℕ → Type 0) → P true (set_clock (charged (has_charge r)) r.time) → P false al → P (is_done r) (advance table_ledger al r)
  unfolding advance settled
  by_answer P done refused = go (is_done r)
    where
      go : (d : Bool) → P d (if d then settled al r else al)
      go true = done
      go false = refused

  size-next : length (advance table_ledger al r) ≡ allowances_size
  size-next = by_answer (λ d x. length x ≡ allowances_size) (length-put (charged (has_charge r)) _ _ ∙ charged-size (has_charge r)) size

  clock-next : tables.clock (advance table_ledger al r) ≡ cond (entry_of r).accepted r.time (tables.clock al)
  clock-next =
      by_answer (λ d x. tables.clock x ≡ cond d r.time (tables.clock al))
      (clock-set (charged (has_charge r)) (charged-size (has_charge r)) r.time cell) refl

  bucket-next : (q : ℕ) → q < partners → bucket_of (advance table_ledger al r) q ≡ cond (paid q (entry_of r)) (spent q) (bucket_of al q)
  unfolding paid
  bucket-next q q< =
      by_answer (λ d x. bucket_of x q ≡ cond (eqb p q && (d && has_charge r)) (spent q) (bucket_of al q))
      (bucket-clocked (charged (has_charge r)) r.time q q< ∙ charged-bucket (has_charge r) (eqb p q) q refl)
      (rw (and-false (eqb p q)))

-- ---- records of which none contradicts

abbrev start : ℕ → ℕ → Bucket
start now p = full now

abbrev after : (now term : ℕ) → List Record → List ℕ
after now term rs = foldl (advance table_ledger) (fresh now term).allowances rs

-- the entries before one are those of the records before one
record Cut (rs : List Record) (front : List Entry) (e : Entry) : Type 0 where
  before : List Record
  here : Record
  later : List Record
  cut : rs ≡ before ++ (here ∷ later)
  before_is : history_of before ≡ front
  here_is : entry_of here ≡ e

cut_of : (rs : List Record) (front : List Entry) (e : Entry) (back : List Entry) → history_of rs ≡ front ++ (e ∷ back) → Cut rs front e
cut_of [] [] e back q = absurd (let z : ◌≡◌ {A = ℕ} 0 1 = cc in omega arith)
cut_of [] (x ∷ front) e back q = absurd (let z : ◌≡◌ {A = ℕ} 0 1 = cc in omega arith)
cut_of (r ∷ rs) [] e back q = record { before = []; here = r; later = rs; cut = refl; before_is = refl; here_is = cc }
cut_of (r ∷ rs) (x ∷ front) e back q =
    let c = cut_of rs front e back (cc) in
    record {
      before = r ∷ c.before;
      here = c.here;
      later = c.later;
      cut = cc c.cut;
      before_is = cc c.before_is;
      here_is = c.here_is;
    }

module _ (now term : ℕ) (limit : now < time_limit) (rs : List Record)
    (ok : (before : List Record) (r : Record) (later : List Record) → rs ≡ before ++ (r ∷ later) → is_contradicted table_ledger (after now term before) r ≡ false) where
  -- the table has the clock and the buckets of the history
  record Kept (before : List Record) : Type 0 where
    sized : length (after now term before) ≡ allowances_size
    clocked : tables.clock (after now term before) ≡ latest now (history_of before)
    bucketed : (p : ℕ) → p < partners → bucket_of (after now term before) p ≡ bucket_after p (full now) (history_of before)

  kept_next : (before : List Record) (r : Record) → is_contradicted table_ledger (after now term before) r ≡ false → Kept before
      → Kept (before ++ (r ∷ []))
  kept_next before r e k = record {
    sized = rw table (size-next al k.sized r e);
    clocked =
        rw (table, history, latest-last now (history_of before) (entry_of r), ← k.clocked)
        (clock-next al k.sized r e);
    bucketed = λ p p<.
        rw (table, history, bucket-last p (full now) (history_of before) (entry_of r), ← k.bucketed p p<)
        (bucket-next al k.sized r e p p<);
  }
    where
      al : List ℕ
      al = after now term before

      table : after now term (before ++ (r ∷ [])) ≡ advance table_ledger al r
      table = foldl-append (advance table_ledger) _ before (r ∷ [])

      history : history_of (before ++ (r ∷ [])) ≡ history_of before ++ (entry_of r ∷ [])
      history = map-append entry_of before (r ∷ [])

  kept : (before later : List Record) → rs ≡ before ++ later → Kept before
  unfolding latest bucket_after
  kept before later cut =
      forward Kept before
      (record { sized = (fresh-sizes now term).allowances; clocked = fresh-clock now term limit; bucketed = fresh-bucket now term limit })
      (λ front r back c k. kept_next front r (ok front r (back ++ later) (cut ∙ rw (c, append_assoc front (r ∷ back) later))) k)

  module _ (before : List Record) (r : Record) (later : List Record) (cut : rs ≡ before ++ (r ∷ later)) where
    holds : Kept before
    holds = kept before (r ∷ later) cut

    told : Consistent (tables.clock (after now term before)) (level_now (bucket_of (after now term before) (partner_of r.connection)) r.time) r
    told = right (after now term before) holds.sized r (ok before r later cut)

    ordered : latest now (history_of before) ≤ r.time
    ordered = rw (← holds.clocked) told.ordered

    admissible : Admissible (level_from (start now)) now (history_of before) (entry_of r)
    admissible = record {
      in_order = λ d. ordered;
      within_left = λ p q.
          let parts = paid_parts p (entry_of r) q in
          let p< : p < partners = omega (arith, told.connected, parts.0) in
          rw (← holds.bucketed p p<, ← parts.0) (told.covered parts.1);
    }

  lawful : Lawful (level_from (start now)) now (history_of rs)
  unfolding Lawful
  lawful front e back q = go (cut_of rs front e back q)
    where
      go : Cut rs front e → Admissible (level_from (start now)) now front e
      go c = rw (← c.before_is, ← c.here_is) (admissible c.before c.here c.later c.cut)

  level-kept : (before later : List Record) → rs ≡ before ++ later → (p t : ℕ) → p < partners → latest now (history_of before) ≤ t
      → level_now (bucket_of (after now term before) p) t ≡ level_from_history p t (history_of before)
  level-kept before later cut p t p< late =
      ap (λ (b : Bucket). level_now b t) ((kept before later cut).bucketed p p<)
      ∙ lawful-level (start now) p now t (history_of before)
      (lawful-front (level_from (start now)) now (history_of rs) (history_of before) (history_of later) (ap history_of cut ∙ map-append entry_of before later) lawful)
      (λ u l. rw (full-level now u) (omega arith)) late

  bounded-by : BoundedBy now rs (after now term rs)
  bounded-by =
      let full = lawful-full (start now) now (history_of rs) lawful in
      let whole : rs ≡ rs ++ [] = sym (append-nil rs) in
      record {
        lawful = full;
        bounded = lawful-bounded now (history_of rs) full;
        clocked = (kept rs [] whole).clocked;
        levels = level-kept rs [] whole;
        none_below_zero = λ p t late earlier e later cut q.
            whole-at p t earlier e later (rw cut at (lawful-whole p now t (history_of rs) full late)) q;
        in_order = ordered;
        refused = λ before r later cut nine.
            let k = told before r later cut in
            rw (← level-kept before (r ∷ later) cut (partner_of r.connection) r.time (omega (arith, k.connected)) (ordered before r later cut))
            (k.refused nine);
      }

-- ---- the replay

goes_on : {State : Type 0} (c : Bool) (place : ℕ) (v : Verdict State) (end : State) → (if c then contradicted_at place else v) ≡ agrees end
    → (c ≡ false) × (v ≡ agrees end)
goes_on true place v end e = absurd (let z : ◌≡◌ {A = ℕ} 0 1 = cc in omega arith)
goes_on false place v end e = (refl, e)

-- where a replay agrees, no record contradicts
passes : {State : Type 0} (L : Ledger State) (place tail : ℕ) (s end : State) (before : List Record) (r : Record) (later : List Record)
    → judge L place tail s (before ++ (r ∷ later)) ≡ agrees end → is_contradicted L (foldl (advance L) s before) r ≡ false
unfolding judge
passes L place tail s end [] r later e = (goes_on (is_contradicted L s r) _ _ _ e).0
passes L place tail s end (x ∷ before) r later e =
    passes L (place + record_bytes) tail (advance L s x) end before r later (goes_on (is_contradicted L s x) _ _ _ e).1

bounded : (al j : List ℕ) (now term : ℕ) → BoundedIfPassed now j (replay al j now term)
unfolding replay_from state_at records_of
bounded al j now term n c =
    let answer = places.replayed al j now term in
    let e : check_replay al now term ≡ 0 = sym answer.number ∙ n in
    let agreed = ((places.judged table_ledger (fresh now term).allowances j).agreed _).1 (refl, (answer.agreed e).0 c) in
    rw (answer.given e c).1
    (bounded-by now term (in_limit al now term e) (records_of j)
    (λ before r later cut. passes table_ledger 0 (tail_of j) _ _ before r later (rw cut at agreed)))

-- The plain replay agrees with it, and has the same levels from the same clock on.
bounded-plain : (al j : List ℕ) (now term : ℕ) → BoundedIfPassed now j (replay_plain al j now term)
bounded-plain al j now term n c =
    let same = replays_agree al j now term in
    let n' = sym same.numbers ∙ n in
    let c' = sym same.verdicts ∙ c in
    let b = bounded al j now term n' c' in
    let tables = same.tables n' c' in
    record {
      lawful = b.lawful;
      bounded = b.bounded;
      clocked = tables.clocks ∙ b.clocked;
      levels = λ p t p< late. tables.levels p t p< (rw b.clocked late) ∙ b.levels p t p< late;
      none_below_zero = b.none_below_zero;
      in_order = b.in_order;
      refused = b.refused;
    }

pub journal_bounded : JournalBounded
journal_bounded = record { replayed = bounded; replayed_plain = bounded-plain }
