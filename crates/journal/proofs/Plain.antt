-- The two replays agree on every byte string. Two ledgers that are related, and stay so with each done record, judge all journals alike; the allowance
-- table and the levels are such. Assumes nothing.
use Rattle.std.specs.Prelude.{if◌then◌else◌}
use Prim.Native.Nat.{ℕ, zero, suc, ◌+◌, ◌-◌, ◌^◌, ◌≤◌, ◌<◌}
use mathlib.Core.Path.{◌≡◌, refl, sym, ap, ◌∙◌}
use mathlib.Core.Logic.{◌≢◌}
use mathlib.Core.Bool.{Bool, true, false, not, ◌&&◌, ◌||◌}
use mathlib.Core.List.{List, [], ◌∷◌}
use native.Mathlib.Nat.{lt_of_lt_of_le}
use native.Mathlib.Omega.{arith}
use native.Mathlib.Decide.{ℕ_discrete}
use lib.Dec.{eqb, leb, lit≤, lit<}
use borrow.Author.Tests.{eqb-true, leb-true, leb-false, not-false}
use lib.ListN.{length, get_or, length-set, get_or-replicate}
use lib.Seq.{get_or-set_same, get_or-set_other}
use Rattle.octets.proofs.Tests.{both_right}
use Rattle.octets.proofs.Stores.{length-put}
use Rattle.allowance.specs.Bucket.{capacity, Bucket, level_now, spend}
use Rattle.allowance.proofs.Numbers.{level≤capacity, level-plain, full-level}
use Rattle.rules.specs.Sizes.{partners, allowances_size, connection_count, time_limit, default_term, shortest_term, longest_term}
use Rattle.rules.specs.Tables.{partner_of, bucket_of, set_bucket, set_clock, stored_term, named_term, term_in_range, fresh}
use Rattle.rules.specs.Tables as tables
use Rattle.rules.specs.Checks.{wrong_term}
use Rattle.rules.proofs.Allowances.{bucket-set, bucket-other, bucket-clocked, clock-set, fresh-bucket, fresh-clock, fresh_term}
use Rattle.rules.proofs.Checks.{none_applies}
use Rattle.rules.proofs.Fresh.{fresh-sizes}
use Rattle.journal.specs.Records.{Record, record_bytes}
use Rattle.journal.specs.Contradictions.{contradicts, is_done}
use Rattle.journal.specs.Replays.{Ledger, Verdict, agrees, contradicted_at, is_contradicted, advance, judge, tail_of, records_of, replay_from, table_ledger, settled, check_replay, concluded, answered_with, replay}
use Rattle.journal.specs.Plain.{Levels, levels_at, plain_ledger, fresh_levels, level_table, as_table, replay_plain}
use Rattle.journal.specs.PlainClaims.{SameLevels, SameReplay, ReplaysAgree}
use Rattle.journal.specs.ContradictionClaims.{Consistent}
use Rattle.journal.proofs.Contradictions.{consistent}
use Rattle.journal.proofs.Filling.{length-filled, level-filled, level-later}
use Rattle.journal.proofs.LevelTables.{term_bucket, term_clock, table_size, table_clock, table_term, table_bucket}

-- ---- two related ledgers

-- The level only matters where connection and reading are right.
same-judged : (clock level other : ℕ) (r : Record) → (r.connection < connection_count → clock ≤ r.time → level ≡ other)
    → contradicts clock level r ≡ contradicts clock other r
same-judged clock level other r same = go (contradicts clock level r) (contradicts clock other r) refl refl
  where
    by : r.connection < connection_count → clock ≤ r.time → contradicts clock level r ≡ contradicts clock other r
    by c t = ap (λ (n : ℕ). contradicts clock n r) (same c t)

    go : (a b : Bool) → contradicts clock level r ≡ a → contradicts clock other r ≡ b → contradicts clock level r ≡ contradicts clock other r
    go true true e f = e ∙ sym f
    go false b e f = let k = consistent clock level r e in by k.connected k.ordered
    go true false e f = let k = consistent clock other r f in by k.connected k.ordered

module _ {A B : Type 0} (R : A → B → Type 0) where
  -- both name the same place, or both agree, and what they end with is related
  data Related : Verdict A → Verdict B → Type 0 where
    both_agree : {a : A} {b : B} → R a b → Related (agrees a) (agrees b)
    both_name : (place : ℕ) → Related (contradicted_at place) (contradicted_at place)

-- The ledgers have the same clock, and the same levels from it on; a record that does not contradict keeps them related.
record Simulates {A B : Type 0} (K : Ledger A) (L : Ledger B) (R : A → B → Type 0) : Type 0 where
  same_clock : {a : A} {b : B} → R a b → K.clock a ≡ L.clock b
  same_level : {a : A} {b : B} → R a b → (p time : ℕ) → p < partners → K.clock a ≤ time → K.level a p time ≡ L.level b p time
  kept : {a : A} {b : B} → R a b → (r : Record) → Consistent (K.clock a) (K.level a (partner_of r.connection) r.time) r
      → R (K.settle a r) (L.settle b r)

module _ {A B : Type 0} (K : Ledger A) (L : Ledger B) (R : A → B → Type 0) (sim : Simulates K L R) where
  same-contradicted : (a : A) (b : B) → R a b → (r : Record) → is_contradicted K a r ≡ is_contradicted L b r
  unfolding is_contradicted
  same-contradicted a b h r =
      same-judged (K.clock a) _ _ r (λ c t. sim.same_level h (partner_of r.connection) r.time (omega arith) t)
      ∙ ap (λ (n : ℕ). contradicts n (L.level b (partner_of r.connection) r.time) r) (sim.same_clock h)

  stay_related : (a : A) (b : B) → R a b → (r : Record) → is_contradicted K a r ≡ false → R (advance K a r) (advance L b r)
  unfolding is_contradicted advance
  stay_related a b h r e = go (is_done r)
    where
      go : (d : Bool) → R (if d then K.settle a r else a) (if d then L.settle b r else b)
      go true = sim.kept h r (consistent _ _ r e)
      go false = h

  judge_related : (place tail : ℕ) (a : A) (b : B) → R a b → (rs : List Record) → Related R (judge K place tail a rs) (judge L place tail b rs)
  unfolding judge
  judge_related place tail a b h [] = go (eqb tail 0)
    where
      go : (t : Bool) → Related R (if t then agrees a else contradicted_at place) (if t then agrees b else contradicted_at place)
      go true = both_agree h
      go false = both_name place
  judge_related place tail a b h (r ∷ rs) =
      rw (← same-contradicted a b h r)
      (go (is_contradicted K a r) (λ e. judge_related (place + record_bytes) tail (advance K a r) (advance L b r) (stay_related a b h r e) rs))
    where
      go : {v : Verdict A} {w : Verdict B} (c : Bool) → (c ≡ false → Related R v w)
          → Related R (if c then contradicted_at place else v) (if c then contradicted_at place else w)
      go true rest = both_name place
      go false rest = rest refl

-- ---- the allowance table and the levels

-- a table that has the term and, at the levels' reading, those levels
record Holds (term : ℕ) (al : List ℕ) (s : Levels) : Type 0 where
  sized : length al ≡ allowances_size
  counted : length s.levels ≡ partners
  timely : s.clock < time_limit
  termed : stored_term al ≡ named_term term
  past : (p : ℕ) → p < partners → (bucket_of al p).updated ≤ s.clock
  leveled : (p : ℕ) → p < partners → level_now (bucket_of al p) s.clock ≡ get_or s.levels p 0

-- and that reading as its clock
record Same (term : ℕ) (al : List ℕ) (s : Levels) : Type 0 where
  holds : Holds term al s
  clocked : tables.clock al ≡ s.clock

cell : (n : ℕ) → n < time_limit → n < 256 ^ 8
cell n h = lt_of_lt_of_le h (lit≤ tt)

-- The clock is stored apart from all else.
with-clock : (term : ℕ) (al : List ℕ) (s : Levels) → Holds term al s → Same term (set_clock al s.clock) s
with-clock term al s h = record {
  holds = record {
    sized = length-put al _ _ ∙ h.sized;
    counted = h.counted;
    timely = h.timely;
    termed = term_clock al s.clock ∙ h.termed;
    past = λ p l. rw (bucket-clocked al s.clock p l) (h.past p l);
    leveled = λ p l. rw (bucket-clocked al s.clock p l) (h.leveled p l);
  };
  clocked = clock-set al h.sized s.clock (cell s.clock h.timely);
}

module _ (term : ℕ) (al : List ℕ) (s : Levels) (h : Same term al s) where
  -- From the clock on the levels are the table's.
  levels-at : (p time : ℕ) → p < partners → s.clock ≤ time → level_now (bucket_of al p) time ≡ get_or (levels_at s time) p 0
  unfolding levels_at
  levels-at p time p< l =
      let now : level_now (bucket_of al p) s.clock ≡ get_or s.levels p 0 = h.holds.leveled p p< in
      level-later (bucket_of al p) s.clock time (h.holds.past p p<) l
      ∙ rw now
      (sym (level-filled (time - s.clock) s.levels p (omega (arith, h.holds.counted)) (omega (arith, level≤capacity (bucket_of al p) s.clock))))

  -- A record that does not contradict:
  module _ (r : Record) (k : Consistent s.clock (level_now (bucket_of al (partner_of r.connection)) r.time) r) where
    abbrev p : ℕ
    p = partner_of r.connection

    abbrev at-time : List ℕ
    at-time = levels_at s r.time

    abbrev next : Levels
    next = plain_ledger.settle s r

    p< : p < partners
    p< = omega (arith, k.connected)

    length_at : length at-time ≡ partners
    unfolding levels_at
    length_at = length-filled (r.time - s.clock) s.levels ∙ h.holds.counted

    -- its partner's level is less by the charge, and no other's.
    own : get_or next.levels p 0 ≡ level_now (bucket_of al p) r.time - r.charge
    own =
        get_or-set_same at-time p _ 0 (omega (arith, p<, length_at))
        ∙ ap (λ (n : ℕ). n - r.charge) (sym (levels-at p r.time p< k.ordered))

    others : (q : ℕ) → q < partners → q ≢ p → level_now (bucket_of al q) r.time ≡ get_or next.levels q 0
    others q q< n = levels-at q r.time q< k.ordered ∙ sym (get_or-set_other at-time p q _ 0 n)

    -- So a table holds them where its own record is right, and the others are as before:
    holds_next : (x : List ℕ) → length x ≡ allowances_size → stored_term x ≡ stored_term al → ((q : ℕ) → q ≢ p → bucket_of x q ≡ bucket_of al q)
        → (bucket_of x p).updated ≤ r.time → level_now (bucket_of x p) r.time ≡ get_or next.levels p 0 → Holds term x next
    holds_next x size same-term rest before level = record {
      sized = size;
      counted = length-set at-time p _ ∙ length_at;
      timely = k.timely;
      termed = same-term ∙ h.holds.termed;
      past = λ q q<. past q q< (ℕ_discrete q p);
      leveled = λ q q<. leveled q q< (ℕ_discrete q p);
    }
      where
        past : (q : ℕ) → q < partners → Dec (q ≡ p) → (bucket_of x q).updated ≤ r.time
        past q q< (yes e) = rw e before
        past q q< (no n) = rw (rest q n) (omega (arith, h.holds.past q q<, k.ordered))

        leveled : (q : ℕ) → q < partners → Dec (q ≡ p) → level_now (bucket_of x q) r.time ≡ get_or next.levels q 0
        leveled q q< (yes e) = rw e level
        leveled q q< (no n) = rw (rest q n) (others q q< n)

    -- where a charge is stored,
    abbrev left : Bucket
    left = spend (bucket_of al p) r.time r.charge

    charged : Holds term (set_bucket al p left) next
    charged =
        let least : level_now (bucket_of al p) r.time ≤ capacity = level≤capacity (bucket_of al p) r.time in
        let stored : bucket_of (set_bucket al p left) p ≡ left =
        bucket-set al h.holds.sized p left p< (omega arith) (cell r.time k.timely) in
        holds_next (set_bucket al p left) (length-put al _ _ ∙ h.holds.sized) (term_bucket al p left p<) (λ q n. bucket-other al p left q n)
        (rw stored (omega arith)) (rw stored (level-plain left r.time ∙ omega (arith, own)))

    -- and where there is none.
    free : r.charge ≡ 0 → Holds term al next
    free z =
        holds_next al h.holds.sized refl (λ q n. refl) (omega (arith, h.holds.past p p<, k.ordered)) (omega (arith, own))

    settles : Same term (settled al r) next
    unfolding settled
    settles = go (eqb r.charge 0) refl
      where
        go : (b : Bool) → eqb r.charge 0 ≡ b → Same term (set_clock (if not b then set_bucket al p left else al) r.time) next
        go true e = with-clock term al next (free (eqb-true r.charge 0 e))
        go false e = with-clock term (set_bucket al p left) next charged

simulates : (term : ℕ) → Simulates table_ledger plain_ledger (Same term)
simulates term = record {
  same_clock = λ {a} {b} h. h.clocked;
  same_level = λ {a} {b} h p time p< l. levels-at term a b h p time p< (rw (← h.clocked) l);
  kept = λ {a} {b} h r k. settles term a b h r (rw h.clocked at k);
}

-- ---- both replays

fresh-same : (now term : ℕ) → now < time_limit → named_term term < 256 ^ 8 → Same term (fresh now term).allowances (fresh_levels now)
fresh-same now term h c = record {
  holds = record {
    sized = (fresh-sizes now term).allowances;
    counted = refl;
    timely = h;
    termed = fresh_term now term h c;
    past = λ p p<. rw (fresh-bucket now term h p p<) (omega arith);
    leveled = λ p p<. rw (fresh-bucket now term h p p<) (full-level now now ∙ sym (get_or-replicate partners p capacity 0 p<));
  };
  clocked = fresh-clock now term h;
}

-- The tables that they make of what is related.
same_tables : (term : ℕ) (al : List ℕ) (s : Levels) → named_term term < 256 ^ 8 → Same term al s → SameLevels al (level_table term s)
same_tables term al s c h = record {
  sizes = (h.holds.sized, table_size term s counted timely);
  clocks = table_clock term s counted timely ∙ sym h.clocked;
  terms = table_term term s counted timely c ∙ sym h.holds.termed;
  filled = filled;
  levels = λ p time p< l.
      rw (filled p p<)
      (level-plain _ time ∙ sym (level-later (bucket_of al p) (tables.clock al) time (rw h.clocked (h.holds.past p p<)) l));
}
  where
    counted : length s.levels ≡ partners
    counted = h.holds.counted

    timely : s.clock < time_limit
    timely = h.holds.timely

    filled : (p : ℕ) → p < partners
        → bucket_of (level_table term s) p ≡ record { level = level_now (bucket_of al p) (tables.clock al); updated = tables.clock al }
    filled p p< =
        let level : level_now (bucket_of al p) s.clock ≡ get_or s.levels p 0 = h.holds.leveled p p< in
        table_bucket term s counted timely p p< (omega (arith, level≤capacity (bucket_of al p) s.clock))
        ∙ rw (h.clocked, level)

-- A start that is not refused: its reading is below 2^40, and its term fits a cell.
module _ (al : List ℕ) (now term : ℕ) (e : check_replay al now term ≡ 0) where
  pub in_limit : now < time_limit
  unfolding check_replay
  in_limit = leb-false time_limit now (none_applies 0 _ e 1)

  named_cell : named_term term < 256 ^ 8
  unfolding check_replay wrong_term term_in_range named_term
  named_cell = go (eqb term 0) (not-false _ (none_applies 0 _ e 5))
    where
      go : (b : Bool) → b || (leb shortest_term term && leb term longest_term) ≡ true → (if b then default_term else term) < 256 ^ 8
      go true h = lit< tt
      go false h = omega (arith, leb-true term longest_term (both_right (leb shortest_term term) _ h))

concluded-same : (al : List ℕ) (term : ℕ) (v : Verdict (List ℕ)) (w : Verdict Levels) → named_term term < 256 ^ 8 → Related (Same term) v w
    → SameReplay al (concluded al v) (concluded al (as_table term w))
concluded-same al term v w c (both_agree {a = a} {b = b} h) = record {
  numbers = refl;
  verdicts = refl;
  places = refl;
  tables = λ n d. same_tables term a b c h;
  refused = λ n. absurd (n refl);
  named = λ n. absurd (n refl);
}
concluded-same al term v w c (both_name place) = record {
  numbers = refl;
  verdicts = refl;
  places = refl;
  tables = λ n d. absurd (omega arith);
  refused = λ n. (refl, refl);
  named = λ n. (refl, refl);
}

pub replays_agree : ReplaysAgree
unfolding replay replay_plain replay_from
replays_agree al journal now term = go (check_replay al now term) refl
  where
    go : (n : ℕ) → check_replay al now term ≡ n
        → SameReplay al (answered_with n al (replay_from table_ledger (fresh now term).allowances journal))
        (answered_with n al (as_table term (replay_from plain_ledger (fresh_levels now) journal)))
    go zero e =
        let c = named_cell al now term e in
        let start = fresh-same now term (in_limit al now term e) c in
        concluded-same al term _ _ c
        (judge_related table_ledger plain_ledger (Same term) (simulates term) 0 (tail_of journal) (fresh now term).allowances (fresh_levels now) start (records_of journal))
    go (suc n) e = record {
      numbers = refl;
      verdicts = refl;
      places = refl;
      tables = λ z d. absurd (omega arith);
      refused = λ m. (refl, refl);
      named = λ m. (refl, refl);
    }
