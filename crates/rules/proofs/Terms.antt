-- How long leases last (02, Item 6): how it is read from the tables, and that no call changes it. Assumes nothing.
use Rattle.std.specs.Prelude.{if◌then◌else◌}
use Prim.Native.Nat.{ℕ, ◌≤◌}
use mathlib.Core.Path.{◌≡◌, refl, ◌∙◌}
use mathlib.Core.Logic.{⊎_elim}
use mathlib.Core.List.{List}
use native.Mathlib.Omega.{arith}
use lib.Dec.{eqb, leb, lit≤}
use borrow.Author.Tests.{leb-true, le-leb, lt-leb, eq-eqb, ne_eqb}
use Rattle.octets.proofs.Tests.{both_right}
use Rattle.rules.specs.Tables.{Tables, stored_term, term_in_range, lease_term}
use Rattle.rules.specs.Layout.{TermRead}
use Rattle.rules.specs.Calls.{Call}
use Rattle.rules.specs.Refusals.{MayBeNamed}
use Rattle.rules.specs.Step.{step, start}
use Rattle.rules.specs.Runs.{after}
use Rattle.rules.proofs.Runs.{run_keeps}
use Rattle.rules.proofs.Plans.{by_test}
use Rattle.rules.proofs.Fresh.{fresh_ninth}
use Rattle.rules.proofs.Demand3.{started-fresh, started_in_limit}
use Rattle.rules.proofs.Refusals.{start-exactly}
use Rattle.rules.proofs.Laws.{term_not-written}

-- ---- how it is read

pub term_read : (al : List ℕ) → TermRead al
unfolding lease_term term_in_range
term_read al =
    let t = stored_term al in
    record {
      old = λ z. rw (eq-eqb t 0 z);
      in_range = λ l u. rw (ne_eqb t 0 (λ z. omega arith), le-leb 600 t l, le-leb t 86400 u);
      below = λ l u. rw (ne_eqb t 0 (λ z. omega arith), lt-leb 600 t u);
      above = λ l. rw (ne_eqb t 0 (λ z. omega arith), le-leb 600 t (omega arith), lt-leb t 86400 l);
    }

-- never more than a day
pub term_most : (al : List ℕ) → lease_term al ≤ 86400
unfolding lease_term term_in_range
term_most al =
    by_test (λ (n : ℕ). n ≤ 86400) (eqb (stored_term al) 0) (λ e. lit≤ tt)
    (λ e. by_test (λ (n : ℕ). n ≤ 86400) (term_in_range (stored_term al)) (λ r. leb-true (stored_term al) 86400 (both_right (leb 600 (stored_term al)) _ r)) (λ r. lit≤ tt))

-- ---- calls and runs

-- A call leaves it as it was, refused or done.
pub term_kept : (tables : Tables) (call : Call) → lease_term (step tables call).tables.allowances ≡ lease_term tables.allowances
unfolding lease_term
term_kept tables call = rw (term_not-written tables call)

-- So at every later moment the tables keep what they kept,
pub stored_term_stays : (calls : List Call) (tables : Tables) → stored_term (after tables calls).allowances ≡ stored_term tables.allowances
stored_term_stays calls tables =
    run_keeps (λ t. stored_term t.allowances ≡ stored_term tables.allowances) (λ t call e s. term_not-written t call ∙ s) calls tables refl

-- and leases last as long as before.
pub term_stays : (calls : List Call) (tables : Tables) → lease_term (after tables calls).allowances ≡ lease_term tables.allowances
unfolding lease_term
term_stays calls tables = rw (stored_term_stays calls tables)

module _ (lent : Tables) (now term : ℕ) (e : (start lent now term).answer.number ≡ 0) where
  abbrev made : Tables
  made = (start lent now term).tables

  -- "naming 0 means 600"
  abbrev named : ℕ
  named = if eqb term 0 then 600 else term

  may_be_named : MayBeNamed term
  may_be_named = ((start-exactly lent now term).done.0 e).2

  kept : stored_term made.allowances ≡ named
  kept =
      rw (started-fresh lent now term e)
      (fresh_ninth now term (started_in_limit lent now term e) (⊎_elim (λ z. omega arith) (λ q. omega (arith, q.1)) may_be_named)).0

  read : lease_term made.allowances ≡ named
  read = ⊎_elim default other may_be_named
    where
      default : term ≡ 0 → lease_term made.allowances ≡ named
      default z = (term_read _).in_range (rw (kept, z) (lit≤ tt)) (rw (kept, z) (lit≤ tt)) ∙ kept

      other : (600 ≤ term) × (term ≤ 86400) → lease_term made.allowances ≡ named
      other q =
          let is : named ≡ term = rw (ne_eqb term 0 (λ z. omega (arith, q.0))) in
          (term_read _).in_range (rw (kept, is) q.0) (rw (kept, is) q.1) ∙ kept

  -- The term of a run is the one that its start named, at every later moment: the tables keep it,
  pub run_keeps_term : (calls : List Call) → stored_term (after made calls).allowances ≡ named
  run_keeps_term calls = stored_term_stays calls made ∙ kept

  -- and so long last the leases that are given, renewed or extended then: it is what MessageLaws.lease-told, lease-renewed and extension-told call
  -- `term`.
  pub run_term : (calls : List Call) → lease_term (after made calls).allowances ≡ named
  run_term calls = term_stays calls made ∙ read
