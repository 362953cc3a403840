-- The relay is metered as 01 says. Assumes nothing.
use Rattle.std.specs.Prelude.{if◌then◌else◌}
use Prim.Native.Nat.{ℕ, ◌*◌, ◌≤◌, ◌<◌, min}
use mathlib.Core.Path.{◌≡◌, refl, sym, ap, ◌∙◌}
use mathlib.Core.Bool.{Bool, true, false, cond, ◌&&◌}
use mathlib.Core.List.{List}
use native.Mathlib.Nat.{lt_of_lt_of_le}
use native.Mathlib.Omega.{arith}
use lib.Dec.{eqb, lit≤}
use lib.ListN.{length}
use borrow.Author.Tests.{eqb-true, eqb-false}
use Rattle.octets.proofs.Stores.{length-put}
use Rattle.allowance.specs.Bucket.{capacity, refill_rate, Bucket, spend}
use Rattle.allowance.specs.Meter.{Metered}
use Rattle.allowance.proofs.Numbers.{level≤capacity}
use Rattle.rules.specs.Sizes.{partners, allowances_size, greatest_price, retry_after, time_limit}
use Rattle.rules.specs.Tables.{Tables, bucket_of, clock, set_bucket, set_clock, allowance_at, bucket_bytes}
use Rattle.rules.specs.Calls.{Call, time_of, caller_of, Outcome}
use Rattle.rules.specs.Charges.{charged, cost, price, caller_level, charge}
use Rattle.rules.specs.Plans.{plan}
use Rattle.rules.specs.Checks.{precheck, first_eight}
use Rattle.rules.specs.Step.{step, done}
use Rattle.rules.specs.Runs.{relay_meter}
use Rattle.rules.proofs.Checks.{at_most, check-verdict, Passed, passed}
use Rattle.rules.proofs.Prices.{prices}
use Rattle.rules.proofs.Allowances.{bucket-set, bucket-other, bucket-clocked, clock-set}
use Rattle.rules.proofs.Answers.{answer-is-check, refused-leaves-all, is-done, done_passed}

-- ---- the allowances after a charge

module _ (al : List ℕ) (call : Call) (amount : ℕ) where
  length-charge : length (charge al call amount) ≡ length al
  unfolding charge
  length-charge = go (charged call) _ _
    where
      go : (k : Bool) (p : ℕ) (b : Bucket) → length (if k then set_bucket al p b else al) ≡ length al
      go true p b = length-put al (allowance_at p) (bucket_bytes b)
      go false p b = refl

  -- the caller's record is spent, and no other changes
  bucket-charge : length al ≡ allowances_size → caller_of call < partners → time_of call < time_limit → (p : ℕ)
      → bucket_of (charge al call amount) p
      ≡ cond (charged call && eqb (caller_of call) p) (spend (bucket_of al p) (time_of call) amount) (bucket_of al p)
  unfolding charge
  bucket-charge size q< now< p = go (charged call) (eqb (caller_of call) p) refl
    where
      q : ℕ
      q = caller_of call

      b : ℕ → Bucket
      b p = spend (bucket_of al p) (time_of call) amount

      own : q ≡ p → bucket_of (set_bucket al q (b q)) p ≡ b p
      own e =
          rw (← e)
          (bucket-set al size q (b q) q<
          (omega (arith, level≤capacity (bucket_of al q) (time_of call)))
          (lt_of_lt_of_le now< (lit≤ tt)))

      go : (k x : Bool) → eqb q p ≡ x → bucket_of (if k then set_bucket al q (b q) else al) p ≡ cond (k && x) (b p) (bucket_of al p)
      go true true e = own (eqb-true q p e)
      go true false e = bucket-other al q (b q) p (λ f. eqb-false q p e (sym f))
      go false x e = refl

-- ---- the price

-- Three seconds refill more than the dearest call costs.
dearest : greatest_price ≤ min capacity (refill_rate * retry_after)
dearest = lit≤ tt

-- ---- one call

module _ (tables : Tables) (call : Call) (e : (step tables call).answer.number ≡ 0) where
  ok : Passed tables call
  ok = passed tables call (done_passed tables call e)

  charged_table : List ℕ
  charged_table = charge tables.allowances call (price tables call)

  allowances-after : (step tables call).tables.allowances ≡ set_clock charged_table (time_of call)
  unfolding done charged_table
  allowances-after = ap (λ (o : Outcome). o.tables.allowances) (is-done tables call e)

  -- "On 0 the clock cell takes the reading."
  pub clock_takes_time : clock (step tables call).tables.allowances ≡ time_of call
  unfolding charged_table
  clock_takes_time =
      rw allowances-after
      (clock-set charged_table (length-charge tables.allowances call (price tables call) ∙ ok.allowances) (time_of call)
      (lt_of_lt_of_le ok.in_limit (lit≤ tt)))

  pub bucket-stored : (p : ℕ) → p < partners
      → bucket_of (step tables call).tables.allowances p
      ≡ cond
      (charged call && eqb (caller_of call) p)
      (spend (bucket_of tables.allowances p) (time_of call) (price tables call))
      (bucket_of tables.allowances p)
  unfolding charged_table
  bucket-stored p p< =
      rw allowances-after
      (bucket-clocked charged_table (time_of call) p p<
      ∙ bucket-charge tables.allowances call (price tables call) ok.allowances ok.of_partner ok.in_limit p)

-- The bytes of the plan's two messages are those that the answer tells if the call is done.
pub price_if_done : (tables : Tables) (call : Call) → price tables call ≡ cost call (done tables call (plan tables call)).answer
unfolding cost price done
price_if_done tables call = refl

pub charged_as_told : (tables : Tables) (call : Call) → (step tables call).answer.number ≡ 0
    → cost call (step tables call).answer ≡ price tables call
charged_as_told tables call e = rw (is-done tables call e) (sym (price_if_done tables call))

pub relay_metered : Metered relay_meter
relay_metered = record {
  eight = λ tables call. unfold precheck first_eight in at_most 0 (first_eight tables call);
  decided = λ tables call. unfold caller_level in answer-is-check tables call ∙ check-verdict tables call;
  in_order = λ tables call h. (passed tables call h).in_order;
  of_partner = λ tables call h. (passed tables call h).of_partner;
  payable = λ tables call h k. omega (arith, (prices tables).most call h, dearest);
  price_cost = charged_as_told;
  refused = λ tables call n. ap (λ (o : Outcome). o.tables) (refused-leaves-all tables call n);
  clocked = clock_takes_time;
  stored = bucket-stored;
}
