-- A record that does not contradict: what each line of `contradicts` then says, as facts, and the other way. Assumes nothing.
use Prim.Native.Nat.{ℕ, ◌≤◌, ◌<◌}
use mathlib.Core.Path.{◌≡◌, refl, sym, ap, ◌∙◌}
use mathlib.Core.Bool.{Bool, true, false, not, ◌&&◌, ◌||◌, true≢false}
use borrow.Author.Tests.{leb-false, ltb-false, lt-leb, le-ltb, eq-eqb, eqb-true, not-false}
use Rattle.octets.proofs.Tests.{either_false}
use Rattle.rules.specs.Sizes.{connection_count, time_limit}
use Rattle.journal.specs.Records.{Record, unrecorded, priced}
use Rattle.journal.specs.ContradictionClaims.{Consistent, ContradictsExactly}
use Rattle.journal.specs.Contradictions.{is_done, has_charge, is_free, contradicts}

-- the second of two tests fails where the first passes
pub then_fails : (a b : Bool) → a && b ≡ false → a ≡ true → b ≡ false
then_fails true b h e = h
then_fails false b h e = absurd (true≢false (sym e))

pub consistent : (clock level : ℕ) (r : Record) → contradicts clock level r ≡ false → Consistent clock level r
unfolding contradicts
consistent clock level r h =
    let nine = either_false _ _ h in
    let done = either_false _ _ nine.0 in
    let free = either_false _ _ done.0 in
    let time = either_false _ _ free.0 in
    let answer = either_false _ _ time.0 in
    let call = either_false _ _ answer.0 in
    let answers = either_false _ _ answer.1 in
    let times = either_false _ _ time.1 in
    record {
      connected = leb-false _ _ call.0;
      called = leb-false _ _ call.1;
      recorded = answers.0;
      known = ltb-false _ _ answers.1;
      timely = leb-false _ _ times.0;
      ordered = ltb-false _ _ times.1;
      charged = λ e. (either_false (is_free r) _ (then_fails _ _ free.1 e)).0;
      chargeable = λ e. not-false _ (either_false (is_free r) _ (then_fails _ _ free.1 e)).1;
      covered = λ e. ltb-false _ _ (then_fails _ _ done.1 e);
      refused = λ e. leb-false _ _ (then_fails _ _ nine.1 (eq-eqb _ _ e));
    }

-- a test that fails, beside one that does
neither : {a b : Bool} → a ≡ false → b ≡ false → a || b ≡ false
neither {b = b} e f = ap (λ (x : Bool). x || b) e ∙ f

not-both : {a b : Bool} → (a ≡ true → b ≡ false) → a && b ≡ false
not-both {a = true} h = h refl
not-both {a = false} h = refl

pub uncontradicted : (clock level : ℕ) (r : Record) → Consistent clock level r → contradicts clock level r ≡ false
unfolding contradicts
uncontradicted clock level r k =
    neither (neither (neither (neither (neither (neither (lt-leb _ _ k.connected) (lt-leb _ _ k.called))
    (neither k.recorded (le-ltb _ _ k.known)))
    (neither (lt-leb _ _ k.timely) (le-ltb _ _ k.ordered)))
    (not-both (λ e. neither (k.charged e) (ap not (k.chargeable e)))))
    (not-both (λ e. le-ltb _ _ (k.covered e))))
    (not-both (λ e. lt-leb _ _ (k.refused (eqb-true _ _ e))))

pub contradicts-exactly : ContradictsExactly
contradicts-exactly clock level r = (consistent clock level r, uncontradicted clock level r)
