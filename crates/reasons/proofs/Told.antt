-- What C is told is what the rules explain. Assumes nothing.
use mathlib.Core.Path.{◌≡◌, refl}
use mathlib.Core.Logic.{◌↔◌}
use mathlib.Core.Option.{Option, none, some}
use native.Mathlib.Omega.{arith}
use lib.IntN.{ℤ, pos}
use Rattle.rules.specs.Leases.{LeaseDecision}
use Rattle.rules.specs.Sessions.{EstablishDecision}
use Rattle.rules.specs.Reasons.{Decided, undecided, of_lease, of_establish, condition_of, status_of, Reason}
use Rattle.reasons.specs.Coded.{named, request_of, condition_number, charged_of, headroom_of, coded, Tells}

is-lease : (x : Decided) → (request_of (named x) ≡ 1) ↔ ((d : LeaseDecision) × (x ≡ of_lease d) × (condition_number (named x) ≡ condition_of d))
is-lease undecided = ((λ e. absurd (omega arith)), (λ q. cc q.1))
is-lease (of_lease d) = ((λ e. (d, refl, refl)), (λ q. refl))
is-lease (of_establish d) = ((λ e. absurd (omega arith)), (λ q. cc q.1))

is-establish : (x : Decided) → (request_of (named x) ≡ 2) ↔ ((d : EstablishDecision) × (x ≡ of_establish d) × (condition_number (named x) ≡ status_of d))
is-establish undecided = ((λ e. absurd (omega arith)), (λ q. cc q.1))
is-establish (of_lease d) = ((λ e. absurd (omega arith)), (λ q. cc q.1))
is-establish (of_establish d) = ((λ e. (d, refl, refl)), (λ q. refl))

is-other : (x : Decided) → (request_of (named x) ≡ 0) ↔ ((x ≡ undecided) × (condition_number (named x) ≡ 0))
is-other undecided = ((λ e. (refl, refl)), (λ q. refl))
is-other (of_lease d) = ((λ e. absurd (omega arith)), (λ q. cc q.0))
is-other (of_establish d) = ((λ e. absurd (omega arith)), (λ q. cc q.0))

is-charged : (h : Option ℤ) → (charged_of h ≡ 1) ↔ (h ≡ some (headroom_of h))
is-charged none = ((λ e. absurd (omega arith)), (λ q. cc q))
is-charged (some z) = ((λ e. refl), (λ q. refl))

is_free_lem : (h : Option ℤ) → (charged_of h ≡ 0) ↔ ((h ≡ none) × (headroom_of h ≡ pos 0))
is_free_lem none = ((λ e. (refl, refl)), (λ q. refl))
is_free_lem (some z) = ((λ e. absurd (omega arith)), (λ q. cc q.0))

pub told : (x : Reason) → Tells x (coded x)
told x = record {
  check = refl;
  lease = is-lease x.decided;
  establish = is-establish x.decided;
  other = is-other x.decided;
  charged = is-charged x.headroom;
  free = is_free_lem x.headroom;
}
