-- Reasons as C has them: the rules' reasons as numbers.
use Rattle.std.specs.Prelude.{ℕ, ◌≡◌, ◌↔◌, ℤ, pos}
use Rattle.std.proofs.Math.Option.{Option, none, some}
use Rattle.rules.specs.Leases.{LeaseDecision}
use Rattle.rules.specs.Sessions.{EstablishDecision}
use Rattle.rules.specs.Reasons as rules
use Rattle.reasons.specs.declared.Reason.{Reason}
use Rattle.reasons.specs.declared.Named.{Named}
use Rattle.reasons.specs.declared.Named.TheVariants as named_by

-- what decided a call
abbrev pub named : rules.Decided → Named
named rules.undecided = named_by.Nothing
named (rules.of_lease d) = named_by.Lease (rules.condition_of d)
named (rules.of_establish d) = named_by.Session (rules.status_of d)

-- 1 a done lease, 2 a done establish, 0 anything else; another number is told as it stands
abbrev pub request_of : Named → ℕ
request_of named_by.Nothing = 0
request_of (named_by.Lease condition) = 1
request_of (named_by.Session status) = 2
request_of (named_by.Other request condition) = request

-- the condition, or the status
abbrev pub condition_number : Named → ℕ
condition_number named_by.Nothing = 0
condition_number (named_by.Lease condition) = condition
condition_number (named_by.Session status) = status
condition_number (named_by.Other request condition) = condition

-- "elsewhere it says there is none and reports 0"
abbrev pub charged_of : Option ℤ → ℕ
charged_of none = 0
charged_of (some z) = 1

abbrev pub headroom_of : Option ℤ → ℤ
headroom_of none = pos 0
headroom_of (some z) = z

abbrev pub reason_of : ℕ → Named → Option ℤ → Reason
reason_of check x h =
    record { check = check; request = request_of x; condition = condition_number x; charged = charged_of h; headroom = headroom_of h }

abbrev pub coded : rules.Reason → Reason
coded x = reason_of x.check (named x.decided) x.headroom

-- what the numbers tell, in both directions: "1 a done lease, 2 a done establish, 0 anything else"; the condition or the status, "else 0"; "1 where
-- there is a headroom; else 0, and the headroom is 0"
pub record Tells (x : rules.Reason) (r : Reason) : Type 0 where
  pub check : r.check ≡ x.check
  pub lease : (r.request ≡ 1) ↔ ((d : LeaseDecision) × (x.decided ≡ rules.of_lease d) × (r.condition ≡ rules.condition_of d))
  pub establish : (r.request ≡ 2) ↔ ((d : EstablishDecision) × (x.decided ≡ rules.of_establish d) × (r.condition ≡ rules.status_of d))
  pub other : (r.request ≡ 0) ↔ ((x.decided ≡ rules.undecided) × (r.condition ≡ 0))
  pub charged : (r.charged ≡ 1) ↔ (x.headroom ≡ some r.headroom)
  pub free : (r.charged ≡ 0) ↔ ((x.headroom ≡ none) × (r.headroom ≡ pos 0))
