-- What the answers of the code on leases mean: for each case of an enum what it stands for, in the rules' terms.
use Rattle.std.specs.Prelude.{ℕ, List, ltb, Option, Some, None, Result, Ok, Err, if◌then◌else◌}
use Rattle.rules.specs.Sizes.{candidate_count}
use Rattle.rules.specs.Leases as rules
use Rattle.leases.specs.declared.LeaseGrant.{LeaseGrant}
use Rattle.leases.specs.declared.LeaseGrant.TheVariants as grant
use Rattle.leases.specs.declared.LeaseRefusal.{LeaseRefusal}
use Rattle.leases.specs.declared.LeaseRefusal.TheVariants as refusal

-- "The first free candidate": its id, or none if no candidate is free
unfoldable pub free_id : List ℕ → ℕ → List ℕ → Option ℕ
free_id ls now random =
    if ltb (rules.first_free ls now random) candidate_count then Some (rules.candidate random (rules.first_free ls now random)) else None

-- the number of each condition, in 01's order
abbrev pub condition_number : LeaseRefusal → ℕ
condition_number refusal.HoldsLease = 1
condition_number refusal.NoSpareRow = 2
condition_number refusal.CookieInUse = 3
condition_number refusal.NoFreeId = 4

-- each case of a lease decision on these random bytes: "the draw's bytes 0-23" are the cookie of a new lease
abbrev pub meaning : Result LeaseGrant LeaseRefusal → List ℕ → rules.LeaseDecision
meaning (Err refusal.HoldsLease) random = rules.holds_lease
meaning (Err refusal.NoSpareRow) random = rules.no_spare_row
meaning (Err refusal.CookieInUse) random = rules.cookie_in_use
meaning (Err refusal.NoFreeId) random = rules.no_free_id
meaning (Ok (grant.Renewed row)) random = rules.renewed row
meaning (Ok (grant.New row id)) random = rules.granted row id (rules.random_cookie random)
