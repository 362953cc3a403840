-- What the code's decisions mean, in the rules' terms.
use Rattle.std.specs.Prelude.{ℕ, Result, Ok, Err}
use Rattle.rules.specs.Sessions as rules
use Rattle.statuses.specs.declared.Status.{Status}
use Rattle.statuses.specs.declared.Status.TheVariants as status

-- the protocol's number of each status
abbrev pub status_number : Status → ℕ
status_number status.IdNotFound = 1
status_number status.HolderOffline = 2
status_number status.HolderBusy = 3
status_number status.CallerBusy = 4
status_number status.HolderIsCaller = 5

abbrev pub decided_as : Result ℕ Status → rules.EstablishDecision
decided_as (Err why) = rules.refused_with (status_number why)
decided_as (Ok holder) = rules.established_with holder

-- the same by the number of the status, whatever number it is
abbrev pub numbered_as : Result ℕ ℕ → rules.EstablishDecision
numbered_as (Err status) = rules.refused_with status
numbered_as (Ok holder) = rules.established_with holder
