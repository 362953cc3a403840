-- What a decision on a message names: one on a lease or on a session, and nothing else.
use Rattle.rules.specs.Decisions.{Decision, version_answered, lease_decided, extension_decided, session_decided, session_ended, data_sent, nothing_asked}
use Rattle.rules.specs.Reasons.{Decided, undecided, of_lease, of_establish}

abbrev pub decided_by : Decision → Decided
decided_by (version_answered ok) = undecided
decided_by (lease_decided d) = of_lease d
decided_by (extension_decided row) = undecided
decided_by (session_decided id d) = of_establish d
decided_by (session_ended other) = undecided
decided_by (data_sent other bytes) = undecided
decided_by nothing_asked = undecided
