-- What the code's decisions mean, in the rules' terms, and what a message costs by them.
use Rattle.std.specs.Prelude.{ℕ, ◌+◌, List, eqb, length, drop, if◌then◌else◌}
use Rattle.svsc.specs.Messages.{type_of}
use Rattle.rules.specs.Sizes.{call_cost}
use Rattle.rules.specs.Decisions as rules
use Rattle.rules.specs.Prices.{sent_bytes}
use Rattle.leases.specs.Leases as leases
use Rattle.statuses.specs.Decisions.{numbered_as}
use Rattle.decisions.specs.declared.Decision.{Decision}
use Rattle.decisions.specs.declared.Decision.TheVariants as case

-- each case, of a message m with these random bytes: data is all of the message but its type
abbrev pub meaning : Decision → List ℕ → List ℕ → rules.Decision
meaning (case.AnswerVersion ok) m random = rules.version_answered ok
meaning (case.Lease d) m random = rules.lease_decided (leases.meaning d random)
meaning (case.Extend row) m random = rules.extension_decided row
meaning (case.Establish id d) m random = rules.session_decided id (numbered_as d)
meaning (case.EndSession other) m random = rules.session_ended other
meaning (case.SendData other) m random = rules.data_sent other (drop 1 m)
meaning case.Nothing m random = rules.nothing_asked

-- The same decision, naming this other connection. 02, Item 4: "a send looks its session up once": whoever decides is handed what that found, and
-- names no other, whatever the caller's record says.
abbrev pub naming : ℕ → rules.Decision → rules.Decision
naming other (rules.version_answered ok) = rules.version_answered ok
naming other (rules.lease_decided d) = rules.lease_decided d
naming other (rules.extension_decided row) = rules.extension_decided row
naming other (rules.session_decided id d) = rules.session_decided id d
naming other (rules.session_ended d) = rules.session_ended other
naming other (rules.data_sent d bytes) = rules.data_sent other bytes
naming other rules.nothing_asked = rules.nothing_asked

-- SessionEnd stays free
abbrev pub price_of : ℕ → List ℕ → rules.Decision → ℕ
price_of c m d = if eqb (type_of m) 9 then 0 else call_cost + length m + sent_bytes c d
