-- `decide`: in each arm what the rules decide.
use borrow.Enum.Refused.{opened}
use mathlib.Core.Path.{refl, ap, ◌∙◌}
use Rattle.rules.specs.Decisions.{decide_message, extension_decided, session_decided}
use Rattle.lease_table.proofs.Rows.{or_end}
use Rattle.lease_search.proofs.Found.{extend-most}
use Rattle.decisions.proofs.Ways.{numbered, none-decides, arm_decides, rest-decides, lease-decides}
use Rattle.decisions.proofs.decide.Goals as goal

pub returns-in_default : goal.returns-in_default
returns-in_default c =
    let a = c.args in
    none-decides a.connections.now a.leases.now a.time a.c a.other a.random.now a.m.now c.in_default.ensures

pub returns-in-VersionAnswer : goal.returns-in-VersionAnswer
unfolding decide_message
returns-in-VersionAnswer c =
    let a = c.args in
    arm_decides a.connections.now a.leases.now a.time a.c a.other a.random.now a.m.now _ c.in-Some.ensures _ _ c.in-VersionAnswer.is refl

pub returns-in-LeaseRequest : goal.returns-in-LeaseRequest
returns-in-LeaseRequest c =
    let a = c.args in
    lease-decides a.connections.now a.leases.now a.time a.c a.other a.random.now a.m.now _ c.in-Some.ensures c.in-LeaseRequest.in-LeaseRequest-own.keys2 _
    (c.decide_lease-lease.ensures ∙ rw c.part-cookie.ensures)

pub returns-in-ExtensionRequest : goal.returns-in-ExtensionRequest
unfolding decide_message
returns-in-ExtensionRequest c =
    let a = c.args in
    arm_decides a.connections.now a.leases.now a.time a.c a.other a.random.now a.m.now _ c.in-Some.ensures _ _ c.in-ExtensionRequest.is
    (ap extension_decided (c.unwrap_or.ensures ∙ rw (c.end_row.ensures, c.partner_of.ensures, ← c.part-cookie-in-ExtensionRequest.ensures)
    (or_end _ _ c.row_to_extend-row.ensures (extend-most _ _ _ _))))

pub returns-in-EstablishRequest : goal.returns-in-EstablishRequest
unfolding decide_message
returns-in-EstablishRequest c =
    let a = c.args in
    arm_decides a.connections.now a.leases.now a.time a.c a.other a.random.now a.m.now _ c.in-Some.ensures _ _ c.in-EstablishRequest.is
    (ap (session_decided c.in-EstablishRequest.id) (numbered _ _ c.map_err.ensures.cases (λ why n h. h) ∙ c.decide-session.ensures))

pub returns-in-SessionEnd : goal.returns-in-SessionEnd
unfolding decide_message
returns-in-SessionEnd c =
    let a = c.args in
    arm_decides a.connections.now a.leases.now a.time a.c a.other a.random.now a.m.now _ c.in-Some.ensures _ _ c.in-SessionEnd.is refl

pub returns-in-DataSend : goal.returns-in-DataSend
unfolding decide_message
returns-in-DataSend c =
    let a = c.args in
    arm_decides a.connections.now a.leases.now a.time a.c a.other a.random.now a.m.now _ c.in-Some.ensures _ _ c.in-DataSend.is refl

pub returns-in_default-d : goal.returns-in_default-d
returns-in_default-d c =
    let a = c.args in
    rest-decides a.connections.now a.leases.now a.time a.c a.other a.random.now a.m.now _ c.in-Some.ensures (opened c.in_default-d.in_default-d-own.keys7)
