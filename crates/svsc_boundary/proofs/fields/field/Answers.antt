-- `field`: in each arm, the field of the form; nothing in the others.
use borrow.Enum.Refused.{opened}
use mathlib.Core.Option.{some}
use Rattle.svsc.specs.Messages.{Message}
use Rattle.svsc_decoded.proofs.Cases.{of_case}
use Rattle.svsc_boundary.specs.Boundary.{fields, field_of}
use Rattle.svsc_boundary.proofs.Fieldless.{no_field}
use Rattle.svsc_boundary.proofs.fields.field.Goals as goal

pub returns-in-LeaseRequestWithCookie : goal.returns-in-LeaseRequestWithCookie
unfolding fields
returns-in-LeaseRequestWithCookie c = of_case (λ (x : Message). field_of c.args.f (some x)) _ _ _ _ c.in-LeaseRequestWithCookie.is c.cookie_at.ensures

pub returns-in-LeaseGranted : goal.returns-in-LeaseGranted
unfolding fields
returns-in-LeaseGranted c = of_case (λ (x : Message). field_of c.args.f (some x)) _ _ _ _ c.in-LeaseGranted.is c.cookie_at-in-LeaseGranted.ensures

pub returns-in-ExtensionRequest : goal.returns-in-ExtensionRequest
unfolding fields
returns-in-ExtensionRequest c = of_case (λ (x : Message). field_of c.args.f (some x)) _ _ _ _ c.in-ExtensionRequest.is c.cookie_at-in-ExtensionRequest.ensures

pub returns-in-Established : goal.returns-in-Established
unfolding fields
returns-in-Established c = of_case (λ (x : Message). field_of c.args.f (some x)) _ _ _ _ c.in-Established.is c.key_at.ensures

pub returns-in-EstablishNotification : goal.returns-in-EstablishNotification
unfolding fields
returns-in-EstablishNotification c = of_case (λ (x : Message). field_of c.args.f (some x)) _ _ _ _ c.in-EstablishNotification.is c.key_at-in-EstablishNotification.ensures

pub returns-in-DataSend : goal.returns-in-DataSend
unfolding fields
returns-in-DataSend c = of_case (λ (x : Message). field_of c.args.f (some x)) _ _ _ _ c.in-DataSend.is c.data_of.ensures

pub returns-in-DataReceive : goal.returns-in-DataReceive
unfolding fields
returns-in-DataReceive c = of_case (λ (x : Message). field_of c.args.f (some x)) _ _ _ _ c.in-DataReceive.is c.data_of-in-DataReceive.ensures

pub returns-in_default : goal.returns-in_default
returns-in_default c = let a = c.args in no_field a.d a.m.now a.f (opened c.in_default.in_default-own.keys8)
