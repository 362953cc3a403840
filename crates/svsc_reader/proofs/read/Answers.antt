-- `read`: the type picks the reader.
use mathlib.Core.Path.{refl}
use Rattle.svsc_decoded.proofs.Forms.{type_first, no_type, above_7}
use Rattle.svsc_reader.proofs.read.Goals as goal

pub returns-in_err-kind : goal.returns-in_err-kind
returns-in_err-kind c = rw c.from_residual.ensures (no_type c.args.m.now _ c.first.ensures.value c.in_err-kind.was)

pub version-requires : goal.version-requires
version-requires c = type_first c.args.m.now _ _ 0 c.first.ensures.value c.in_ok-kind.was c.in-0.is

pub version_answer-requires : goal.version_answer-requires
version_answer-requires c = type_first c.args.m.now _ _ 1 c.first.ensures.value c.in_ok-kind.was c.in-1.is

pub lease_request-requires : goal.lease_request-requires
lease_request-requires c = type_first c.args.m.now _ _ 2 c.first.ensures.value c.in_ok-kind.was c.in-2.is

pub lease_response-requires : goal.lease_response-requires
lease_response-requires c = type_first c.args.m.now _ _ 3 c.first.ensures.value c.in_ok-kind.was c.in-3.is

pub extension_request-requires : goal.extension_request-requires
extension_request-requires c = type_first c.args.m.now _ _ 4 c.first.ensures.value c.in_ok-kind.was c.in-4.is

pub extension_response-requires : goal.extension_response-requires
extension_response-requires c = type_first c.args.m.now _ _ 5 c.first.ensures.value c.in_ok-kind.was c.in-5.is

pub establish_request-requires : goal.establish_request-requires
establish_request-requires c = type_first c.args.m.now _ _ 6 c.first.ensures.value c.in_ok-kind.was c.in-6.is

pub establish_response-requires : goal.establish_response-requires
establish_response-requires c = type_first c.args.m.now _ _ 7 c.first.ensures.value c.in_ok-kind.was c.in-7.is

pub plain-requires : goal.plain-requires
plain-requires c =
    let r = c.in_default.in_default-own.rest in (
      type_first c.args.m.now _ _ _ c.first.ensures.value c.in_ok-kind.was refl,
      above_7 _ r.0.0.0.0.0.0.0.1 r.0.0.0.0.0.0.1 r.0.0.0.0.0.1 r.0.0.0.0.1 r.0.0.0.1 r.0.0.1 r.0.1 r.1,
    )
