-- `lease_request`: its two forms.
use Rattle.svsc_decoded.proofs.Forms.{lease_request_lem}
use Rattle.svsc_lease_readers.proofs.lease_request.Goals as goal

pub returns-then-m-has_cookie-2 : goal.returns-then-m-has_cookie-2
returns-then-m-has_cookie-2 c =
    (lease_request_lem c.args.m.now _ c.requires c.byte-has_cookie.ensures).second c.if-m-has_cookie.false c.if-m-has_cookie-2.true

pub returns : goal.returns
returns c =
    (lease_request_lem c.args.m.now _ c.requires c.byte-has_cookie.ensures).neither c.if-m-has_cookie.false c.if-m-has_cookie-2.false
