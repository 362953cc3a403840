-- `are_digits`: three bytes, each a digit.
use mathlib.Core.Path.{sym}
use native.Mathlib.Omega.{arith}
use Rattle.svsc_decoded.proofs.Forms.{three-digits}
use Rattle.svsc_version_readers.proofs.are_digits.Goals as goal

pub returns : goal.returns
returns c =
    let a = c.args in
    rw (c.is_digit-3.ensures, c.is_digit-2.ensures, c.is_digit.ensures) (sym (three-digits a.s.now a.at (omega arith)))
