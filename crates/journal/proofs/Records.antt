-- The record of a call: which calls have a charge there. Assumes nothing.
use mathlib.Core.Path.{◌≡◌, sym, ◌∙◌}
use mathlib.Core.Bool.{true}
use lib.Dec.{eqb}
use borrow.Author.Tests.{eqb-true}
use Rattle.octets.proofs.Tests.{either}
use Rattle.allowance.proofs.Numbers.{verdict-nine, verdict-zero}
use Rattle.rules.specs.Tables.{Tables}
use Rattle.rules.specs.Calls.{Call}
use Rattle.rules.specs.Checks.{precheck, check}
use Rattle.rules.proofs.Checks.{check-verdict}
use Rattle.rules.proofs.Metered.{relay_metered}
use Rattle.journal.specs.Records.{priced}

-- 0 and 9 are answered where checks 1 to 8 pass, and nowhere else
pub priced_passed : (tables : Tables) (call : Call) → priced (check tables call) ≡ true → precheck tables call ≡ 0
priced_passed tables call h =
    either (eqb (check tables call) 0) (eqb (check tables call) 9) h (precheck tables call ≡ 0)
    (λ z. (verdict-zero _ _ _ _ (sym (check-verdict tables call) ∙ eqb-true _ 0 z)).0)
    (λ n. (verdict-nine _ _ _ _ (relay_metered.eight tables call) (sym (check-verdict tables call) ∙ eqb-true _ 9 n)).0)
