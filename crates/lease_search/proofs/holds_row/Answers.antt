-- `holds_row`: the search for the holder.
use mathlib.Core.Path.{◌∙◌}
use borrow.Author.Rules.{rules}
use Rattle.rules.specs.Leases.{holds_row}
use Rattle.lease_search.proofs.Found.{any-found}
use Rattle.lease_search.proofs.holds_row.Goals as goal

pub returns : goal.returns
unfolding holds_row
returns c = rw (← c.partner_of-partner.ensures) (c.is_some.ensures ∙ any-found _ _ (c.first_own.ensures _ (λ row answer low k. search rules)))
