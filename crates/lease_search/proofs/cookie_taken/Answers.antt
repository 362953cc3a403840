-- `cookie_taken`: the search for the cookie.
use mathlib.Core.Path.{◌∙◌}
use borrow.Author.Rules.{rules}
use Rattle.rules.specs.Leases.{cookie_taken}
use Rattle.lease_search.proofs.Found.{any-found}
use Rattle.lease_search.proofs.cookie_taken.Goals as goal

pub returns : goal.returns
unfolding cookie_taken
returns c = (c.is_some.ensures ∙ any-found _ _ (c.first_own.ensures _ (λ row answer low k. search rules)))
