-- `id_elsewhere`: the library's search over all rows, by the rules' test.
use mathlib.Core.Path.{refl, ◌∙◌}
use borrow.Author.Rules.{rules}
use borrow.Author.Tests.{tests}
use Rattle.std.proofs.lemmas.Iterator.{YieldsList-from_range}
use Rattle.std.proofs.lemmas.Iterator.Search.{any_from_yields_List}
use Rattle.rules.specs.Sizes.{row_count}
use Rattle.rules.specs.Leases.{has_its_id, id_elsewhere}
use Rattle.lease_search.proofs.RowSearch.{any_range}
use Rattle.renewals.proofs.id_elsewhere.Goals as goal

pub returns : goal.returns
unfolding id_elsewhere has_its_id
returns c =
    let a = c.args in
    any_from_yields_List (has_its_id a.leases.now a.time a.row) _ _ _ c.any.ensures.ran (YieldsList-from_range 0 row_count row_count refl refl)
    (λ x b q k. search (rules, tests))
    ∙ any_range _ 0 row_count
