-- `first_own`: the library's search over a range, by the test that the closure answers.
use Prim.Native.Nat.{◌<◌}
use mathlib.Core.Path.{◌≡◌, sym}
use mathlib.Core.Bool.{true, false}
use native.Mathlib.Omega.{arith}
use borrow.Author.Rules.{rules}
use Rattle.rules.specs.Sizes.{row_count}
use Rattle.std.proofs.lemmas.Iterator.{first_from_Range, serves_from_Range}
use Rattle.lease_search.proofs.Found.{own_found}
use Rattle.lease_search.proofs.first_own.Goals as goal

pub find-requires-clause-callable : goal.find-requires-clause-callable
find-requires-clause-callable g c = serves_from_Range (λ x q k. search rules) (λ x low high. λ y e. rw e (c.requires.callable x (omega arith)))

pub returns : goal.returns
returns g c test tested =
    own_found test _ _ c.requires.in_range c.end_row-end.ensures
    (first_from_Range _ _ _ _ (λ row. row < row_count → test row ≡ true) (λ row. row < row_count → test row ≡ false) c.find.ensures.ran
    (λ x q k h. sym (tested x true h (search rules)))
    (λ x q k. (search rules, λ h. sym (tested x false h (search rules)))))
