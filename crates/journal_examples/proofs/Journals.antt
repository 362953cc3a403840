-- What comes of calls and journals. Assumes nothing.
use mathlib.Core.Path.{refl}
use Rattle.examples.specs.Examples.{Holds}
use Rattle.journal_examples.specs.Journals.{recorded, judged_journals}

pub records-of-calls : Holds recorded
unfolding recorded
records-of-calls = refl

-- Both replays answer alike.
pub journals_judged : Holds judged_journals
unfolding judged_journals
journals_judged = refl
