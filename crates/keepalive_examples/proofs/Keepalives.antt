-- What comes of keepalives. Assumes nothing.
use mathlib.Core.Path.{refl}
use Rattle.keepalive_examples.specs.Keepalives.{Comes, keepalives, answering}

-- Who is asked, who is dead, and what stands in the records.
pub keepalives_come : Comes keepalives
unfolding keepalives
keepalives_come = refl

-- Answers, data in between, and bytes and times from elsewhere.
pub answers_come : Comes answering
unfolding answering
answers_come = refl
