-- What comes of leases that are renewed, or not. Assumes nothing.
use mathlib.Core.Path.{refl}
use Rattle.renewal_examples.specs.Renewals.{Comes, renewals, others, refused}

-- Leases that are renewed, and rows of new ones, worked out by hand.
pub leases_come : Comes renewals
unfolding renewals
leases_come = refl

-- Live rows and rows from elsewhere; and requests that are refused, or renew nothing.
pub others_come : Comes others
unfolding others
others_come = refl

pub refused_come : Comes refused
unfolding refused
refused_come = refl
