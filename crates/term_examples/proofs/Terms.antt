-- What comes of terms that are named or kept. Assumes nothing.
use mathlib.Core.Path.{refl}
use Rattle.examples.specs.Examples.{Holds}
use Rattle.term_examples.specs.Terms.{named, lasting, new_ones, extended_ones, renewed_ones, shortened}

-- What a start answers, and what the tables keep then.
pub terms-named : Holds named
unfolding named
terms-named = refl

-- Up to which second a lease is live.
pub leases-last : Holds lasting
unfolding lasting
leases-last = refl

-- How long leases last by what the tables keep, new, extended and renewed ones.
pub new_last : Holds new_ones
unfolding new_ones
new_last = refl

pub extended_last : Holds extended_ones
unfolding extended_ones
extended_last = refl

pub renewed-last : Holds renewed_ones
unfolding renewed_ones
renewed-last = refl

pub leases-shortened : Holds shortened
unfolding shortened
leases-shortened = refl
