-- `establish`: both records, each with its own pair.
use Rattle.octets.specs.Octets.{part}
use Rattle.session_records.proofs.Records.{established_lem}
use Rattle.session_records.proofs.establish.Goals as goal

pub returns : goal.returns
unfolding part
returns c = established_lem _ _ _ _ _ c.args.random.now c.join.ensures c.join-2.ensures
