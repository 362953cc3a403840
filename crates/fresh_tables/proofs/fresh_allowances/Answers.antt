-- `fresh_allowances`: eight full records, then the term and the clock.
use mathlib.Core.Path.{refl}
use Rattle.fresh_tables.proofs.Repeated.{allowances-filled}
use Rattle.fresh_tables.proofs.fresh_allowances.Goals as goal

pub returns : goal.returns
returns c =
    allowances-filled c.args.allowances.now _ _ _ _ _ _ c.args.time c.args.term _ c.requires refl c.named_term-kept.ensures c.write.ensures c.write-2.ensures c.fill_records.ensures
    c.write-3.ensures c.write-4.ensures
