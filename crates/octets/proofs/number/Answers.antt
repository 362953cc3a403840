-- `number`: two words.
use Rattle.octets.proofs.Numbers.{in_words, words_lt}
use Rattle.octets.proofs.number.Goals as goal

pub returns-clause-value : goal.returns-clause-value
returns-clause-value g c = in_words _ _ g.row.N c.min-low.ensures c.requires.within c.word.ensures.value c.word-2.ensures.value

pub returns-clause-below : goal.returns-clause-below
returns-clause-below g c = words_lt c.args.s.now c.args.at g.row.N c.min-low.ensures c.word.ensures.below c.word-2.ensures.below
