-- `equal_at`: a part compared.
use Rattle.octet_comparisons.proofs.equal_at.Goals as goal

pub returns : goal.returns
returns c = rw (c.equal.ensures, c.part.ensures)
