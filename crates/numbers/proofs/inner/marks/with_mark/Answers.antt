-- `with_mark` meets its contract: the mask is the slot's power of two.
use Rattle.rules.specs.Marks.{mark}
use Rattle.numbers.proofs.Laws.{bit_at}
use Rattle.numbers.proofs.inner.marks.with_mark.Goals as goal

pub returns : goal.returns
unfolding mark
returns c = rw (bit_at _ c.requires)
