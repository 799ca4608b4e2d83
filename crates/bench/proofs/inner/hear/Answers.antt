-- `hear` meets its contract: the packet that is taken out of the channel is in range.
use Rattle.rules.proofs.Benches.{taken_ack}
use Rattle.bench.proofs.inner.hear.Goals as goal

pub hear-requires : goal.hear-requires
hear-requires c = (c.requires.sender, taken_ack c.requires c.args.j c.in_ok-p.ensures)
