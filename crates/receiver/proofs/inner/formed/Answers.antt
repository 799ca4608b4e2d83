-- `formed` meets its contract: the test is the definition, part by part.
use Rattle.rules.specs.Setups.{◌also◌}
use Rattle.rules.specs.Malformed.{formed_receiver}
use Rattle.receiver.proofs.inner.formed.Goals as goal

pub returns : goal.returns
unfolding formed_receiver ◌also◌
returns c = rw (c.contains.ensures, c.contains-2.ensures, c.new.ensures, c.new-2.ensures, c.formed.ensures, c.right_ahead.ensures, c.unused_above.ensures)
