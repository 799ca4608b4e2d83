-- `unused_at` meets its contract: the test is the definition.
use Rattle.rules.specs.Setups.{◌also◌}
use Rattle.receiver.proofs.inner.unused_at.Goals as goal

pub returns : goal.returns
unfolding ◌also◌
returns c = rw c.is_marked.ensures
