-- `within_limits` meets its contract: the test is the definition.
use Rattle.rules.specs.Setups.{◌also◌, in_limits}
use Rattle.setup.proofs.within_limits.Goals as goal

pub returns : goal.returns
unfolding in_limits ◌also◌
returns c = rw c.window_allowed.ensures
