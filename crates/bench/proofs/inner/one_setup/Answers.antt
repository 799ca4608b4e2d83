-- `one_setup` meets its contract: the test is the definition.
use Rattle.std.proofs.Common.{arith}
use Rattle.std.proofs.lemmas.Grind.{common_steps}
use Rattle.rules.specs.Setups.{◌also◌, same_setup}
use Rattle.bench.proofs.inner.one_setup.Goals as goal

pub returns : goal.returns
unfolding ◌also◌ same_setup
returns c = grind (arith, common_steps)
