-- `window_allowed` meets its contract: the test is the definition.
use Rattle.std.specs.Prelude.{refl}
use Rattle.rules.specs.Setups.{is_window}
use Rattle.setup.proofs.window_allowed.Goals as goal

pub returns : goal.returns
unfolding is_window
returns c = refl
