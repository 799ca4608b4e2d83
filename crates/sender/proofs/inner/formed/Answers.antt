-- `formed` meets its contract: the test is the definition, field by field.
use Rattle.rules.specs.Setups.{◌also◌}
use Rattle.rules.specs.Malformed.{formed_sender}
use Rattle.sender.proofs.inner.formed.Goals as goal

pub returns : goal.returns
unfolding formed_sender ◌also◌
returns c =
    rw (
      c.contains.ensures,
      c.contains-2.ensures,
      c.formed.ensures,
      c.empty_ahead.ensures,
      c.empty_above.ensures,
      c.new.ensures,
      c.new-2.ensures,
      c.new-ring.ensures,
    )
