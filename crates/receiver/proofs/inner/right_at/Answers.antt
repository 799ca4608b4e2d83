-- `right_at` meets its contract: each arm is one case of the rule.
use Rattle.std.specs.Prelude.{refl}
use Rattle.rules.specs.Setups.{◌also◌}
use Rattle.receiver.proofs.inner.right_at.Goals as goal

pub returns-then-is_marked : goal.returns-then-is_marked
unfolding ◌also◌
returns-then-is_marked c = rw (← c.new.ensures, ← c.slot_ahead-at.ensures.0, ← c.is_marked.ensures, c.if-is_marked.true) refl
