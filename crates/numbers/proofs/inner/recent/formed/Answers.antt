-- `formed` meets its contract: each return is one case of the rule.
use Rattle.std.specs.Prelude.{refl}
use Rattle.rules.specs.Setups.{◌also◌}
use Rattle.rules.specs.Malformed.{formed_recent}
use Rattle.numbers.proofs.inner.recent.formed.Goals as goal

pub returns-then-r : goal.returns-then-r
unfolding formed_recent ◌also◌
returns-then-r c = rw (c.if-r.true, c.in_bits.ensures)

pub returns-else-r : goal.returns-else-r
unfolding formed_recent ◌also◌
returns-else-r c = let z = c.default.ensures in rw (c.if-r.false, c.eq.ensures, z.0, z.1.0, z.1.1, c.if-r.false) refl
