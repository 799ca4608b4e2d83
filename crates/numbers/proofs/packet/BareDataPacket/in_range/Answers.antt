-- `in_range` meets its contract: the test of a data packet is the definition, field by field.
use Rattle.std.specs.Prelude.{refl}
use Rattle.rules.specs.Setups.{◌also◌}
use Rattle.rules.specs.Malformed.{right_data}
use Rattle.numbers.proofs.packet.BareDataPacket.in_range.Goals as goal

pub returns : goal.returns
unfolding right_data ◌also◌
returns c = rw (c.in_bits.ensures, c.in_bits-2.ensures) refl
