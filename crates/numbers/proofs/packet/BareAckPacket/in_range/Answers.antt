-- `in_range` meets its contract: the test of an acknowledgement is the definition, field by field.
use Rattle.std.specs.Prelude.{refl}
use Rattle.rules.specs.Setups.{◌also◌}
use Rattle.rules.specs.Malformed.{right_ack}
use Rattle.numbers.proofs.packet.BareAckPacket.in_range.Goals as goal

pub returns : goal.returns
unfolding right_ack ◌also◌
returns c = rw (c.in_bits.ensures, c.in_bits-2.ensures) refl
