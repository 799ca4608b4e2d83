-- `is_nothing` meets its contract: equal to the packet that is all 0, field by field.
use Rattle.std.proofs.Common.{sym}
use Rattle.std.specs.Prelude.{eqb}
use Rattle.std.proofs.Math.Bool.{and_assoc}
use Rattle.rules.specs.Setups.{◌also◌}
use Rattle.rules.specs.Parts.{is_no_ack}
use Rattle.numbers.proofs.packet.BareAckPacket.is_nothing.Goals as goal

pub returns : goal.returns
unfolding is_no_ack ◌also◌
returns c =
    let z = c.default.ensures in let p = c.args.self in
    rw (c.eq.ensures, z.0, z.1.0, z.1.1) (sym (and_assoc (eqb p.ack 0) (eqb p.window 0) (eqb p.stamp 0)))
