-- `push` meets its contract: the packet stored at the first empty place is the list with the packet at its end.
use Rattle.std.specs.Prelude.{refl}
use borrow.Author.Tests.{lt-leb}
use Rattle.rules.specs.Parts.{kind}
use Rattle.rules.proofs.Channels.{packets_added, length_added}
use Rattle.channel.proofs.inner.push.Goals as goal

pub returns : goal.returns
returns g c =
    let K = kind g.P.Packet.none g.P.Packet.is_none in
    let h = c.if-c-ge32.false in
    rw (lt-leb _ _ h, packets_added K _ c.requires _ h, length_added K _ c.requires) record { gives = refl; leaves = refl }
