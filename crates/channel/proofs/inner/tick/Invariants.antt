-- The loop of `tick`: `aged` holds what a tick leaves of the packets passed.
use Rattle.channel.proofs.Ticks.{Ticked}
use Rattle.channel.proofs.inner.tick.Given as goal

abbrev pub invariant-loop-p : goal.invariant-loop-p
invariant-loop-p g l = Ticked g.P.Packet.none g.P.Packet.is_none l.fn.c l.aged l.p-index
