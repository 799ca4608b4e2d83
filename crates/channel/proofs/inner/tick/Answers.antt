-- `tick` meets its contract: a turn keeps the packet one older, or leaves it out.
use Rattle.std.proofs.Common.{arith}
use Rattle.channel.proofs.Ticks.{ticked_kept, ticked_gone}
use Rattle.channel.proofs.inner.tick.Goals as goal
use Rattle.channel.proofs.inner.tick.Goals.{then-p-c, else-p-c}

pub loop-p-preserved : goal.loop-p-preserved
loop-p-preserved g c =
    let t = c.loop-p.invariant in
    let at = c.p-item.is in
    elim c.if-p-c.branch [
      | then-p-c w ↦ ticked_kept _ _ _ c.requires _ _ t (omega arith) _ at (omega arith) w.aged-is (omega arith) (omega arith)
      | else-p-c w ↦ ticked_gone _ _ _ c.requires _ _ t (omega arith) _ at (omega arith) w.aged-is
    ]
