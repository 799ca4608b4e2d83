-- After k turns k units stand in the row, and the rule gives the rest from nxt on. A marked slot lies less than RW - k ahead, so
-- each turn that goes on finds k below RW, and the measure is RW - k.
use Rattle.std.proofs.Common.{◌-◌}
use Rattle.receiver.proofs.Going.{Going}
use Rattle.receiver.proofs.inner.deliver.Given as goal

abbrev pub invariant-loop-ring : goal.invariant-loop-ring
invariant-loop-ring l = Going l.initial.r l.initial.row l.r l.row l.k

abbrev pub decreases-loop-ring : goal.decreases-loop-ring
decreases-loop-ring l = l.initial.r.setup.window - l.k
