-- The units passed are in the sum.
use Rattle.std.proofs.Common.{◌≡◌, take}
use Rattle.soak.specs.Tally.{all_mixed}
use Rattle.soak.proofs.tally.summed.Given as goal

abbrev pub invariant-loop-unit : goal.invariant-loop-unit
invariant-loop-unit l = l.s ≡ all_mixed l.initial.s (take l.unit-index l.units)
