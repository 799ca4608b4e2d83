-- The units that are left, put after the line as it stands, give the line that all of them give; and there is room for them.
use Rattle.std.proofs.Common.{◌≡◌, ◌+◌, ◌-◌, ◌*◌, ◌≤◌, ◌++◌, length, drop}
use Rattle.writer.specs.declared.inner.TheConstants.{CAPACITY}
use Rattle.writer.specs.Lines.{then_units}
use Rattle.writer.proofs.inner.Line.push_units.Given as goal

abbrev pub invariant-loop-unit : goal.invariant-loop-unit
invariant-loop-unit l =
    (length l.self + ((length l.units - l.unit-index) * 21 + 1) ≤ CAPACITY)
    × (l.self ++ then_units (drop l.unit-index l.units) ≡ l.fn.self ++ then_units l.units)
