-- `push_units` meets its contract: the next unit moves from what is left to the line.
use Rattle.std.proofs.Common.{append_assoc, arith}
use Rattle.writer.proofs.Units.{units_next}
use Rattle.writer.proofs.inner.Line.push_units.Goals as goal

pub loop-unit-preserved : goal.loop-unit-preserved
loop-unit-preserved c =
    let l = c.loop-unit in
    let p = c.push_spaced.ensures in
    let left = units_next c.args.units.now l.unit-index c.loop-unit-test.true in
    (omega (arith, p.short), rw (p.text, append_assoc) (rw left at l.invariant.1))
