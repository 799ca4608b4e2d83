-- The loop's invariant: the numbers from d on give the whole answer.
use Rattle.std.proofs.Common.{◌≡◌, ◌-◌}
use Rattle.rules.specs.Malformed.{all_from, empty_ahead}
use Rattle.sender.proofs.inner.empty_ahead.Given as goal

abbrev pub invariant-loop-d : goal.invariant-loop-d
invariant-loop-d l =
    let ahead = empty_ahead l.ring.window l.slots l.q in
    all_from ahead l.from (l.ring.window - l.from) ≡ all_from ahead l.d (l.ring.window - l.d)
