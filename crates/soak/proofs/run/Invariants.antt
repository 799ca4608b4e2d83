-- What is left of the run gives the answer, and the bench is reached from fresh, so that no event needs the test.
use Rattle.std.proofs.Common.{◌≡◌, ◌-◌}
use Rattle.rules.specs.Reached.{Reached}
use Rattle.soak.specs.Run.{soaked_from}
use Rattle.soak.proofs.run.Given as goal

abbrev pub invariant-loop : goal.invariant-loop
invariant-loop g l =
    Reached l.b × (soaked_from l.events l.initial.x l.initial.sum l.initial.b ≡ soaked_from (l.events - l.counter) l.x l.sum l.b)
