-- The loop's invariant: what is left to clear, from q on, gives the whole answer.
use Rattle.std.proofs.Common.{◌≡◌, ◌-◌, ◌%◌, ◌^◌}
use Rattle.rules.specs.Events.{freed}
use Rattle.sender.proofs.inner.free.Given as goal

abbrev pub invariant-loop : goal.invariant-loop
invariant-loop l =
    freed (λ x. x % 2 ^ l.seqs.bits) l.ring.window l.o l.una l.fn.slots
    ≡ freed (λ x. x % 2 ^ l.seqs.bits) l.ring.window (l.o - l.counter) l.q l.slots
