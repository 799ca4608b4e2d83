-- `free` meets its contract: each turn of the loop is one step of `freed`.
use Rattle.std.proofs.Common.{◌≡◌, ◌∙◌, ◌-◌, ◌+◌, ◌%◌, ◌^◌, arith}
use Rattle.rules.proofs.Ends.{freed_more}
use Rattle.sender.proofs.inner.free.Goals as goal

pub loop-preserved : goal.loop-preserved
loop-preserved c =
    let l = c.loop in let left = c.args.o - l.counter in
    let e : c.args.o - (l.counter + 1) ≡ left - 1 = omega arith in
    l.invariant ∙ rw (c.slot.ensures.0, c.moved-q.ensures.0, e)
    (freed_more (λ x. x % 2 ^ c.args.seqs.bits) c.args.ring.window left (omega arith) l.q l.slots)
