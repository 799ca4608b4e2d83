-- `deliver` meets its contract: a marked slot lets one more unit out, and the first that is not marked ends it.
use Rattle.std.proofs.Common.{sym, ◌∙◌, arith}
use Rattle.receiver.proofs.Going.{left, goes_on, fits, ends}
use Rattle.receiver.proofs.inner.deliver.Goals as goal

pub bounds-row-k : goal.bounds-row-k
bounds-row-k c =
    let on = rw (c.slot-at.ensures.0, c.new-ring.ensures) at (sym c.is_marked.ensures ∙ c.if-not-is_marked.false) in
    let more = left c.loop-ring.invariant c.requires.0 on in
    let long = c.loop-ring.invariant.long in
    omega (arith, c.requires.1)

pub loop-ring-smaller : goal.loop-ring-smaller
loop-ring-smaller c =
    let on = rw (c.slot-at.ensures.0, c.new-ring.ensures) at (sym c.is_marked.ensures ∙ c.if-not-is_marked.false) in
    let more = left c.loop-ring.invariant c.requires.0 on in
    omega arith

pub loop-ring-preserved : goal.loop-ring-preserved
loop-ring-preserved c =
    let on = rw (c.slot-at.ensures.0, c.new-ring.ensures) at (sym c.is_marked.ensures ∙ c.if-not-is_marked.false) in
    rw (c.moved-r.ensures.0, c.new-seqs.ensures, c.without_mark-r.ensures, c.slot-at.ensures.0, c.new-ring.ensures)
    (goes_on c.loop-ring.invariant c.requires.0 c.requires.1 on)

pub overflow_sub-r : goal.overflow_sub-r
overflow_sub-r c =
    fits c.loop-ring.invariant c.requires.0 c.requires.1
    (rw (c.slot-at.ensures.0, c.new-ring.ensures) at (sym c.is_marked.ensures ∙ c.if-not-is_marked.true))

pub returns : goal.returns
returns c =
    rw c.since-r.ensures
    (ends c.loop-ring.invariant c.requires.0 c.requires.1
    (rw (c.slot-at.ensures.0, c.new-ring.ensures) at (sym c.is_marked.ensures ∙ c.if-not-is_marked.true)) c.args.stamp)
