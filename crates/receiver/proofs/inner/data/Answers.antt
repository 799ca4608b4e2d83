-- `data` meets its contract: a packet past nxt is stored; one at nxt lets out what the rule delivers.
use Rattle.std.proofs.lemmas.Result.{err_from_is_err_and}
use Rattle.receiver.proofs.Cases.{refuses, keeps, ready, delivers}
use Rattle.receiver.proofs.inner.data.Goals as goal

pub returns-in_err-may_arrive : goal.returns-in_err-may_arrive
returns-in_err-may_arrive c =
    let e = err_from_is_err_and c.from_residual.result c.from_residual.ensures.1 in
    rw (e.1, e.2) (refuses _ _ c.in_err-may_arrive.ensures)

pub returns-then-p-r : goal.returns-then-p-r
returns-then-p-r c =
    rw (c.with_mark-r.ensures, c.slot-at.ensures.0, c.new.ensures)
    (keeps _ _ c.in_ok-may_arrive.ensures c.requires.0 c.requires.1 c.if-p-r.true)

pub deliver-requires : goal.deliver-requires
deliver-requires c =
    rw (c.with_mark-r.ensures, c.slot-at.ensures.0, c.new.ensures)
    (ready _ _ c.in_ok-may_arrive.ensures c.requires.0 c.requires.1 c.if-p-r.false, c.requires.2)

pub returns : goal.returns
returns c =
    delivers _ _ c.in_ok-may_arrive.ensures c.requires.0 c.requires.1 c.if-p-r.false
    (rw (c.with_mark-r.ensures, c.slot-at.ensures.0, c.new.ensures) at c.deliver.ensures)
