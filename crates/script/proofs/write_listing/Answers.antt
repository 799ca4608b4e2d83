-- `write_listing` ends, and what it writes is the listing: the first line, and then a row of lines after another. Where a write fails,
-- it is a beginning of it.
use Rattle.std.proofs.Common.{sym, length-take-le}
use Rattle.writer.proofs.Row.{put_within}
use Rattle.script.proofs.Rows.{wrote_first, wrote_more, on_err, start_first, start_more, wrote_all}
use Rattle.script.proofs.write_listing.Goals as goal

pub slice_bounds-row-end : goal.slice_bounds-row-end
slice_bounds-row-end g c = put_within c.first_line-part.ensures.row

pub slice_bounds-write_full-end : goal.slice_bounds-write_full-end
slice_bounds-write_full-end g c = sym (length-take-le _ _ (put_within c.first_line-part.ensures.row))

pub returns-in_err-write_full-clause-err : goal.returns-in_err-write_full-clause-err
returns-in_err-write_full-clause-err g c =
    on_err c.from_residual.result (start_first c.first_line-part.ensures c.in_err-write_full.ensures.err)

pub loop-part-init : goal.loop-part-init
loop-part-init g c = let o = c.first_line-part.ensures in (o.ready, wrote_first o c.in_ok-write_full.ensures.ok)

pub returns-in_err-write_full-2-clause-err : goal.returns-in_err-write_full-2-clause-err
returns-in_err-write_full-2-clause-err g c =
    let i = rw c.in-More.is at c.loop-part.invariant in
    on_err c.from_residual-in_err-write_full-2.result (start_more i.1 i.0.within c.fill-part.ensures c.in_err-write_full-2.ensures.err)

pub loop-part-preserved : goal.loop-part-preserved
loop-part-preserved g c =
    let i = rw c.in-More.is at c.loop-part.invariant in
    (c.fill-part.ensures.ready, wrote_more i.1 i.0.within c.fill-part.ensures c.in_ok-write_full-2.ensures.ok)

pub returns-clause-ok : goal.returns-clause-ok
returns-clause-ok g c = wrote_all (rw c.in_default.is at c.loop-part.invariant.1)
