-- What was written when a write fails, or takes nothing, is a beginning of buf: what the turns before it wrote.
use Rattle.std.proofs.Common.{rules, ◌+◌}
use Rattle.std.proofs.KnownBytes.{Appends-kept}
use Rattle.script.proofs.Rows.{on_err, appends_more, appends_start}
use Rattle.script.proofs.write_full.Goals as goal

pub returns-in_err-n-clause-err : goal.returns-in_err-n-clause-err
returns-in_err-n-clause-err g c =
    let l = c.loop-done in
    on_err c.from_residual.result
    (appends_start _ _ l.done c.args.buf.now (Appends-kept _ _ _ _ l.invariant.1 c.in_err-n.ensures.bytes))

pub returns-then-n-eq0-clause-err : goal.returns-then-n-eq0-clause-err
returns-then-n-eq0-clause-err g c =
    let l = c.loop-done in
    appends_start _ _ (l.done + c.in_ok-n.n) c.args.buf.now
    (appends_more _ _ _ l.done c.in_ok-n.n c.args.buf.now l.invariant.1 c.in_ok-n.ensures.bytes)

pub loop-done-preserved : goal.loop-done-preserved
loop-done-preserved g c =
    let l = c.loop-done in
    (search rules, appends_more _ _ _ l.done c.in_ok-n.n c.args.buf.now l.invariant.1 c.in_ok-n.ensures.bytes)
