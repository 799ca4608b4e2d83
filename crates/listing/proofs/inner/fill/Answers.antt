-- `fill` meets its contract: what is left of the listing, put at `end`, gives the row that all of it gives from the start.
use Rattle.std.proofs.Common.{◌-◌, ◌<◌, ◌≤◌, length, arith}
use Rattle.listing.proofs.Steps.{IfMore_then}
use Rattle.listing.proofs.Fitting.{left_done, left_full, left_on, some_fits}
use Rattle.listing.proofs.inner.fill.Goals as goal

pub loop-left-preserved : goal.loop-left-preserved
loop-left-preserved c =
    let a = c.args in
    let l = c.loop-left in
    let i = rw c.in-More.is at l.invariant in
    let st = c.next_line-next.ensures in
    let p = c.copy_to-end in
    let fits : length c.next_line-next.new.line ≤ length a.out.now - l.end = omega (arith, c.len.ensures.value, c.if-out-end.false, l.auto.out) in
    record {
      ready = st.wrote.ready;
      within = omega (arith, p.ensures.next, fits, i.within);
      so_far = rw st.wrote.then
          (left_on a.src.now a.out.now a.from a.run l.out l.end c.in-More.here i.so_far i.ready.within
          p.new.out p.result (rw st.wrote.text at p.ensures) (rw st.wrote.text at fits) (omega (arith, i.within, l.auto.out)));
      ahead = IfMore_then c.next_line-next.result st.ahead (λ then h. (omega (arith, h, i.ahead.0), λ e. absurd (omega (arith, h, i.ahead.0, e))));
    }

pub returns-then-out-end : goal.returns-then-out-end
returns-then-out-end c =
    let a = c.args in
    let l = c.loop-left in
    let i = rw c.in-More.is at l.invariant in
    let st = c.next_line-next.ensures in
    let n = c.len.ensures in
    let full : length a.out.now - l.end < length c.next_line-next.new.line = omega (arith, n.value, c.if-out-end.true, l.auto.out) in
    let w = left_full a.src.now a.out.now a.from a.run l.out l.end c.in-More.here i.so_far i.ready.within (rw st.wrote.text at full) in
    record {
      row = w.row;
      then = w.then;
      fits = i.within;
      ready = i.ready;
      ahead = λ room.
          some_fits a.run.at c.in-More.here.at l.end a.from (length a.out.now) c.len.result i.ahead.1
          (omega (arith, n.fits)) (omega (arith, full, n.value)) room;
    }

pub returns-in_default : goal.returns-in_default
returns-in_default c =
    let i = c.loop-left.invariant in
    left_done _ _ _ _ _ _ _ _ c.in_default.is i.so_far i.within
