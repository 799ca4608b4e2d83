-- A digit that would take v past 2^64 makes the value too large, whatever follows.
use Rattle.std.proofs.Common.{arith, sym, ◌∙◌}
use Rattle.reader.proofs.Values.{value_digit, value_past, digit_is}
use Rattle.reader.proofs.read_value.Goals as goal

pub returns-in_err-checked_mul : goal.returns-in_err-checked_mul
returns-in_err-checked_mul c =
    let l = c.loop-b in
    let r = c.in_ok-x.ensures in
    let q = digit_is _ _ _ r.value.0 r.value.1 r.cases in
    rw c.from_residual-in_err-checked_mul.ensures
    (sym
    (l.invariant.left
    ∙ value_past c.args.d.now l.v l.b-index c.loop-b-test.true _ c.from.ensures _ q
    (omega (arith, c.in_err-checked_mul.ensures))))

pub returns-in_err-v : goal.returns-in_err-v
returns-in_err-v c =
    let l = c.loop-b in
    let r = c.in_ok-x.ensures in
    let q = digit_is _ _ _ r.value.0 r.value.1 r.cases in
    rw c.from_residual-in_err-v.ensures
    (sym
    (l.invariant.left
    ∙ value_past c.args.d.now l.v l.b-index c.loop-b-test.true _ c.from.ensures _ q
    (omega (arith, c.in_err-v.ensures, c.in_ok-checked_mul.ensures))))

pub loop-b-preserved : goal.loop-b-preserved
loop-b-preserved c =
    let l = c.loop-b in
    let r = c.in_ok-x.ensures in
    let q = digit_is _ _ _ r.value.0 r.value.1 r.cases in
    record {
      fits = omega (arith, c.in_ok-v.ensures);
      left =
          l.invariant.left
          ∙ value_digit c.args.d.now l.v l.b-index c.loop-b-test.true _ c.from.ensures _ q _
          (omega (arith, c.in_ok-v.ensures, c.in_ok-checked_mul.ensures));
    }
