-- `write` meets its contract: the first line, and then the rest where the run goes on, as long as lines fit.
use Rattle.std.proofs.Common.{arith}
use Rattle.listing.proofs.Fitting.{wrote_none, wrote_first, wrote_part, wrote_whole}
use Rattle.listing.proofs.write.Goals as goal

pub returns-then-out-len : goal.returns-then-out-len
returns-then-out-len c = wrote_none _ _ _ _ c.set_first-first.ensures (omega (arith, c.len.ensures.value, c.if-out-len.true))

pub returns-in-Over : goal.returns-in-Over
returns-in-Over c =
    wrote_first _ _ _ _ _ _ c.copy_to-len.ensures (omega (arith, c.len.ensures.value, c.if-out-len.false)) c.in-Over.ensures

pub returns-in-Over-matches : goal.returns-in-Over-matches
returns-in-Over-matches c =
    let p = c.copy_to-len in
    wrote_whole _ _ _ _ _ _ p.ensures (omega (arith, c.len.ensures.value, c.if-out-len.false)) c.in-More.ensures p.auto.out _ _
    c.fill-part.ensures _ c.in-Over-matches.is

pub returns-in_default : goal.returns-in_default
returns-in_default c =
    let p = c.copy_to-len in
    wrote_part _ _ _ _ _ _ p.ensures (omega (arith, c.len.ensures.value, c.if-out-len.false)) c.in-More.ensures p.auto.out _ _
    c.fill-part.ensures _ c.in_default.is
