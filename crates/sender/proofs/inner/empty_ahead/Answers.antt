-- `empty_ahead` meets its contract: each turn of the loop is one step of `all_from`.
use Rattle.std.proofs.Common.{sym, ◌∙◌, arith}
use Rattle.std.proofs.lemmas.Bool.{eq-eqb, ne_eqb}
use Rattle.rules.specs.Malformed.{empty_ahead}
use Rattle.rules.proofs.Loops.{all_more, all_stop, all_end}
use Rattle.sender.proofs.inner.empty_ahead.Goals as goal

pub returns-then-slots-slot_ahead-ne0 : goal.returns-then-slots-slot_ahead-ne0
returns-then-slots-slot_ahead-ne0 c =
    let a = c.args in
    sym (c.loop-d.invariant ∙ all_stop (empty_ahead a.ring.window a.slots.now a.q) a.ring.window c.loop-d.d (omega arith)
    (rw (← c.slot_ahead.ensures.0) (ne_eqb _ 0 c.if-slots-slot_ahead-ne0.true)))

pub loop-d-preserved : goal.loop-d-preserved
loop-d-preserved c =
    let a = c.args in
    c.loop-d.invariant ∙ all_more (empty_ahead a.ring.window a.slots.now a.q) a.ring.window c.loop-d.d (omega arith)
    (rw (← c.slot_ahead.ensures.0) (eq-eqb _ 0 c.if-slots-slot_ahead-ne0.false))

pub returns : goal.returns
returns c =
    let a = c.args in
    sym (c.loop-d.invariant ∙ all_end (empty_ahead a.ring.window a.slots.now a.q) a.ring.window c.loop-d.d (omega arith))
