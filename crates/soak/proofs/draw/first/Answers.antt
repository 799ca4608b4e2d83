-- `first` meets its contract: the seed, but for 0.
use Rattle.std.proofs.Common.{eq-eqb, ne_eqb}
use Rattle.soak.specs.Draw.{first_draw}
use Rattle.soak.proofs.draw.first.Goals as goal

pub returns-then-seed-eq0 : goal.returns-then-seed-eq0
unfolding first_draw
returns-then-seed-eq0 c = rw (eq-eqb _ _ c.if-seed-eq0.true)

pub returns : goal.returns
unfolding first_draw
returns c = rw (ne_eqb _ _ c.if-seed-eq0.false)
