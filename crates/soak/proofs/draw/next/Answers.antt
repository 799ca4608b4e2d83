-- `next` meets its contract: the same three shifts.
use Rattle.std.proofs.Common.{refl}
use Rattle.soak.specs.Draw.{next_draw}
use Rattle.soak.proofs.draw.next.Goals as goal

pub returns : goal.returns
unfolding next_draw
returns c = refl
