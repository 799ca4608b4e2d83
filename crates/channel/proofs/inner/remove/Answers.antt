-- `remove` meets its contract: the packets after j moved down are the list without the packet at j.
use Rattle.std.proofs.Common.{ap, ◌∙◌, arith}
use Rattle.rules.specs.Parts.{new}
use Rattle.channel.proofs.Places.{removed_by_moves}
use Rattle.channel.proofs.inner.remove.Goals as goal

pub returns : goal.returns
returns g c =
    removed_by_moves _ _ _ _ c.requires.0 c.requires.1 c.copy_within.ensures.after (omega arith) (c.new.ensures ∙ ap new c.nothing.ensures)
    (omega arith)
