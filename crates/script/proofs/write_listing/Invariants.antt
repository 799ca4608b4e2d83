-- As long as there is more, a row has room for a line, so each turn takes a line of the script.
use Rattle.listing.specs.Run.{IfMore, Ready}
use Rattle.listing.proofs.Steps.{bytes_left}
use Rattle.script.proofs.Rows.{Wrote}
use Rattle.script.proofs.write_listing.Given as goal

abbrev pub invariant-loop-part : goal.invariant-loop-part
invariant-loop-part g l =
    IfMore l.part.left (Ready l.src) × Wrote (g.W.Write.contents l.fn.output) (g.W.Write.contents l.output) l.src l.part.left

abbrev pub decreases-loop-part : goal.decreases-loop-part
decreases-loop-part g l = bytes_left l.src l.part.left
