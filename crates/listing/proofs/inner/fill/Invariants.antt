-- What is left of the listing, put at `end`, gives the row that all of it gives from the start. Each turn takes a line of the script.
use Rattle.std.proofs.Common.{◌≡◌, ◌≤◌, length}
use Rattle.listing.specs.Run.{IfMore, Ready}
use Rattle.listing.proofs.Steps.{bytes_left}
use Rattle.listing.proofs.Fitting.{Left}
use Rattle.listing.proofs.inner.fill.Given as goal

abbrev pub invariant-loop-left : goal.invariant-loop-left
invariant-loop-left l =
    record {
      ready : IfMore l.left (Ready l.src);
      within : l.end ≤ length l.fn.out;
      so_far : Left l.src l.fn.out l.from l.fn.run l.out l.end l.left;
      ahead : IfMore l.left (λ here. (l.fn.run.at ≤ here.at) × (here.at ≤ l.fn.run.at → l.end ≡ l.from));
    }

abbrev pub decreases-loop-left : goal.decreases-loop-left
decreases-loop-left l = bytes_left l.src l.left
