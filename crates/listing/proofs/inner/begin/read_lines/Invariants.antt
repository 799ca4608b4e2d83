-- The lines that are left, read after the i values that were stored, give what all of them give.
use Rattle.std.proofs.Common.{◌≡◌, ◌+◌, ◌-◌, ◌≤◌, [], length, take}
use Rattle.listing.specs.Run.{open_from}
use Rattle.listing.proofs.inner.begin.read_lines.Given as goal

abbrev pub invariant-loop-i : goal.invariant-loop-i
invariant-loop-i l =
    record {
      within : l.at ≤ length l.src;
      far : l.i ≤ l.at;
      eight : length l.value-items ≡ 8;
      left : open_from 8 1 0 [] l.src ≡ open_from (8 - l.i) (l.i + 1) l.at (take l.i l.value-items) l.src;
    }
